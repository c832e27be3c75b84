-- Which cells an edit changes.
use Rattle.std.proofs.Common.{◌≡◌, ℕ, suc, ◌+◌, ◌*◌, ◌/◌, ◌%◌, ◌^◌, ◌<◌, ◌≤◌, Bool, true, false, not, ◌&&◌, T, eqb, ltb, ◌⊎◌, map, sym, refl, ap, ◌∙◌, subst, inl, inr, ⊎_elim, zero-le, zero-add, arith, eqb→eq, ltb→lt, T_not}
use Rattle.std.proofs.Math.Path.{fun_ext}
use Rattle.std.proofs.lemmas.Bool.{ne_eqb}
use Rattle.std.proofs.lemmas.Bool.Decides.{eqb_tells, leb_tells}
use Rattle.std.proofs.Math.Dec.{eqb_refl, not_T}
use Rattle.std.specs.List.{flat_map, list_any, range_with_len}
use Rattle.rules.specs.Lists.{below}
use Rattle.rules.specs.Cells.{dot_word, dot_column, dot_row, dot_index, strip_word, strip_at, record_word, depth, cells_on}
use Rattle.rules.specs.Lines.{on_sheet}
use Rattle.rules.specs.Sheets.{Sheet, Edit, stroke, fill, frisket, layer, draw, word_of, tree_of}
use Rattle.rules.specs.DrawLaws.{OffSheet, Layered, ChangedMeans}
use Rattle.rules.proofs.Tests.{and_left, and_right}
use Rattle.rules.proofs.Members.{in_row, list_any_flat_map, list_any_map}
use Rattle.rules.proofs.Onces.{from_filter, to_filter}
use Rattle.rules.proofs.Places.{dots_placed}
use Rattle.rules.proofs.Draws.{draw_inside}

-- an edit leaves the other trees as they are
others : (w h : ℕ) (e : Edit) (s : Sheet) (tree i : ℕ) → tree < 10 → (tree ≡ tree_of e → ⊥) → word_of s tree i ≡ word_of (draw w h e s) tree i
others w h (stroke l pen ps) s tree i t ne = rw (ne_eqb tree l ne)
others w h (fill l pen p) s tree i t ne = rw (ne_eqb tree l ne)
others w h (frisket protects a b) s tree i t ne = rw (ne_eqb tree 8 ne)
others w h (layer l o) s tree i t ne =
    ⊎_elim
    (λ a. rw a.0)
    (λ a. let k : tree ≡ 8 = let b = a.1 in omega arith in rw k)
    (leb_tells (suc tree) 8)

module _ (w h : ℕ) (s t : Sheet) (o : OffSheet w h s) (p : OffSheet w h t) (i : ℕ) where
  dots : (tree : ℕ) → i < 65536
      → T (list_any (eqb i) (flat_map (λ y. map (λ x. dot_index x y) (below w)) (below h))) ⊎ (dot_word (s.dot tree (dot_column i) (dot_row i)) ≡ dot_word (t.dot tree (dot_column i) (dot_row i)))
  dots tree l = go (on_sheet w h (dot_column i, dot_row i)) refl
    where
      x : ℕ
      x = dot_column i

      y : ℕ
      y = dot_row i

      go : (b : Bool) → on_sheet w h (dot_column i, dot_row i) ≡ b
          → T (list_any (eqb i) (flat_map (λ y. map (λ x. dot_index x y) (below w)) (below h))) ⊎ (dot_word (s.dot tree (dot_column i) (dot_row i)) ≡ dot_word (t.dot tree (dot_column i) (dot_row i)))
      go true e =
          let f : ℕ → Bool = λ b. list_any (λ a. eqb i (dot_index a b)) (below w) in
          let q : list_any f (below h) ≡ list_any (eqb i) (flat_map (λ y. map (λ x. dot_index x y) (below w)) (below h))
          = ap (λ (g : ℕ → Bool). list_any g (below h)) (fun_ext (λ b. sym (list_any_map (eqb i) (λ a. dot_index a b) (below w))))
          ∙ sym (list_any_flat_map (eqb i) (λ y. map (λ x. dot_index x y) (below w)) (below h))
          in
          let u : T (ltb (dot_column i) w && ltb (dot_row i) h) = rw e tt in
          let c : dot_column i < w = ltb→lt (dot_column i) w (and_left (ltb (dot_column i) w) (ltb (dot_row i) h) u) in
          let r : dot_row i < h = ltb→lt (dot_row i) h (and_right (ltb (dot_column i) w) (ltb (dot_row i) h) u) in
          let v : T (eqb i (dot_index (dot_column i) (dot_row i))) = rw (dots_placed.back i l) (eqb_refl i) in
          inl (subst T q (in_row f 0 h (dot_row i) zero-le (rw zero-add r) (in_row (λ a. eqb i (dot_index a (dot_row i))) 0 w (dot_column i) zero-le (rw zero-add c) v)))
      go false e =
          let n : T (not (on_sheet w h (dot_column i, dot_row i))) = rw e tt in
          inr (ap dot_word (o.dots tree (dot_column i) (dot_row i) n ∙ sym (p.dots tree (dot_column i) (dot_row i) n)))

  -- a strip off the sheet is empty
  off_strip : ((b : ℕ) → T (not (on_sheet w h (32 * (i % 8) + b, i / 8)))) → strip_word (strip_at s.protected i) ≡ strip_word (strip_at t.protected i)
  off_strip n =
      ap strip_word
      (fun_ext (λ b. o.frisket (32 * (i % 8) + b) (i / 8) (n b) ∙ sym (p.frisket (32 * (i % 8) + b) (i / 8) (n b))))

  strips : T (list_any (eqb i) (flat_map (λ y. range_with_len (8 * y) ((w + 31) / 32)) (below h))) ⊎ (strip_word (strip_at s.protected i) ≡ strip_word (strip_at t.protected i))
  strips =
      ⊎_elim
      (λ a. ⊎_elim
      (λ b. let c = a.1 in let d = b.1 in
      inl (rw list_any_flat_map (in_row (λ y. list_any (eqb i) (range_with_len (8 * y) ((w + 31) / 32))) 0 h (i / 8) zero-le (rw zero-add a.1)
      (in_row (eqb i) (8 * (i / 8)) ((w + 31) / 32) i (omega arith) (omega arith) (eqb_refl i)))))
      (λ b. inr (off_strip (λ x. not_T (on_sheet w h (32 * (i % 8) + x, i / 8)) (λ u. let l = ltb→lt (32 * (i % 8) + x) w (and_left (ltb (32 * (i % 8) + x) w) (ltb (i / 8) h) u) in let c = b.1 in omega arith))))
      (leb_tells (suc (i % 8)) ((w + 31) / 32)))
      (λ a. inr (off_strip (λ x. not_T (on_sheet w h (32 * (i % 8) + x, i / 8)) (λ u. let l = ltb→lt (i / 8) h (and_right (ltb (32 * (i % 8) + x) w) (ltb (i / 8) h) u) in let c = a.1 in omega arith))))
      (leb_tells (suc (i / 8)) h)

  records : (8 ≤ i → s.opacity i ≡ t.opacity i) → T (list_any (eqb i) (below 8)) ⊎ (record_word (s.opacity i) ≡ record_word (t.opacity i))
  records r =
      ⊎_elim
      (λ a. inl (in_row (eqb i) 0 8 i zero-le (let b = a.1 in omega arith) (eqb_refl i)))
      (λ a. inr (ap record_word (r (let b = a.1 in omega arith))))
      (leb_tells (suc i) 8)

  -- a cell is among those on the sheet, or the same on both sheets
  on_or_same : (tree : ℕ) → i < 16 ^ depth tree → (8 ≤ i → s.opacity i ≡ t.opacity i) → T (list_any (eqb i) (cells_on w h tree)) ⊎ (word_of s tree i ≡ word_of t tree i)
  on_or_same tree l r = go (ltb tree 8) (eqb tree 8) refl refl
    where
      go : (a b : Bool) → ltb tree 8 ≡ a → eqb tree 8 ≡ b → T (list_any (eqb i) (cells_on w h tree)) ⊎ (word_of s tree i ≡ word_of t tree i)
      go true b e f = rw e (dots tree (rw e at l))
      go false true e f = rw (e, f) strips
      go false false e f = rw (e, f) (records r)

-- records past the eighth never change
past : (w h : ℕ) (e : Edit) (s : Sheet) (i : ℕ) → Layered e → 8 ≤ i → s.opacity i ≡ (draw w h e s).opacity i
past w h (stroke l pen ps) s i k q = refl
past w h (fill l pen p) s i k q = refl
past w h (frisket protects a b) s i k q = refl
past w h (layer l o) s i k q = rw (ne_eqb i l (λ e. omega arith))

pub changed_means : ChangedMeans
changed_means w h e s layered off tree i t l =
    let f : ℕ → Bool = λ j. not (eqb (word_of s (tree_of e) j) (word_of (draw w h e s) (tree_of e) j)) in (
      (λ d. ⊎_elim
          (λ a. (
            a.1,
            to_filter eqb eqb_refl eqb→eq f i (cells_on w h (tree_of e))
                (⊎_elim (λ b. subst (λ (k : ℕ). T (list_any (eqb i) (cells_on w h k))) a.1 b) (λ b. absurd (d b))
                (on_or_same w h s (draw w h e s) off (draw_inside w h e s off) i tree l (past w h e s i layered)))
                (not_T (eqb (word_of s (tree_of e) i) (word_of (draw w h e s) (tree_of e) i))
                (λ b. d (subst (λ (k : ℕ). word_of s k i ≡ word_of (draw w h e s) k i) (sym a.1) (eqb→eq (word_of s (tree_of e) i) (word_of (draw w h e s) (tree_of e) i) b)))),
          ))
          (λ a. absurd (d (others w h e s tree i t a.1)))
          (eqb_tells tree (tree_of e))),
      (λ c same.
          let k = (from_filter eqb eqb_refl eqb→eq f i (cells_on w h (tree_of e)) c.1).1 in
          T_not (eqb (word_of s (tree_of e) i) (word_of (draw w h e s) (tree_of e) i)) k
          (let q : word_of s (tree_of e) i ≡ word_of (draw w h e s) (tree_of e) i = subst (λ (k : ℕ). word_of s k i ≡ word_of (draw w h e s) k i) c.0 same in
          rw q (eqb_refl (word_of (draw w h e s) (tree_of e) i)))),
    )
