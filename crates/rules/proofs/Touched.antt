-- The stretches that are counted for an edit are those of which it changes a cell.
use Rattle.std.proofs.Common.{◌≡◌, ℕ, zero, suc, ◌+◌, ◌-◌, ◌*◌, ◌/◌, ◌^◌, ◌<◌, ◌≤◌, Bool, true, false, not, ◌&&◌, T, eqb, ltb, map, sym, refl, ap, ◌∙◌, subst, ⊎_elim, div-lt_iff_lt-mul, arith, eqb→eq, pow-add}
use Rattle.std.proofs.Math.Nat.{one-le-pow}
use Rattle.std.proofs.lemmas.Bool.{cases_eq}
use Rattle.std.proofs.lemmas.Bool.Decides.{nat_tests}
use Rattle.std.proofs.Math.Dec.{eqb_refl}
use Rattle.std.specs.List.{flat_map, list_any, range_with_len}
use Rattle.std.proofs.Math.Facts.{yes_and}
use Rattle.rules.specs.Lists.{below}
use Rattle.rules.specs.Cells.{depth, cells_on, dot_index}
use Rattle.rules.specs.Sheets.{Sheet, Edit, stroke, fill, frisket, layer, draw, tree_of, changed, word_of}
use Rattle.rules.specs.Stretches.{Stretch, same_stretch, Proper, stretch_at, stretches_of, touches}
use Rattle.rules.specs.DrawLaws.{Layered, TouchedMeans}
use Rattle.rules.proofs.Tests.{and_left, and_right, or_left, or_right, or_either}
use Rattle.rules.proofs.Onces.{In, from_distinct, to_distinct, from_filter}
use Rattle.rules.proofs.Members.{list_any_flat_map, list_any_map, some_of, of_some, in_bounds, some_in_row}
use Rattle.rules.proofs.Places.{dots_placed}
use Rattle.rules.proofs.Changes.{changed_means}

pub stretch_self : (a : Stretch) → T (same_stretch a a)
stretch_self a = yes_and (eqb a.tree a.tree && eqb a.order a.order) (eqb a.quotient a.quotient) (yes_and (eqb a.tree a.tree) (eqb a.order a.order) (eqb_refl a.tree) (eqb_refl a.order)) (eqb_refl a.quotient)

pub stretch_tells : (a b : Stretch) → T (same_stretch a b) → a ≡ b
stretch_tells a b t =
    let p = and_left (eqb a.tree b.tree && eqb a.order b.order) (eqb a.quotient b.quotient) t in
    let r = eqb→eq a.quotient b.quotient (and_right (eqb a.tree b.tree && eqb a.order b.order) (eqb a.quotient b.quotient) t) in
    let q = eqb→eq a.tree b.tree (and_left (eqb a.tree b.tree) (eqb a.order b.order) p) in
    let o = eqb→eq a.order b.order (and_right (eqb a.tree b.tree) (eqb a.order b.order) p) in
    λ i. record { tree = q i; order = o i; quotient = r i }

eq→eqb : {a b : ℕ} → a ≡ b → T (eqb a b)
eq→eqb {a} {b} e = rw e (eqb_refl b)

-- a stretch that holds a cell, of one of n orders from a on
pub record Holds (t i a n : ℕ) (q : Stretch) : Type 0 where
  pub tree : q.tree ≡ t
  pub quotient : q.quotient ≡ i / 16 ^ q.order
  pub low : a ≤ q.order
  pub high : q.order < a + n

pub from_orders : (tree i a n : ℕ) (q : Stretch) → In same_stretch q (map (stretch_at tree i) (range_with_len a n)) → Holds tree i a n q
from_orders tree i a zero q t = absurd t
from_orders tree i a (suc n) q t =
    ⊎_elim
    (λ u. let e = stretch_tells q (stretch_at tree i a) u in
    let o : q.order ≡ a = ap (λ (r : Stretch). r.order) e in
    record { tree = ap (λ (r : Stretch). r.tree) e; quotient = ap (λ (r : Stretch). r.quotient) e ∙ ap (λ k. i / 16 ^ k) (sym o); low = omega arith; high = omega arith })
    (λ u. let r = from_orders tree i (a + 1) n q u in
    record { tree = r.tree; quotient = r.quotient; low = omega (arith, r.low); high = omega (arith, r.high) })
    (or_either (same_stretch q (stretch_at tree i a)) (list_any (same_stretch q) (map (stretch_at tree i) (range_with_len (a + 1) n))) t)

pub to_orders : (tree i a n : ℕ) (q : Stretch) → Holds tree i a n q → In same_stretch q (map (stretch_at tree i) (range_with_len a n))
to_orders tree i a zero q k = absurd (omega (arith, k.low, k.high))
to_orders tree i a (suc n) q k =
    ⊎_elim
    (λ g. or_left (same_stretch q (stretch_at tree i a)) (list_any (same_stretch q) (map (stretch_at tree i) (range_with_len (a + 1) n)))
    (yes_and (eqb q.tree tree && eqb q.order a) (eqb q.quotient (i / 16 ^ a))
    (yes_and (eqb q.tree tree) (eqb q.order a) (eq→eqb k.tree) (eq→eqb g))
    (eq→eqb (k.quotient ∙ ap (λ (j : ℕ). i / 16 ^ j) g))))
    (λ g. or_right (same_stretch q (stretch_at tree i a)) (list_any (same_stretch q) (map (stretch_at tree i) (range_with_len (a + 1) n)))
    (to_orders tree i (a + 1) n q (record { tree = k.tree; quotient = k.quotient; low = omega (arith, k.low); high = omega (arith, k.high) })))
    (cases_eq q.order a)

-- the cells on a sheet are cells of their tree
pub cells_below : (w h tree i : ℕ) → w ≤ 256 → h ≤ 256 → tree < 10 → T (list_any (eqb i) (cells_on w h tree)) → i < 16 ^ depth tree
cells_below w h tree i a b l t = go (ltb tree 8) (eqb tree 8) refl refl
  where
    dots : T (list_any (eqb i) (flat_map (λ y. map (λ x. dot_index x y) (below w)) (below h))) → i < 65536
    dots u =
        let r = some_in_row (λ y. list_any (eqb i) (map (λ x. dot_index x y) (below w))) h (rw list_any_flat_map at u) in
        let q = some_in_row (λ x. eqb i (dot_index x r.0)) w (subst T (list_any_map (eqb i) (λ x. dot_index x r.0) (below w)) r.2) in
        subst (λ (k : ℕ). k < 65536) (sym (eqb→eq i (dot_index q.0 r.0) q.2)) (dots_placed.within q.0 r.0)

    strips : T (list_any (eqb i) (flat_map (λ y. range_with_len (8 * y) ((w + 31) / 32)) (below h))) → i < 4096
    strips u =
        let r = some_in_row (λ y. list_any (eqb i) (range_with_len (8 * y) ((w + 31) / 32))) h (rw list_any_flat_map at u) in
        let q = in_bounds i (8 * r.0) ((w + 31) / 32) r.2 in
        let c = r.1 in let d = q.1 in let k : (w + 31) / 32 ≤ 8 = omega arith in omega arith

    go : (c d : Bool) → ltb tree 8 ≡ c → eqb tree 8 ≡ d → i < 16 ^ depth tree
    go true d e f = rw e (dots (rw e at t))
    go false true e f = rw (e, f) (strips (rw (e, f) at t))
    go false false e f =
        let nine : eqb tree 9 ≡ true = grind (arith, nat_tests) in
        rw (e, f, nine) (let q = in_bounds i 0 8 (rw (e, f) at t) in let c = q.1 in omega arith)

-- the tree of an edit is one of the ten
pub tree_below : (e : Edit) → Layered e → tree_of e < 10
tree_below (stroke l pen ps) h = omega arith
tree_below (fill l pen p) h = omega arith
tree_below (frisket protects a b) h = omega arith
tree_below (layer l o) h = omega arith

quotient_below : (i d k : ℕ) → i < 16 ^ d → k ≤ d → i / 16 ^ k < 16 ^ (d - k)
quotient_below i d k h l =
    let e : d - k + k ≡ d = omega arith in
    (div-lt_iff_lt-mul (one-le-pow k 16 (omega arith))).1 (subst (λ (v : ℕ). i < v) (ap (λ (v : ℕ). 16 ^ v) (sym e) ∙ pow-add 16 (d - k) k) h)

-- a touched stretch is a proper one, of the edit's tree, and holds a changed cell
pub touched_holds : (w h : ℕ) (e : Edit) (s : Sheet) (q : Stretch) → T (touches w h e s q)
    → (i : ℕ) × T (list_any (eqb i) (changed w h e s)) × Holds (tree_of e) i 1 (depth (tree_of e)) q
touched_holds w h e s q t =
    let cs = changed w h e s in
    let all = flat_map (stretches_of (tree_of e)) cs in
    let u = from_distinct same_stretch stretch_self stretch_tells q all t in
    let r = some_of (λ i. list_any (same_stretch q) (stretches_of (tree_of e) i)) cs eqb eqb_refl (rw list_any_flat_map at u) in
    (r.0, r.1, from_orders (tree_of e) r.0 1 (depth (tree_of e)) q r.2)

changed_below : (w h : ℕ) (e : Edit) (s : Sheet) (i : ℕ) → w ≤ 256 → h ≤ 256 → Layered e → T (list_any (eqb i) (changed w h e s)) → i < 16 ^ depth (tree_of e)
changed_below w h e s i a b layered t =
    let f : ℕ → Bool = λ j. not (eqb (word_of s (tree_of e) j) (word_of (draw w h e s) (tree_of e) j)) in
    cells_below w h (tree_of e) i a b (tree_below e layered) (from_filter eqb eqb_refl eqb→eq f i (cells_on w h (tree_of e)) t).0

pub touched_proper : (w h : ℕ) (e : Edit) (s : Sheet) (q : Stretch) → w ≤ 256 → h ≤ 256 → Layered e → T (touches w h e s q) → (q.tree ≡ tree_of e) × Proper q
touched_proper w h e s q a b layered t =
    let r = touched_holds w h e s q t in
    let k = r.2 in
    let d : depth q.tree ≡ depth (tree_of e) = ap depth k.tree in
    let l = changed_below w h e s r.0 a b layered r.1 in
    let high : q.order ≤ depth (tree_of e) = omega (arith, k.high) in (
      k.tree,
      record {
        tree = subst (λ (z : ℕ). z < 10) (sym k.tree) (tree_below e layered);
        low = k.low;
        high = subst (λ (z : ℕ). q.order ≤ z) (sym d) high;
        within =
            subst (λ (z : ℕ). q.quotient < 16 ^ (z - q.order)) (sym d)
            (subst (λ (z : ℕ). z < 16 ^ (depth (tree_of e) - q.order)) (sym k.quotient) (quotient_below r.0 (depth (tree_of e)) q.order l high));
      },
    )

pub touched_means : TouchedMeans
touched_means w h e s q a b layered off =
    let cs = changed w h e s in
    let all = flat_map (stretches_of (tree_of e)) cs in (
      (λ pt.
          let p = pt.0 in
          let t = pt.1 in
          let c = (changed_means w h e s layered off q.tree t.cell p.tree t.within).0 t.differs in
          let high : q.order ≤ depth (tree_of e) = subst (λ (k : ℕ). q.order ≤ depth k) c.0 p.high in
          to_distinct same_stretch stretch_self stretch_tells q all
          (rw list_any_flat_map (of_some (λ i. list_any (same_stretch q) (stretches_of (tree_of e) i)) t.cell cs eqb eqb→eq c.1
          (to_orders (tree_of e) t.cell 1 (depth (tree_of e)) q (record { tree = c.0; quotient = t.held; low = p.low; high = omega arith }))))),
      (λ t.
          let r = touched_holds w h e s q t in
          let k = r.2 in
          let p = (touched_proper w h e s q a b layered t).1 in
          let l : r.0 < 16 ^ depth q.tree = subst (λ (m : ℕ). r.0 < 16 ^ depth m) (sym k.tree) (changed_below w h e s r.0 a b layered r.1) in (
            p,
            record { cell = r.0; within = l; held = k.quotient; differs = (changed_means w h e s layered off q.tree r.0 p.tree l).1 (k.tree, r.1) },
          )),
    )
