-- The tally of last edits is the history's count.
use Rattle.std.proofs.Common.{◌≡◌, ℕ, suc, ◌<◌, ◌≤◌, Bool, true, false, cond, not, ◌||◌, T, eqb, List, [], ◌∷◌, map, length, sym, refl, ap, ◌∙◌, subst, ⊎_elim, arith, eqb→eq, ne_eqb}
use Rattle.std.proofs.Math.Path.{fun_ext}
use Rattle.std.proofs.Math.Decide.{ℕ_discrete}
use Rattle.std.proofs.Math.Dec.{eqb_refl}
use Rattle.std.proofs.Math.ListN.{length-map}
use Rattle.std.specs.List.{AllByRecursion, filter, flat_map, list_any}
use Rattle.block.specs.Blocks.{sum_to}
use Rattle.block.proofs.Sums.{sum_same}
use Rattle.forest.specs.Plans.{any_to}
use Rattle.count.specs.Tally.{bit, live, distinct, tally}
use Rattle.forest.proofs.Counts.{any_at}
use Rattle.count.proofs.Sums.{image, any_some}
use Rattle.count.proofs.Totals.{stretches_same}
use Rattle.root.specs.Sheets.{places}
use Rattle.rules.specs.Lists.{Once}
use Rattle.rules.specs.Cells.{depth}
use Rattle.rules.specs.Sheets.{Sheet, draw, blank_sheet}
use Rattle.rules.specs.Stretches.{Stretch, same_stretch, touched, Proper}
use Rattle.rules.proofs.Tests.{or_left, or_right, or_either, is_true, is_false}
use Rattle.rules.proofs.Members.{list_any_flat_map}
use Rattle.rules.proofs.Onces.{In, in_either, from_distinct, to_distinct, distinct_once, from_filter}
use Rattle.rules.proofs.Touched.{stretch_self, stretch_tells, touched_proper}
use Rattle.history.specs.Histories.{Entry, Snapshot, History, is_live, first_snapshot, find, line_of}
use Rattle.history.specs.Counts.{touched_by, Mark, same_mark, mark, marks, all_marks, last_from, count}
use Rattle.history.specs.Laws.{LineLayered, LineBefore, SoundHistory}
use Rattle.history.proofs.Finds.{same_truth, all_mono, among_numbers, found_all, found_number}
use Rattle.history.proofs.Marked.{mark_self, mark_tells, from_marked}
use Rattle.history.proofs.Lasts.{marks_last, last_early}
use Rattle.history.proofs.Sounds.{all_before, all_layered, line_of_before}
use Rattle.bridge.specs.Shows.{stretch, last_edits}
use Rattle.bridge.proofs.Lengths.{number_length, mark_length}

-- every live snapshot's number is one of the table's
pub live_low : (n i s : ℕ) (h : History) → SoundHistory n i h → T (is_live s h) → s < places
unfolding places
live_low n i s h k t = let e = found_number first_snapshot s h.live t in let l = found_all (λ p. p.number ≤ 63) first_snapshot s h.live (all_mono (λ p a. a.low) h.live k.snapshots) t in omega (arith, e, l)

-- the marks of a line are proper stretches and early places
marks_ranged : (w h i : ℕ) (es : List Entry) (s : Sheet) (x : Mark) → w ≤ 256 → h ≤ 256 → LineLayered es → LineBefore i es → In same_mark x (marks w h es s) → Proper x.stretch × (x.place < i)
marks_ranged w h i [] s x a b l e t = absurd t
marks_ranged w h i (f ∷ es) s x a b l e t =
    let next = draw w h f.edit s in
    let free : Stretch → Bool = λ q. not (list_any (same_stretch q) (touched_by w h es next)) in
    ⊎_elim
    (λ u.
    let c = from_marked f.place x (filter free (touched w h f.edit s)) u in
    let d = from_filter same_stretch stretch_self stretch_tells free x.stretch (touched w h f.edit s) c.1 in
    ((touched_proper w h f.edit s x.stretch a b l.0 d.0).1, subst (λ (v : ℕ). v < i) (sym c.0) e.0))
    (λ u. marks_ranged w h i es next x a b l.1 e.1 u)
    (in_either same_mark x (map (mark f.place) (filter free (touched w h f.edit s))) (marks w h es next) t)

lines_ranged : (w h i : ℕ) (ps : List Snapshot) (x : Mark) → w ≤ 256 → h ≤ 256 → AllByRecursion (λ p. LineLayered p.line) ps → AllByRecursion (λ p. LineBefore i p.line) ps → In same_mark x (flat_map (λ p. marks w h p.line blank_sheet) ps) → Proper x.stretch × (x.place < i)
lines_ranged w h i [] x a b l e t = absurd t
lines_ranged w h i (p ∷ ps) x a b l e t =
    ⊎_elim
    (λ u. marks_ranged w h i p.line blank_sheet x a b l.0 e.0 u)
    (λ u. lines_ranged w h i ps x a b l.1 e.1 u)
    (in_either same_mark x (marks w h p.line blank_sheet) (flat_map (λ p. marks w h p.line blank_sheet) ps) t)

pub not_found : (other : Snapshot) (s : ℕ) (ps : List Snapshot) → list_any (λ p. eqb p.number s) ps ≡ false → find other s ps ≡ other
not_found other s [] e = refl
not_found other s (p ∷ ps) e = go (not_found other s ps) (eqb p.number s) e
  where
    go : (list_any (λ p. eqb p.number s) ps ≡ false → find other s ps ≡ other) → (b : Bool) → (b || list_any (λ p. eqb p.number s) ps) ≡ false → cond b p (find other s ps) ≡ other
    go ih true f = absurd (subst T f tt)
    go ih false f = ih f

one_more : (other : Snapshot) (n b : ℕ) (F : List Entry → ℕ) → F other.line ≡ 0 → (p : Snapshot) (ps : List Snapshot) → Once eqb (map (λ p. p.number) (p ∷ ps)) → ((s : ℕ) → T (list_any (λ p. eqb p.number s) (p ∷ ps)) → s < n)
    → (list_any (λ p. eqb (F p.line) (suc b)) ps ≡ any_to n (λ s. eqb (F (find other s ps).line) (suc b)))
    → list_any (λ p. eqb (F p.line) (suc b)) (p ∷ ps) ≡ any_to n (λ s. eqb (F (find other s (p ∷ ps)).line) (suc b))
one_more other n b F z p ps o r ih =
    same_truth (eqb (F p.line) (suc b) || list_any (λ p. eqb (F p.line) (suc b)) ps) (any_to n (λ s. eqb (F (find other s (p ∷ ps)).line) (suc b)))
    (λ t. ⊎_elim
    (λ u. rw (any_at n (λ s. eqb (F (find other s (p ∷ ps)).line) (suc b)) p.number (r p.number (or_left (eqb p.number p.number) (list_any (λ q. eqb q.number p.number) ps) (eqb_refl p.number)))
    (ap (λ (c : Bool). eqb (F (cond c p (find other p.number ps)).line) (suc b)) (is_true (eqb p.number p.number) (eqb_refl p.number)) ∙ is_true (eqb (F p.line) (suc b)) u)) tt)
    (λ u. let x = any_some n (λ s. eqb (F (find other s ps).line) (suc b)) (sym ih ∙ is_true (list_any (λ p. eqb (F p.line) (suc b)) ps) u) in
    elim (ℕ_discrete p.number x.0) [
      | yes e ↦ absurd (
          let g : find other x.0 ps ≡ other = not_found other x.0 ps (subst (λ (v : ℕ). list_any (λ q. eqb q.number v) ps ≡ false) e (sym (among_numbers p.number ps) ∙ is_false (list_any (eqb p.number) (map (λ p. p.number) ps)) o.0)) in
          omega (arith, z, eqb→eq (F (find other x.0 ps).line) (suc b) (rw x.2 tt), ap (λ (q : Snapshot). F q.line) g))
      | no e ↦ rw (any_at n (λ s. eqb (F (find other s (p ∷ ps)).line) (suc b)) x.0 x.1 (ap (λ (c : Bool). eqb (F (cond c p (find other x.0 ps)).line) (suc b)) (ne_eqb p.number x.0 e) ∙ x.2)) tt
    ])
    (or_either (eqb (F p.line) (suc b)) (list_any (λ p. eqb (F p.line) (suc b)) ps) t))
    (λ t. let x = any_some n (λ s. eqb (F (find other s (p ∷ ps)).line) (suc b)) (is_true (any_to n (λ s. eqb (F (find other s (p ∷ ps)).line) (suc b))) t) in back x.0 x.1 (eqb p.number x.0) x.2)
  where
    back : (s : ℕ) → s < n → (c : Bool) → eqb (F (cond c p (find other s ps)).line) (suc b) ≡ true → T (eqb (F p.line) (suc b) || list_any (λ p. eqb (F p.line) (suc b)) ps)
    back s l true e = or_left (eqb (F p.line) (suc b)) (list_any (λ p. eqb (F p.line) (suc b)) ps) (rw e tt)
    back s l false e = or_right (eqb (F p.line) (suc b)) (list_any (λ p. eqb (F p.line) (suc b)) ps) (rw (ih ∙ any_at n (λ s. eqb (F (find other s ps).line) (suc b)) s l e) tt)

-- over the list, or over the numbers
by_numbers : (other : Snapshot) (n b : ℕ) (F : List Entry → ℕ) → F other.line ≡ 0 → (ps : List Snapshot) → Once eqb (map (λ p. p.number) ps) → ((s : ℕ) → T (list_any (λ p. eqb p.number s) ps) → s < n)
    → list_any (λ p. eqb (F p.line) (suc b)) ps ≡ any_to n (λ s. eqb (F (find other s ps).line) (suc b))
by_numbers other n b F z [] o r = sym (is_false (any_to n (λ s. eqb (F other.line) (suc b))) (λ t. let x = any_some n (λ s. eqb (F other.line) (suc b)) (is_true (any_to n (λ s. eqb (F other.line) (suc b))) t) in omega (arith, z, eqb→eq (F other.line) (suc b) (rw x.2 tt))))
by_numbers other n b F z (p ∷ ps) o r = one_more other n b F z p ps o r (by_numbers other n b F z ps o.1 (λ s t. r s (or_right (eqb p.number s) (list_any (λ q. eqb q.number s) ps) t)))

-- the places of the table that are in use are the live snapshots
pub live_length : (n i : ℕ) (h : History) (roots : ℕ → ℕ) → SoundHistory n i h → ((s : ℕ) → s < places → eqb (roots s) 0 ≡ not (is_live s h)) → length h.live ≡ live places roots
live_length n i h roots f r =
    sym (length-map h.live (λ p. p.number)) ∙
    number_length places (map (λ p. p.number) h.live) f.once (λ s t. live_low n i s h f (subst T (among_numbers s h.live) t)) ∙
    sum_same places _ _ (λ s l. ap bit (among_numbers s h.live) ∙ flip (is_live s h) ∙ ap (λ c. cond {A = ℕ} c 0 1) (sym (r s l)))
  where
    flip : (b : Bool) → bit b ≡ cond {A = ℕ} (not b) 0 1
    flip true = refl
    flip false = refl

-- no last edit is later than the calls so far
pub last_edits_before : (n i : ℕ) (h : History) → SoundHistory n i h → (s t k q : ℕ) → last_edits h s t k q ≤ i
last_edits_before n i h f s t k q = last_early h.width h.height i (line_of s h) blank_sheet (stretch t k q) (line_of_before n i s h f)

pub count_tally : (n i : ℕ) (h : History) (roots : ℕ → ℕ) → SoundHistory n i h → ((s : ℕ) → s < places → eqb (roots s) 0 ≡ not (is_live s h)) → tally depth places roots (last_edits h) ≡ count h
count_tally n i h roots f r =
    let all = flat_map (λ p. marks h.width h.height p.line blank_sheet) h.live in
    let a = mark_length i (all_marks h) (distinct_once same_mark mark_self mark_tells all) (λ x t. lines_ranged h.width h.height i h.live x f.wide f.tall (all_layered n i h f) (all_before n i h f) (from_distinct same_mark mark_self mark_tells x all t)) in
    let b = stretches_same depth (λ t k q. sum_to i (λ b. bit (list_any (same_mark (mark b (stretch t (suc k) q))) (all_marks h)))) (λ t k q. distinct places (λ s. last_edits h s t (suc k) q)) (λ t k q _ _ _.
    sum_same i _ _ (λ b l. ap bit (on_lines (mark b (stretch t (suc k) q)) ∙ ap (λ (g : Snapshot → Bool). list_any g h.live) (fun_ext (λ p. marks_last h.width h.height p.line (stretch t (suc k) q) b))
    ∙ by_numbers first_snapshot places b (λ es. last_from h.width h.height blank_sheet es (stretch t (suc k) q)) refl h.live f.once (λ s t. live_low n i s h f t))) ∙
    image i places (λ s. last_edits h s t (suc k) q) (λ s l. last_edits_before n i h f s t (suc k) q)) in
    omega (arith, a, b, live_length n i h roots f r)
  where
    on_lines : (m : Mark) → list_any (same_mark m) (all_marks h) ≡ list_any (λ p. list_any (same_mark m) (marks h.width h.height p.line blank_sheet)) h.live
    on_lines m =
        let all = flat_map (λ p. marks h.width h.height p.line blank_sheet) h.live in
        same_truth (list_any (same_mark m) (all_marks h)) (list_any (same_mark m) all) (from_distinct same_mark mark_self mark_tells m all) (to_distinct same_mark mark_self mark_tells m all) ∙
        list_any_flat_map (same_mark m) (λ p. marks h.width h.height p.line blank_sheet) h.live
