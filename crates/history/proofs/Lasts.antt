-- The marks of a line are each stretch with the edit that was the last to change a cell of it.
use Rattle.std.proofs.Common.{◌≡◌, ℕ, zero, suc, ◌≤◌, Bool, true, false, cond, not, ◌&&◌, ◌||◌, T, eqb, List, [], ◌∷◌, ◌++◌, map, sym, refl, ap, ◌∙◌, subst, ap₂, ⊎_elim, arith, eqb→eq, T_not, ne_eqb}
use Rattle.std.proofs.Math.Dec.{eqb_refl, not_T}
use Rattle.std.specs.List.{filter, list_any}
use Rattle.std.proofs.lemmas.List.Folds.{list_any-append}
use Rattle.std.proofs.Math.Facts.{yes_and}
use Rattle.std.proofs.Math.Bool.{or-false}
use Rattle.rules.specs.Sheets.{Sheet, draw, drawn_on, blank_sheet}
use Rattle.rules.specs.Stretches.{Stretch, same_stretch, touched, touches}
use Rattle.rules.specs.DrawLaws.{Layered, OffSheet}
use Rattle.rules.proofs.Onces.{In, in_left, in_right, in_either, from_filter, to_filter}
use Rattle.rules.proofs.Tests.{and_left, and_right}
use Rattle.rules.proofs.Draws.{drawn_inside}
use Rattle.rules.proofs.Touched.{stretch_self, stretch_tells, touched_means}
use Rattle.history.specs.Histories.{Entry, shown}
use Rattle.history.specs.Counts.{touched_by, Mark, same_mark, mark, marks, or_this, last_from}
use Rattle.history.specs.Laws.{LineBefore, LineLayered, MarksMean, MarksLast}
use Rattle.history.proofs.Finds.{same_truth}
use Rattle.history.proofs.Marked.{from_marked, to_marked}
use Rattle.history.proofs.Takes.{on, last, firsts}

module _ (w h : ℕ) where
  -- the edit f on the sheet s takes a block for the stretch
  abbrev Hit : Entry → Sheet → Stretch → Type 0
  Hit f s q = In same_stretch q (touched w h f.edit s)

  record Split (es : List Entry) (s : Sheet) (q : Stretch) : Type 0 where
    before : List Entry
    later : List Entry
    entry : Entry
    stands : es ≡ before ++ (entry ∷ later)
    hit : Hit entry (on w h before s) q

  split : (es : List Entry) (s : Sheet) (q : Stretch) → In same_stretch q (touched_by w h es s) → Split es s q
  split [] s q t = absurd t
  split (f ∷ es) s q t =
      ⊎_elim
      (λ u. record { before = []; later = es; entry = f; stands = refl; hit = u })
      (λ u. let r = split es (draw w h f.edit s) q u in
      record { before = f ∷ r.before; later = r.later; entry = r.entry; stands = ap {B = List Entry} (λ l. f ∷ l) r.stands; hit = r.hit })
      (in_either same_stretch q (touched w h f.edit s) (touched_by w h es (draw w h f.edit s)) t)

  unsplit : (b : List Entry) (f : Entry) (a : List Entry) (s : Sheet) (q : Stretch) → Hit f (on w h b s) q → In same_stretch q (touched_by w h (b ++ (f ∷ a)) s)
  unsplit [] f a s q t = in_left same_stretch q (touched w h f.edit s) (touched_by w h a (draw w h f.edit s)) t
  unsplit (g ∷ b) f a s q t = in_right same_stretch q (touched w h g.edit s) (touched_by w h (b ++ (f ∷ a)) (draw w h g.edit s)) (unsplit b f a (draw w h g.edit s) q t)

  -- the same as LastTouch, by lists and from any sheet
  record Final (line : List Entry) (s : Sheet) (q : Stretch) (e : Entry) : Type 0 where
    before : List Entry
    later : List Entry
    stands : line ≡ before ++ (e ∷ later)
    hit : Hit e (on w h before s) q
    final : (b a : List Entry) (f : Entry) → later ≡ b ++ (f ∷ a) → Hit f (on w h (before ++ (e ∷ b)) s) q → ⊥

  to_marks : (before : List Entry) (e : Entry) (later : List Entry) (s : Sheet) (m : Mark) → m.place ≡ e.place → Hit e (on w h before s) m.stretch
      → ((b a : List Entry) (f : Entry) → later ≡ b ++ (f ∷ a) → Hit f (on w h (before ++ (e ∷ b)) s) m.stretch → ⊥)
      → In same_mark m (marks w h (before ++ (e ∷ later)) s)
  to_marks [] e later s m p t none =
      in_left same_mark m (firsts w h e later s) (marks w h later (draw w h e.edit s))
      (to_marked e.place m (filter (last w h later (draw w h e.edit s)) (touched w h e.edit s)) p
      (to_filter same_stretch stretch_self stretch_tells (last w h later (draw w h e.edit s)) m.stretch (touched w h e.edit s) t
      (not_T (list_any (same_stretch m.stretch) (touched_by w h later (draw w h e.edit s)))
      (λ u. let r = split later (draw w h e.edit s) m.stretch u in none r.before r.later r.entry r.stands r.hit))))
  to_marks (g ∷ before) e later s m p t none =
      in_right same_mark m (firsts w h g (before ++ (e ∷ later)) s) (marks w h (before ++ (e ∷ later)) (draw w h g.edit s)) (to_marks before e later (draw w h g.edit s) m p t none)

  from_marks : (es : List Entry) (s : Sheet) (m : Mark) → In same_mark m (marks w h es s) → (e : Entry) × (m.place ≡ e.place) × Final es s m.stretch e
  from_marks [] s m t = absurd t
  from_marks (f ∷ es) s m t =
      let next = draw w h f.edit s in
      ⊎_elim
      (λ u.
      let r = from_marked f.place m (filter (last w h es next) (touched w h f.edit s)) u in
      let k = from_filter same_stretch stretch_self stretch_tells (last w h es next) m.stretch (touched w h f.edit s) r.1 in (
        f,
        r.0,
        record {
          before = [];
          later = es;
          stands = refl;
          hit = k.0;
          final = λ b a g e t. T_not (list_any (same_stretch m.stretch) (touched_by w h es next)) k.1
              (subst (λ (l : List Entry). In same_stretch m.stretch (touched_by w h l next)) (sym e) (unsplit b g a next m.stretch t));
        },
      ))
      (λ u.
      let r = from_marks es next m u in (
        r.0,
        r.1,
        record {
          before = f ∷ r.2.before;
          later = r.2.later;
          stands = ap {B = List Entry} (λ l. f ∷ l) r.2.stands;
          hit = r.2.hit;
          final = r.2.final;
        },
      ))
      (in_either same_mark m (firsts w h f es s) (marks w h es next) t)

layered_at : (b : List Entry) (f : Entry) (a : List Entry) → LineLayered (b ++ (f ∷ a)) → Layered f.edit × LineLayered a
layered_at [] f a l = l
layered_at (g ∷ b) f a l = layered_at b f a l.1

pub marks_mean : MarksMean
marks_mean w h line m a b layered =
    let off : (es : List Entry) → OffSheet w h (shown w h es) = λ es. drawn_inside w h (map (λ e. e.edit) es) in
    let q = m.stretch in (
      (λ x.
          let l = x.last in
          let e = x.entry in
          let ls = layered_at l.before e l.later (subst LineLayered l.stands layered) in
          subst (λ (es : List Entry). T (list_any (same_mark m) (marks w h es blank_sheet))) (sym l.stands)
          (to_marks w h l.before e l.later blank_sheet m x.place ((touched_means w h e.edit (shown w h l.before) q a b ls.0 (off l.before)).0 (x.proper, l.touches))
          (λ c d f s t. l.last c d f s ((touched_means w h f.edit (shown w h (l.before ++ (e ∷ c))) q a b (layered_at c f d (subst LineLayered s ls.1)).0 (off (l.before ++ (e ∷ c)))).1 t).1))),
      (λ t.
          let r = from_marks w h line blank_sheet m t in
          let l = r.2 in
          let e = r.0 in
          let ls = layered_at l.before e l.later (subst LineLayered l.stands layered) in
          let p = (touched_means w h e.edit (shown w h l.before) q a b ls.0 (off l.before)).1 l.hit in
          record {
            proper = p.0;
            entry = e;
            place = r.1;
            last = record {
              before = l.before;
              later = l.later;
              stands = l.stands;
              touches = p.1;
              last = λ c d f s t. l.final c d f s ((touched_means w h f.edit (shown w h (l.before ++ (e ∷ c))) q a b (layered_at c f d (subst LineLayered s ls.1)).0 (off (l.before ++ (e ∷ c)))).0 (p.0, t));
            };
          }),
    )

not_zero : (p : ℕ) → eqb (suc p) 0 ≡ false
not_zero p = ne_eqb (suc p) 0 (λ e. omega (arith, e))

zero_not : (p : ℕ) → eqb 0 (suc p) ≡ false
zero_not p = ne_eqb 0 (suc p) (λ e. omega (arith, e))

one_less : (a b : ℕ) → eqb a b ≡ eqb (suc b) (suc a)
one_less a b = same_truth (eqb a b) (eqb (suc b) (suc a)) (λ t. rw (eqb→eq a b t) (eqb_refl (suc b))) (λ t. let e : a ≡ b = omega (arith, eqb→eq (suc b) (suc a) t) in rw e (eqb_refl b))

-- one edit more
pub last_more : (w h : ℕ) (s : Sheet) (es : List Entry) (e : Entry) (q : Stretch) → last_from w h s (es ++ (e ∷ [])) q ≡ cond (touches w h e.edit (drawn_on w h s (map (λ e. e.edit) es)) q) (suc e.place) (last_from w h s es q)
last_more w h s [] e q = refl
last_more w h s (d ∷ es) e q =
    ap (or_this (touches w h d.edit s q) d.place) (last_more w h (draw w h d.edit s) es e q) ∙
    go (touches w h e.edit (drawn_on w h s (map (λ e. e.edit) (d ∷ es))) q) (touches w h d.edit s q) (last_from w h (draw w h d.edit s) es q)
  where
    go : (t u : Bool) (l : ℕ) → or_this u d.place (cond t (suc e.place) l) ≡ cond t (suc e.place) (or_this u d.place l)
    go true u l = refl
    go false u l = refl

-- a stretch that is touched has a last edit
touched_last : (w h : ℕ) (es : List Entry) (s : Sheet) (q : Stretch) → list_any (same_stretch q) (touched_by w h es s) ≡ not (eqb (last_from w h s es q) 0)
touched_last w h [] s q = refl
touched_last w h (e ∷ es) s q =
    list_any-append (same_stretch q) (touched w h e.edit s) (touched_by w h es (draw w h e.edit s)) ∙
    ap (λ t. touches w h e.edit s q || t) (touched_last w h es (draw w h e.edit s) q) ∙
    go (touches w h e.edit s q) (last_from w h (draw w h e.edit s) es q)
  where
    go : (t : Bool) (l : ℕ) → (t || not (eqb l 0)) ≡ not (eqb (or_this t e.place l) 0)
    go true zero = ap not (sym (not_zero e.place))
    go true (suc l) = ap not (sym (not_zero l))
    go false zero = refl
    go false (suc l) = refl

-- the marks are the stretches with their last edits
mark_last : (w h : ℕ) (es : List Entry) (s : Sheet) (q : Stretch) (p : ℕ) → list_any (same_mark (mark p q)) (marks w h es s) ≡ eqb (last_from w h s es q) (suc p)
mark_last w h [] s q p = sym (zero_not p)
mark_last w h (e ∷ es) s q p =
    list_any-append (same_mark (mark p q)) (map (mark e.place) firsts) (marks w h es next) ∙
    ap₂ ◌||◌ (same_truth (list_any (same_mark (mark p q)) (map (mark e.place) firsts)) ((touches w h e.edit s q && not (list_any (same_stretch q) later)) && eqb p e.place) to from) (mark_last w h es next q p) ∙
    ap (λ t. ((touches w h e.edit s q && not t) && eqb p e.place) || eqb (last_from w h next es q) (suc p)) (touched_last w h es next q) ∙
    go (touches w h e.edit s q) (last_from w h next es q)
  where
    next : Sheet
    next = draw w h e.edit s

    later : List Stretch
    later = touched_by w h es next

    free : Stretch → Bool
    free q = not (list_any (same_stretch q) later)

    firsts : List Stretch
    firsts = filter free (touched w h e.edit s)

    to : T (list_any (same_mark (mark p q)) (map (mark e.place) firsts)) → T ((touches w h e.edit s q && free q) && eqb p e.place)
    to t =
        let a = from_marked e.place (mark p q) firsts t in
        let b = from_filter same_stretch stretch_self stretch_tells free q (touched w h e.edit s) a.1 in
        yes_and (touches w h e.edit s q && free q) (eqb p e.place) (yes_and (touches w h e.edit s q) (free q) b.0 b.1) (rw a.0 (eqb_refl e.place))

    from : T ((touches w h e.edit s q && free q) && eqb p e.place) → T (list_any (same_mark (mark p q)) (map (mark e.place) firsts))
    from t =
        let a = and_left (touches w h e.edit s q && free q) (eqb p e.place) t in
        let b = eqb→eq p e.place (and_right (touches w h e.edit s q && free q) (eqb p e.place) t) in
        to_marked e.place (mark p q) firsts b (to_filter same_stretch stretch_self stretch_tells free q (touched w h e.edit s) (and_left (touches w h e.edit s q) (free q) a) (and_right (touches w h e.edit s q) (free q) a))

    go : (t : Bool) (l : ℕ) → (((t && not (not (eqb l 0))) && eqb p e.place) || eqb l (suc p)) ≡ eqb (or_this t e.place l) (suc p)
    go true zero = ap (λ y. eqb p e.place || y) (zero_not p) ∙ or-false (eqb p e.place) ∙ one_less p e.place
    go true (suc l) = ap (λ y. (not (not y) && eqb p e.place) || eqb (suc l) (suc p)) (not_zero l)
    go false zero = refl
    go false (suc l) = refl

-- a line made before the place i has no later last edit
pub last_early : (w h i : ℕ) (es : List Entry) (s : Sheet) (q : Stretch) → LineBefore i es → last_from w h s es q ≤ i
last_early w h i [] s q b = omega arith
last_early w h i (e ∷ es) s q b = go (touches w h e.edit s q) (last_from w h (draw w h e.edit s) es q) (last_early w h i es (draw w h e.edit s) q b.1)
  where
    go : (t : Bool) (l : ℕ) → l ≤ i → or_this t e.place l ≤ i
    go true zero l = omega (arith, b.0)
    go true (suc m) l = l
    go false zero l = l
    go false (suc m) l = l

pub marks_last : MarksLast
marks_last w h line q p = mark_last w h line blank_sheet q p
