-- An edit raises the count by exactly its need.
use Rattle.std.proofs.Common.{◌≡◌, ℕ, ◌<◌, Bool, true, false, cond, not, ◌||◌, T, eqb, ◌⊎◌, List, [], ◌∷◌, ◌++◌, map, length, sym, ap, ◌∙◌, subst, inl, inr, ⊎_elim, append_assoc, append-nil, arith, T_not, length-append}
use Rattle.std.proofs.Math.Dec.{not_T}
use Rattle.std.proofs.Math.ListN.{length-map}
use Rattle.std.specs.List.{AllByRecursion, filter, flat_map, list_any}
use Rattle.rules.specs.Lists.{distinct}
use Rattle.rules.specs.Sheets.{Sheet, draw, drawn_on, tree_of, changed, blank_sheet}
use Rattle.rules.specs.Stretches.{Stretch, same_stretch, stretches_of, touched}
use Rattle.rules.proofs.Onces.{In, in_left, in_right, in_either, from_distinct, to_distinct, distinct_once, as_long, once_append, from_filter, to_filter}
use Rattle.rules.proofs.Touched.{stretch_self, stretch_tells}
use Rattle.history.specs.Histories.{Entry, Snapshot, first_snapshot, find, line_of, sheet_of}
use Rattle.history.specs.Counts.{touched_by, Mark, same_mark, mark, marks}
use Rattle.history.specs.Calls.{made}
use Rattle.history.specs.Laws.{LineBefore, TakesNeed}
use Rattle.history.proofs.Marked.{mark_self, mark_tells, from_marked, to_marked, marked_once}

module _ (w h : ℕ) where
  -- the sheet after the edits of a line
  abbrev pub on : List Entry → Sheet → Sheet
  on es s = drawn_on w h s (map (λ e. e.edit) es)

  touched_more : (q : Stretch) (es : List Entry) (e : Entry) (s : Sheet) → In same_stretch q (touched_by w h es s) → In same_stretch q (touched_by w h (es ++ (e ∷ [])) s)
  touched_more q [] e s t = absurd t
  touched_more q (f ∷ es) e s t =
      ⊎_elim
      (λ u. in_left same_stretch q (touched w h f.edit s) (touched_by w h (es ++ (e ∷ [])) (draw w h f.edit s)) u)
      (λ u. in_right same_stretch q (touched w h f.edit s) (touched_by w h (es ++ (e ∷ [])) (draw w h f.edit s)) (touched_more q es e (draw w h f.edit s) u))
      (in_either same_stretch q (touched w h f.edit s) (touched_by w h es (draw w h f.edit s)) t)

  -- whether no later edit touches the stretch
  abbrev pub last : List Entry → Sheet → Stretch → Bool
  last es s q = not (list_any (same_stretch q) (touched_by w h es s))

  -- the marks of the first edit of a line
  abbrev pub firsts : Entry → List Entry → Sheet → List Mark
  firsts f es s = map (mark f.place) (filter (last es (draw w h f.edit s)) (touched w h f.edit s))

  old_or_new : (m : Mark) (es : List Entry) (e : Entry) (s : Sheet) → In same_mark m (marks w h (es ++ (e ∷ [])) s)
      → In same_mark m (marks w h es s) ⊎ ((m.place ≡ e.place) × In same_stretch m.stretch (touched w h e.edit (on es s)))
  old_or_new m [] e s t =
      ⊎_elim
      (λ u. let r = from_marked e.place m (filter (last [] (draw w h e.edit s)) (touched w h e.edit s)) u in
      inr (r.0, (from_filter same_stretch stretch_self stretch_tells (last [] (draw w h e.edit s)) m.stretch (touched w h e.edit s) r.1).0))
      (λ u. absurd u)
      (in_either same_mark m (firsts e [] s) [] t)
  old_or_new m (f ∷ es) e s t =
      let next = draw w h f.edit s in
      ⊎_elim
      (λ u. let r = from_marked f.place m (filter (last (es ++ (e ∷ [])) next) (touched w h f.edit s)) u in
      let k = from_filter same_stretch stretch_self stretch_tells (last (es ++ (e ∷ [])) next) m.stretch (touched w h f.edit s) r.1 in
      inl (in_left same_mark m (firsts f es s) (marks w h es next)
      (to_marked f.place m (filter (last es next) (touched w h f.edit s)) r.0
      (to_filter same_stretch stretch_self stretch_tells (last es next) m.stretch (touched w h f.edit s) k.0
      (not_T (list_any (same_stretch m.stretch) (touched_by w h es next)) (λ v. T_not (list_any (same_stretch m.stretch) (touched_by w h (es ++ (e ∷ [])) next)) k.1 (touched_more m.stretch es e next v)))))))
      (λ u. ⊎_elim (λ v. inl (in_right same_mark m (firsts f es s) (marks w h es next) v)) (λ v. inr v) (old_or_new m es e next u))
      (in_either same_mark m (firsts f (es ++ (e ∷ [])) s) (marks w h (es ++ (e ∷ [])) next) t)

  new_in : (m : Mark) (es : List Entry) (e : Entry) (s : Sheet) → m.place ≡ e.place → In same_stretch m.stretch (touched w h e.edit (on es s))
      → In same_mark m (marks w h (es ++ (e ∷ [])) s)
  new_in m [] e s p t =
      in_left same_mark m (firsts e [] s) [] (to_marked e.place m (filter (last [] (draw w h e.edit s)) (touched w h e.edit s)) p (to_filter same_stretch stretch_self stretch_tells (last [] (draw w h e.edit s)) m.stretch (touched w h e.edit s) t tt))
  new_in m (f ∷ es) e s p t =
      in_right same_mark m (firsts f (es ++ (e ∷ [])) s) (marks w h (es ++ (e ∷ [])) (draw w h f.edit s)) (new_in m es e (draw w h f.edit s) p t)

  mark_before : (i : ℕ) (m : Mark) (es : List Entry) (s : Sheet) → LineBefore i es → In same_mark m (marks w h es s) → m.place < i
  mark_before i m [] s b t = absurd t
  mark_before i m (f ∷ es) s b t =
      ⊎_elim
      (λ u. let e = (from_marked f.place m (filter (last es (draw w h f.edit s)) (touched w h f.edit s)) u).0 in let l = b.0 in omega arith)
      (λ u. mark_before i m es (draw w h f.edit s) b.1 u)
      (in_either same_mark m (firsts f es s) (marks w h es (draw w h f.edit s)) t)

  -- the marks of a snapshot
  abbrev pub of : Snapshot → List Mark
  of p = marks w h p.line blank_sheet

  marks_before : (i : ℕ) (m : Mark) (ps : List Snapshot) → AllByRecursion (λ p. LineBefore i p.line) ps → In same_mark m (flat_map of ps) → m.place < i
  marks_before i m [] b t = absurd t
  marks_before i m (p ∷ ps) b t =
      ⊎_elim (λ u. mark_before i m p.line blank_sheet b.0 u) (λ u. marks_before i m ps b.1 u) (in_either same_mark m (of p) (flat_map of ps) t)

  pub found_in : (m : Mark) (other : Snapshot) (s : ℕ) (ps : List Snapshot) → T (list_any (λ p. eqb p.number s) ps) → In same_mark m (of (find other s ps)) → In same_mark m (flat_map of ps)
  found_in m other s [] l t = absurd l
  found_in m other s (p ∷ ps) l t = go (λ k u. found_in m other s ps k u) (eqb p.number s) l t
    where
      go : (T (list_any (λ p. eqb p.number s) ps) → In same_mark m (of (find other s ps)) → In same_mark m (flat_map of ps))
          → (b : Bool) → T (b || list_any (λ p. eqb p.number s) ps) → In same_mark m (of (cond b p (find other s ps))) → In same_mark m (of p ++ flat_map of ps)
      go ih true k u = in_left same_mark m (of p) (flat_map of ps) u
      go ih false k u = in_right same_mark m (of p) (flat_map of ps) (ih k u)

  gather_push : (p : Snapshot) (ps : List Snapshot) → flat_map of (ps ++ (p ∷ [])) ≡ flat_map of ps ++ of p
  gather_push p [] = append-nil (of p)
  gather_push p (q ∷ ps) = ap (λ r. of q ++ r) (gather_push p ps) ∙ sym (append_assoc (of q) (flat_map of ps) (of p))

pub takes_need : TakesNeed
takes_need h i s e before head_live =
    let w = h.width in
    let t = h.height in
    let es = line_of h.head h in
    let entry : Entry = record { place = i; edit = e } in
    let new = made i s e h in
    let olds = flat_map (of w t) h.live in
    let qs = touched w t e (sheet_of h.head h) in
    let news = map (mark i) qs in
    let same : length (distinct same_mark (flat_map (of w t) (h.live ++ (new ∷ [])))) ≡ length (news ++ distinct same_mark olds)
    = as_long same_mark mark_self mark_tells (distinct same_mark (flat_map (of w t) (h.live ++ (new ∷ [])))) (news ++ distinct same_mark olds)
    (distinct_once same_mark mark_self mark_tells (flat_map (of w t) (h.live ++ (new ∷ []))))
    (once_append same_mark mark_self mark_tells news (distinct same_mark olds)
    (marked_once i qs (distinct_once same_stretch stretch_self stretch_tells (flat_map (stretches_of (tree_of e)) (changed w t e (sheet_of h.head h)))))
    (distinct_once same_mark mark_self mark_tells olds)
    (λ z a b. let p = (from_marked i z qs a).0 in let l = marks_before w t i z h.live before (from_distinct same_mark mark_self mark_tells z olds b) in omega arith))
    (λ z a. ⊎_elim
    (λ b. in_right same_mark z news (distinct same_mark olds) (to_distinct same_mark mark_self mark_tells z olds b))
    (λ b. ⊎_elim
    (λ c. in_right same_mark z news (distinct same_mark olds) (to_distinct same_mark mark_self mark_tells z olds (found_in w t z first_snapshot h.head h.live head_live c)))
    (λ c. in_left same_mark z news (distinct same_mark olds) (to_marked i z qs c.0 c.1))
    (old_or_new w t z es entry blank_sheet b))
    (in_either same_mark z olds (of w t new) (subst (In same_mark z) (gather_push w t new h.live) (from_distinct same_mark mark_self mark_tells z (flat_map (of w t) (h.live ++ (new ∷ []))) a))))
    (λ z a. to_distinct same_mark mark_self mark_tells z (flat_map (of w t) (h.live ++ (new ∷ []))) (subst (In same_mark z) (sym (gather_push w t new h.live))
    (⊎_elim
    (λ b. let r = from_marked i z qs b in in_right same_mark z olds (of w t new) (new_in w t z es entry blank_sheet r.0 r.1))
    (λ b. in_left same_mark z olds (of w t new) (from_distinct same_mark mark_self mark_tells z olds b))
    (in_either same_mark z news (distinct same_mark olds) a))))
    in
    let a = length-append h.live (new ∷ []) in
    let b = length-append news (distinct same_mark olds) in
    let c = length-map qs (mark i) in
    omega arith
