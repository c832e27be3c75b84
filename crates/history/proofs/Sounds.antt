-- What holds of the history of every run.
use Rattle.std.proofs.Common.{◌≡◌, ℕ, suc, ◌<◌, ◌≤◌, Bool, true, false, cond, not, ◌&&◌, ◌||◌, T, eqb, ltb, leb, List, [], ◌∷◌, ◌++◌, map, length, sym, refl, ap, ◌∙◌, subst, ⊎_elim, arith, eqb→eq, leb→le, ltb-false, true≢false, Option, None, Some}
use Rattle.std.proofs.lemmas.Bool.Decides.{eqb_tells}
use Rattle.std.specs.List.{AllByRecursion, filter, flat_map, list_any}
use Rattle.std.proofs.Math.Dec.{eqb_refl, not_T}
use Rattle.std.proofs.lemmas.List.Folds.{list_any-append}
use Rattle.std.proofs.lemmas.List.{length-map}
use Rattle.rules.proofs.Members.{length_filter_le}
use Rattle.rules.specs.Lists.{distinct, Once}
use Rattle.rules.specs.Sheets.{Edit, blank_sheet}
use Rattle.rules.specs.DrawLaws.{Layered}
use Rattle.rules.specs.Refusals.{Refusal, no_change, no_blocks}
use Rattle.rules.proofs.Tests.{and_left, and_right, or_left, or_right, or_either, is_true}
use Rattle.rules.proofs.Onces.{In, in_left, in_right, in_either, fits, distinct_once, from_distinct, to_distinct}
use Rattle.history.specs.Histories.{Entry, Snapshot, History, started, is_live, first_snapshot, find, snapshot, line_of, last_place, stands_under, latest_from, latest, children, latest_child}
use Rattle.history.specs.Counts.{left_of, Mark, same_mark, marks}
use Rattle.history.specs.Calls.{Call, start, edit, undo, redo, go, forget, ask_size, ask_head, ask_left, ask_parent, ask_dot, ask_flat, ask_protected, ask_record, ask_inked, ask_box, open_view, grounds, refusal, step, carried_out, made, edited, forgotten, moved_up, at_head, or_head, edit_grounds, changes_nothing, need_of, needs_more, number_taken, good_length}
use Rattle.history.specs.Laws.{LineBefore, LineLayered, StandsWell, SoundSnapshot, SoundHistory}
use Rattle.history.proofs.Finds.{all_mono, all_push, Among, found_all, found_or, found_number, find_still, once_push}
use Rattle.history.proofs.Grounds.{fail, fail_front, fail_back, not_false, or_false_left, or_false_right, grounds_layered}
use Rattle.history.proofs.Marked.{mark_self, mark_tells}
use Rattle.history.proofs.Takes.{takes_need, of}

pub line_later : (i : ℕ) (es : List Entry) → LineBefore i es → LineBefore (suc i) es
line_later i es b = all_mono (λ e l. omega arith) es b

-- a snapshot's facts, one call later, where it still stands
later : (i : ℕ) (h k : History) (p : Snapshot) → SoundSnapshot i h p → StandsWell k p → SoundSnapshot (suc i) k p
later i h k p s t = record { low = s.low; before = line_later i p.line s.before; layered = s.layered; stands = t }

pub all_before : (n i : ℕ) (h : History) → SoundHistory n i h → AllByRecursion (λ p. LineBefore i p.line) h.live
all_before n i h sound = all_mono (λ p s. s.before) h.live sound.snapshots

pub all_layered : (n i : ℕ) (h : History) → SoundHistory n i h → AllByRecursion (λ p. LineLayered p.line) h.live
all_layered n i h sound = all_mono (λ p s. s.layered) h.live sound.snapshots

pub line_of_before : (n i s : ℕ) (h : History) → SoundHistory n i h → LineBefore i (line_of s h)
line_of_before n i s h sound = found_or (λ p. LineBefore i p.line) first_snapshot s h.live tt (all_before n i h sound)

pub line_of_layered : (n i s : ℕ) (h : History) → SoundHistory n i h → LineLayered (line_of s h)
line_of_layered n i s h sound = found_or (λ p. LineLayered p.line) first_snapshot s h.live tt (all_layered n i h sound)

last_push : (e : Entry) (es : List Entry) → last_place (es ++ (e ∷ [])) ≡ e.place
last_push e [] = refl
last_push e (f ∷ []) = refl
last_push e (f ∷ (g ∷ es)) = last_push e (g ∷ es)

last_below : (i : ℕ) (es : List Entry) → 1 ≤ i → LineBefore i es → last_place es < i
last_below i [] o b = o
last_below i (e ∷ []) o b = b.0
last_below i (e ∷ (f ∷ es)) o b = last_below i (f ∷ es) o b.1

-- NOTHING DONE, AND ANOTHER HEAD

-- the places of the facts of a history move on with the calls
pub same_sound : (n i : ℕ) (h : History) → SoundHistory n i h → SoundHistory n (suc i) h
same_sound n i h sound = record {
  snapshots = all_mono (λ p s. later i h h p s s.stands) h.live sound.snapshots;
  once = sound.once;
  begun = λ t. omega arith;
  root = sound.root;
  head = sound.head;
  wide = sound.wide;
  tall = sound.tall;
  sized = sound.sized;
  fits = sound.fits;
}

pub head_sound : (n i s : ℕ) (h : History) → SoundHistory n i h → (T (started h) → T (is_live s h)) → SoundHistory n (suc i) (at_head s h)
head_sound n i s h sound live = record {
  snapshots = all_mono (λ p k. later i h (at_head s h) p k k.stands) h.live sound.snapshots;
  once = sound.once;
  begun = λ t. omega arith;
  root = sound.root;
  head = live;
  wide = sound.wide;
  tall = sound.tall;
  sized = sound.sized;
  fits = sound.fits;
}

-- the parent of the head is live
parent_live : (n i : ℕ) (h : History) → SoundHistory n i h → T (is_live h.head h) → T (is_live (or_head (snapshot h.head h).parent h) h)
parent_live n i h sound l = go (snapshot h.head h) (found_all (StandsWell h) first_snapshot h.head h.live (all_mono (λ p s. s.stands) h.live sound.snapshots) l)
  where
    go : (p : Snapshot) → StandsWell h p → T (is_live (or_head p.parent h) h)
    go p = at p.parent
      where
        at : (o : Option ℕ) → elim o as (λ _. Type 0) [ None ↦ (p.number ≡ 0) × (p.line ≡ []) | Some q ↦ (p.number ≡ 0 → ⊥) × T (is_live q h) × (last_place (line_of q h) < last_place p.line) ] → T (is_live (or_head o h) h)
        at None t = l
        at (Some q) t = t.1

-- the child made latest is one of the children
latest_among : (s : ℕ) (p : Snapshot) (ps : List Snapshot) → (latest_from p ps).number ≡ s → Among s (p ∷ ps)
latest_among s p [] e = or_left (eqb p.number s) false (subst (λ (k : ℕ). T (eqb k s)) (sym e) (eqb_refl s))
latest_among s p (q ∷ qs) e = go (ltb (last_place p.line) (last_place q.line)) (latest_among s (cond (ltb (last_place p.line) (last_place q.line)) q p) qs e)
  where
    rest : Bool
    rest = list_any (λ q. eqb q.number s) qs

    go : (b : Bool) → T (eqb (cond b q p).number s || rest) → T (eqb p.number s || (eqb q.number s || rest))
    go true t = or_right (eqb p.number s) (eqb q.number s || rest) t
    go false t =
        ⊎_elim
        (λ u. or_left (eqb p.number s) (eqb q.number s || rest) u)
        (λ u. or_right (eqb p.number s) (eqb q.number s || rest) (or_right (eqb q.number s) rest u))
        (or_either (eqb p.number s) rest t)

kept_among : {A : Type 0} (f g : A → Bool) (ps : List A) → T (list_any f (filter g ps)) → T (list_any f ps)
kept_among f g [] t = t
kept_among f g (p ∷ ps) t = go (kept_among f g ps) (g p) t
  where
    go : (T (list_any f (filter g ps)) → T (list_any f ps)) → (b : Bool) → T (list_any f (cond b (p ∷ filter g ps) (filter g ps))) → T (f p || list_any f ps)
    go ih true u = ⊎_elim (λ v. or_left (f p) (list_any f ps) v) (λ v. or_right (f p) (list_any f ps) (ih v)) (or_either (f p) (list_any f (filter g ps)) u)
    go ih false u = or_right (f p) (list_any f ps) (ih u)

child_live : (h : History) → T (is_live h.head h) → T (is_live (or_head (latest_child h) h) h)
child_live h l = go (children h) (λ s t. kept_among (λ p. eqb p.number s) (stands_under h.head) h.live t)
  where
    go : (ps : List Snapshot) → ((s : ℕ) → Among s ps → T (is_live s h)) → T (is_live (or_head (latest ps) h) h)
    go [] k = l
    go (p ∷ ps) k = k (latest_from p ps).number (latest_among (latest_from p ps).number p ps refl)

-- START

good_bounds : (n : ℕ) → T (good_length n) → (1 ≤ n) × (n ≤ 256)
good_bounds n t = (leb→le 1 n (and_left (leb 1 n) (leb n 256) t), leb→le n 256 (and_right (leb 1 n) (leb n 256) t))

start_sound : (n i w t : ℕ) (h : History) → T (good_length w && good_length t) → eqb (left_of n h) 0 ≡ false → SoundHistory n (suc i) (carried_out i (start w t) h)
start_sound n i w t h g e =
    let a = good_bounds w (and_left (good_length w) (good_length t) g) in
    let b = good_bounds t (and_right (good_length w) (good_length t) g) in
    record {
      snapshots = (record { low = omega arith; before = tt; layered = tt; stands = (refl, refl) }, tt);
      once = ((λ t. t), tt);
      begun = λ t. omega arith;
      root = λ t. tt;
      head = λ t. tt;
      wide = a.1;
      tall = b.1;
      sized = λ t. (a.0, b.0);
      fits = ⊎_elim (λ a. absurd (true≢false (sym a.0 ∙ e))) (λ a. let b = a.1 in omega arith) (eqb_tells (left_of n h) 0);
    }

-- AN EDIT

module _ (n i s : ℕ) (e : Edit) (h : History) (sound : SoundHistory n i h) (begun : T (started h)) (layered : Layered e) (free : number_taken s h ≡ false) where
  abbrev new : Snapshot
  new = made i s e h

  not_zero : s ≡ 0 → ⊥
  not_zero z = let f = or_false_left (eqb s 0) (ltb 63 s) (or_false_left (eqb s 0 || ltb 63 s) (is_live s h) free) in
      let y : T (eqb s 0) = rw z (eqb_refl 0) in subst T f y

  low : s ≤ 63
  low = ltb-false 63 s (or_false_right (eqb s 0) (ltb 63 s) (or_false_left (eqb s 0 || ltb 63 s) (is_live s h) free))

  fresh : is_live s h ≡ false
  fresh = or_false_right (eqb s 0 || ltb 63 s) (is_live s h) free

  live_still : (q : ℕ) → T (is_live q h) → T (is_live q (edited i s e h))
  live_still q t = rw list_any-append (or_left (list_any (λ p. eqb p.number q) h.live) (eqb s q || false) t)

  line_still : (q : ℕ) → T (is_live q h) → line_of q (edited i s e h) ≡ line_of q h
  line_still q t = ap (λ (p : Snapshot). p.line) (find_still first_snapshot new q h.live t)

  stands_still : (p : Snapshot) → StandsWell h p → StandsWell (edited i s e h) p
  stands_still p = go p.parent
    where
      at : History → Option ℕ → Type 0
      at k o = elim o [ None ↦ (p.number ≡ 0) × (p.line ≡ []) | Some q ↦ (p.number ≡ 0 → ⊥) × T (is_live q k) × (last_place (line_of q k) < last_place p.line) ]

      go : (o : Option ℕ) → at h o → at (edited i s e h) o
      go None t = t
      go (Some q) t = (t.0, live_still q t.1, subst (λ (es : List Entry). last_place es < last_place p.line) (sym (line_still q t.1)) t.2)

  new_sound : SoundSnapshot (suc i) (edited i s e h) new
  new_sound =
      let es = line_of h.head h in
      let before = line_of_before n i h.head h sound in
      let live = sound.head begun in
      record {
        low = low;
        before = all_push (λ f. f.place < suc i) (record { place = i; edit = e }) es (omega arith) (line_later i es before);
        layered = all_push (λ f. Layered f.edit) (record { place = i; edit = e }) es layered (line_of_layered n i h.head h sound);
        stands = (
          not_zero,
          live_still h.head live,
          (let l = last_below i es (sound.begun begun) before in
              let m = last_push (record { place = i; edit = e }) es in
              let k = ap last_place (line_still h.head live) in omega arith),
        );
      }

  pub edit_sound : needs_more n e h ≡ false → SoundHistory n (suc i) (edited i s e h)
  edit_sound enough = record {
    snapshots = all_push (SoundSnapshot (suc i) (edited i s e h)) new h.live new_sound (all_mono (λ p k. later i h (edited i s e h) p k (stands_still p k.stands)) h.live sound.snapshots);
    once = once_push new h.live sound.once fresh;
    begun = λ t. omega arith;
    root = λ t. live_still 0 (sound.root begun);
    head = λ t. rw list_any-append (or_right (list_any (λ p. eqb p.number s) h.live) (eqb s s || false) (or_left (eqb s s) false (eqb_refl s)));
    wide = sound.wide;
    tall = sound.tall;
    sized = λ t. sound.sized begun;
    fits =
        let t = takes_need h i s e (all_before n i h sound) (sound.head begun) in
        let f = sound.fits in
        let k = ltb-false (left_of n h) (need_of e h) enough in
        omega arith;
  }

-- FORGET

module _ (n i s : ℕ) (h : History) (sound : SoundHistory n i h) (begun : T (started h)) (live : T (is_live s h)) (not_zero : s ≡ 0 → ⊥) (not_head : s ≡ h.head → ⊥) where
  abbrev up : Option ℕ
  up = (snapshot s h).parent

  abbrev stays : Snapshot → Bool
  stays p = not (eqb p.number s)

  abbrev after : History
  after = forgotten s h

  pub moved_number : (p : Snapshot) → (moved_up s up p).number ≡ p.number
  moved_number p = go (stands_under s p)
    where
      go : (b : Bool) → (cond b (record { number = p.number; parent = up; line = p.line }) p).number ≡ p.number
      go true = refl
      go false = refl

  pub moved_line : (p : Snapshot) → (moved_up s up p).line ≡ p.line
  moved_line p = go (stands_under s p)
    where
      go : (b : Bool) → (cond b (record { number = p.number; parent = up; line = p.line }) p).line ≡ p.line
      go true = refl
      go false = refl

  abbrev rest : List Snapshot → List Snapshot
  rest ps = map (moved_up s up) (filter stays ps)

  -- what holds of each snapshot that stays, moved up, holds of the rest
  pub rest_all : (P Q : Snapshot → Type 0) → ((p : Snapshot) → P p → Q (moved_up s up p)) → (ps : List Snapshot) → AllByRecursion P ps → AllByRecursion Q (rest ps)
  rest_all P Q f [] a = tt
  rest_all P Q f (p ∷ ps) a = go (rest_all P Q f ps a.1) (stays p)
    where
      go : AllByRecursion Q (rest ps) → (c : Bool) → AllByRecursion Q (map (moved_up s up) (cond c (p ∷ filter stays ps) (filter stays ps)))
      go ih true = (f p a.0, ih)
      go ih false = ih

  pub rest_live : (q : ℕ) → (q ≡ s → ⊥) → (ps : List Snapshot) → Among q ps → Among q (rest ps)
  rest_live q ne [] t = t
  rest_live q ne (p ∷ ps) t = ⊎_elim (λ u. here u) (λ u. there (rest_live q ne ps u) (stays p)) (or_either (eqb p.number q) (list_any (λ p. eqb p.number q) ps) t)
    where
      there : Among q (rest ps) → (c : Bool) → Among q (map (moved_up s up) (cond c (p ∷ filter stays ps) (filter stays ps)))
      there ih true = or_right (eqb (moved_up s up p).number q) (list_any (λ p. eqb p.number q) (rest ps)) ih
      there ih false = ih

      here : T (eqb p.number q) → Among q (map (moved_up s up) (cond (stays p) (p ∷ filter stays ps) (filter stays ps)))
      here u =
          let k = eqb→eq p.number q u in
          let f : stays p ≡ true = is_true (stays p) (not_T (eqb p.number s) (λ v. ne (sym k ∙ eqb→eq p.number s v))) in
          rw f (or_left (eqb (moved_up s up p).number q) (list_any (λ p. eqb p.number q) (rest ps)) (subst (λ (m : ℕ). T (eqb m q)) (sym (moved_number p)) u))

  -- no number comes to the rest
  pub rest_old : (q : ℕ) (ps : List Snapshot) → T (list_any (eqb q) (map (λ p. p.number) (rest ps))) → T (list_any (eqb q) (map (λ p. p.number) ps))
  rest_old q [] t = t
  rest_old q (p ∷ ps) t = go (rest_old q ps) (stays p) t
    where
      go : (T (list_any (eqb q) (map (λ p. p.number) (rest ps))) → T (list_any (eqb q) (map (λ p. p.number) ps))) → (c : Bool)
          → T (list_any (eqb q) (map (λ p. p.number) (map (moved_up s up) (cond c (p ∷ filter stays ps) (filter stays ps))))) → T (eqb q p.number || list_any (eqb q) (map (λ p. p.number) ps))
      go ih true u =
          ⊎_elim
          (λ v. or_left (eqb q p.number) (list_any (eqb q) (map (λ p. p.number) ps)) (subst (λ (m : ℕ). T (eqb q m)) (moved_number p) v))
          (λ v. or_right (eqb q p.number) (list_any (eqb q) (map (λ p. p.number) ps)) (ih v))
          (or_either (eqb q (moved_up s up p).number) (list_any (eqb q) (map (λ p. p.number) (rest ps))) u)
      go ih false u = or_right (eqb q p.number) (list_any (eqb q) (map (λ p. p.number) ps)) (ih u)

  rest_once : (ps : List Snapshot) → Once eqb (map (λ p. p.number) ps) → Once eqb (map (λ p. p.number) (rest ps))
  rest_once [] o = tt
  rest_once (p ∷ ps) o = go (rest_once ps o.1) (stays p)
    where
      go : Once eqb (map (λ p. p.number) (rest ps)) → (c : Bool) → Once eqb (map (λ p. p.number) (map (moved_up s up) (cond c (p ∷ filter stays ps) (filter stays ps))))
      go ih true = ((λ t. o.0 (rest_old p.number ps (subst (λ (m : ℕ). T (list_any (eqb m) (map (λ p. p.number) (rest ps)))) (moved_number p) t))), ih)
      go ih false = ih

  -- the lines of the others stay whole
  rest_line : (other : Snapshot) (q : ℕ) → (q ≡ s → ⊥) → (ps : List Snapshot) → (find other q (rest ps)).line ≡ (find other q ps).line
  rest_line other q ne [] = refl
  rest_line other q ne (p ∷ ps) = go (rest_line other q ne ps) (stays p) (eqb p.number q) refl refl
    where
      go : (find other q (rest ps)).line ≡ (find other q ps).line → (c d : Bool) → stays p ≡ c → eqb p.number q ≡ d
          → (find other q (map (moved_up s up) (cond c (p ∷ filter stays ps) (filter stays ps)))).line ≡ (cond d p (find other q ps)).line
      go ih true true e f = rw (moved_number p, f) (moved_line p)
      go ih true false e f = rw (moved_number p, f) ih
      go ih false true e f =
          absurd (let k : T (eqb p.number s) = not_false (eqb p.number s) e in
          ne (sym (eqb→eq p.number q (rw f tt)) ∙ eqb→eq p.number s k))
      go ih false false e f = ih

  pub lines_stay : (q : ℕ) → (q ≡ s → ⊥) → line_of q after ≡ line_of q h
  lines_stay q ne = rest_line first_snapshot q ne h.live

  -- whoever stands under s comes to stand under its parent, which is live and was made before
  stands_on : (p : Snapshot) → StandsWell h p → StandsWell after (moved_up s up p)
  stands_on p = go p.parent refl
    where
      at : History → ℕ → Option ℕ → List Entry → Type 0
      at k m o l = elim o [ None ↦ (m ≡ 0) × (l ≡ []) | Some q ↦ (m ≡ 0 → ⊥) × T (is_live q k) × (last_place (line_of q k) < last_place l) ]

      raised : (o : Option ℕ) → at h (snapshot s h).number o (line_of s h) → (p.number ≡ 0 → ⊥) → last_place (line_of s h) < last_place p.line → at after p.number o p.line
      raised None t z l = absurd (not_zero (sym (found_number first_snapshot s h.live live) ∙ t.0))
      raised (Some q) t z l =
          let ne : q ≡ s → ⊥ = λ e. let z = ap (λ m. last_place (line_of m h)) e in let y = t.2 in omega arith in
          (z, rest_live q ne h.live t.1, (let z = ap last_place (lines_stay q ne) in let y = t.2 in omega arith))

      go : (o : Option ℕ) → p.parent ≡ o → at h p.number o p.line → StandsWell after (moved_up s up p)
      go None e t = rw e t
      go (Some q) e t =
          ⊎_elim
          (λ a. rw (e, a.0) (raised up (found_all (StandsWell h) first_snapshot s h.live (all_mono (λ p k. k.stands) h.live sound.snapshots) live) t.0 (let z = ap (λ m. last_place (line_of m h)) a.1 in let y = t.2 in omega arith)))
          (λ a. rw (e, a.0) (t.0, rest_live q a.1 h.live t.1, (let z = ap last_place (lines_stay q a.1) in let y = t.2 in omega arith)))
          (eqb_tells q s)

  moved_sound : (p : Snapshot) → SoundSnapshot i h p → SoundSnapshot (suc i) after (moved_up s up p)
  moved_sound p k = record {
    low = subst (λ (m : ℕ). m ≤ 63) (sym (moved_number p)) k.low;
    before = subst (LineBefore (suc i)) (sym (moved_line p)) (line_later i p.line k.before);
    layered = subst LineLayered (sym (moved_line p)) k.layered;
    stands = stands_on p k.stands;
  }

  -- no marks come, and no snapshots
  marks_of_rest : (w t : ℕ) (m : Mark) (ps : List Snapshot) → In same_mark m (flat_map (of w t) (rest ps)) → In same_mark m (flat_map (of w t) ps)
  marks_of_rest w t m [] k = k
  marks_of_rest w t m (p ∷ ps) k = go (marks_of_rest w t m ps) (stays p) k
    where
      go : (In same_mark m (flat_map (of w t) (rest ps)) → In same_mark m (flat_map (of w t) ps)) → (c : Bool)
          → In same_mark m (flat_map (of w t) (map (moved_up s up) (cond c (p ∷ filter stays ps) (filter stays ps)))) → In same_mark m (of w t p ++ flat_map (of w t) ps)
      go ih true u =
          ⊎_elim
          (λ v. in_left same_mark m (of w t p) (flat_map (of w t) ps) (subst (λ (es : List Entry). In same_mark m (marks w t es blank_sheet)) (moved_line p) v))
          (λ v. in_right same_mark m (of w t p) (flat_map (of w t) ps) (ih v))
          (in_either same_mark m (of w t (moved_up s up p)) (flat_map (of w t) (rest ps)) u)
      go ih false u = in_right same_mark m (of w t p) (flat_map (of w t) ps) (ih u)

  fewer : (ps : List Snapshot) → length (rest ps) ≤ length ps
  fewer ps = rw (length-map (filter stays ps) (moved_up s up)) (length_filter_le stays ps)

  pub forget_sound : SoundHistory n (suc i) after
  forget_sound = record {
    snapshots = rest_all (SoundSnapshot i h) (SoundSnapshot (suc i) after) moved_sound h.live sound.snapshots;
    once = rest_once h.live sound.once;
    begun = λ t. omega arith;
    root = λ t. rest_live 0 (λ e. not_zero (sym e)) h.live (sound.root begun);
    head = λ t. rest_live h.head (λ e. not_head (sym e)) h.live (sound.head begun);
    wide = sound.wide;
    tall = sound.tall;
    sized = λ t. sound.sized begun;
    fits =
        let olds = flat_map (of h.width h.height) h.live in
        let news = flat_map (of h.width h.height) (rest h.live) in
        let a : length (distinct same_mark news) ≤ length (distinct same_mark olds)
        = fits same_mark mark_self mark_tells (distinct same_mark news) (distinct same_mark olds) (distinct_once same_mark mark_self mark_tells news)
        (λ z t. to_distinct same_mark mark_self mark_tells z olds (marks_of_rest h.width h.height z h.live (from_distinct same_mark mark_self mark_tells z news t)))
        in
        let b = fewer h.live in
        let c = sound.fits in
        omega arith;
  }

-- EVERY CALL

pub carried_sound : (n i : ℕ) (c : Call) (h : History) → SoundHistory n i h → refusal n c h ≡ None → SoundHistory n (suc i) (carried_out i c h)
carried_sound n i (start w t) h sound r =
    let f = fail (grounds n (start w t) h) r in
    start_sound n i w t h (not_false (good_length w && good_length t) f.1.0) f.1.1.1.0
carried_sound n i (edit s e) h sound r =
    let f = fail (grounds n (edit s e) h) r in
    let ends = (changes_nothing e h, no_change) ∷ (needs_more n e h, no_blocks) ∷ [] in
    let g = fail_back (edit_grounds e h) ends f.1.1 in
    edit_sound n i s e h sound (not_false (started h) f.0) (grounds_layered e h (fail_front (edit_grounds e h) ends f.1.1)) f.1.0 g.1.0
carried_sound n i undo h sound r = head_sound n i (or_head (snapshot h.head h).parent h) h sound (λ t. parent_live n i h sound (sound.head t))
carried_sound n i redo h sound r = head_sound n i (or_head (latest_child h) h) h sound (λ t. child_live h (sound.head t))
carried_sound n i (go s) h sound r = let f = fail (grounds n (go s) h) r in head_sound n i s h sound (λ t. not_false (is_live s h) f.1.0)
carried_sound n i (forget s) h sound r =
    let f = fail (grounds n (forget s) h) r in
    let k = f.1.1.0 in
    forget_sound n i s h sound (not_false (started h) f.0) (not_false (is_live s h) f.1.0)
    (λ e. let z : T (eqb s 0) = rw e (eqb_refl 0) in subst T (or_false_left (eqb s 0) (eqb s h.head) k) z)
    (λ e. let z : T (eqb s h.head) = rw e (eqb_refl h.head) in subst T (or_false_right (eqb s 0) (eqb s h.head) k) z)
carried_sound n i ask_size h sound r = same_sound n i h sound
carried_sound n i ask_head h sound r = same_sound n i h sound
carried_sound n i ask_left h sound r = same_sound n i h sound
carried_sound n i (ask_parent s) h sound r = same_sound n i h sound
carried_sound n i (ask_dot s l p) h sound r = same_sound n i h sound
carried_sound n i (ask_flat s p) h sound r = same_sound n i h sound
carried_sound n i (ask_protected s p) h sound r = same_sound n i h sound
carried_sound n i (ask_record s l) h sound r = same_sound n i h sound
carried_sound n i (ask_inked s) h sound r = same_sound n i h sound
carried_sound n i (ask_box s l) h sound r = same_sound n i h sound
carried_sound n i (open_view s kind) h sound r = same_sound n i h sound

pub step_sound : (n i : ℕ) (c : Call) (h : History) → SoundHistory n i h → SoundHistory n (suc i) (step n i c h)
step_sound n i c h sound = go (refusal n c h) refl
  where
    go : (o : Option Refusal) → refusal n c h ≡ o → SoundHistory n (suc i) (elim o [ None ↦ carried_out i c h | Some r ↦ h ])
    go None e = carried_sound n i c h sound e
    go (Some r) e = same_sound n i h sound
