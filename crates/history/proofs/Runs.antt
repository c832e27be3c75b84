-- What holds of every list of calls.
use Rattle.std.proofs.Common.{◌≡◌, ℕ, suc, ◌+◌, Bool, true, false, cond, not, T, eqb, List, [], ◌∷◌, ◌++◌, map, length, sym, refl, ap, ◌∙◌, subst, ⊎_elim, append_assoc, append-nil, add-zero, add-suc, suc-add, zero-add, arith, eqb→eq, length-append, ltb-false, Option, None, Some}
use Rattle.std.specs.List.{AllByRecursion, filter, flat_map, list_any}
use Rattle.std.proofs.Math.Dec.{eqb_refl}
use Rattle.rules.specs.Lists.{Once}
use Rattle.rules.specs.Refusals.{Refusal, no_change, no_blocks}
use Rattle.rules.proofs.Tests.{or_left, or_right, is_true, is_false}
use Rattle.rules.proofs.Onces.{In, in_either, distinct_once, from_distinct, to_distinct}
use Rattle.history.specs.Histories.{Entry, Snapshot, History, empty, started, first_snapshot, find, snapshot, line_of}
use Rattle.history.specs.Counts.{count, left_of, Mark, same_mark}
use Rattle.history.specs.Calls.{Call, start, edit, undo, redo, go, forget, ask_size, ask_head, ask_left, ask_parent, ask_dot, ask_flat, ask_protected, ask_record, ask_inked, ask_box, open_view, Answer, answer, grounds, refusal, step, carried_out, made, edited, moved_up, edit_grounds, changes_nothing, need_of, needs_more}
use Rattle.history.specs.Runs.{run, run_from, answers_from}
use Rattle.history.specs.Laws.{SoundHistory, RunsSound, Counted, RunsCounted, Made, RunsMade, RunsTakeNeed, AnswersByHistory, RefusedKeeps}
use Rattle.history.proofs.Finds.{all_mono, all_push, Among, among_numbers, found_or}
use Rattle.history.proofs.Grounds.{fail, fail_back, not_false}
use Rattle.history.proofs.Marked.{mark_self, mark_tells}
use Rattle.history.proofs.Takes.{takes_need, of, found_in}
use Rattle.history.proofs.Lasts.{marks_mean}
use Rattle.history.proofs.Sounds.{step_sound, all_before, line_of_layered}

-- SOUND HISTORIES

from_sound : (n i : ℕ) (h : History) (cs : List Call) → SoundHistory n i h → SoundHistory n (i + length cs) (run_from n i h cs)
from_sound n i h [] sound = subst (λ (k : ℕ). SoundHistory n k h) (sym (add-zero i)) sound
from_sound n i h (c ∷ cs) sound =
    subst (λ (k : ℕ). SoundHistory n k (run_from n (suc i) (step n i c h) cs)) (suc-add i (length cs) ∙ sym (add-suc i (length cs)))
    (from_sound n (suc i) (step n i c h) cs (step_sound n i c h sound))

pub empty_sound : (n : ℕ) → SoundHistory n 0 empty
empty_sound n = record {
  snapshots = tt;
  once = tt;
  begun = λ t. absurd t;
  root = λ t. absurd t;
  head = λ t. absurd t;
  wide = omega arith;
  tall = omega arith;
  sized = λ t. absurd t;
  fits = omega arith;
}

pub runs_sound : RunsSound
runs_sound n cs = subst (λ (k : ℕ). SoundHistory n k (run n cs)) (zero-add (length cs)) (from_sound n 0 empty cs (empty_sound n))

-- THE NEED

pub run_push : (n i : ℕ) (h : History) (cs : List Call) (c : Call) → run_from n i h (cs ++ (c ∷ [])) ≡ step n (i + length cs) c (run_from n i h cs)
run_push n i h [] c = ap (λ k. step n k c h) (sym (add-zero i))
run_push n i h (d ∷ cs) c = run_push n (suc i) (step n i d h) cs c ∙ ap (λ k. step n k c (run_from n (suc i) (step n i d h) cs)) (suc-add i (length cs) ∙ sym (add-suc i (length cs)))

pub runs_take_need : RunsTakeNeed
runs_take_need n cs s e r =
    let h = run n cs in
    let sound = runs_sound n cs in
    let f = fail (grounds n (edit s e) h) r in
    let g = fail_back (edit_grounds e h) ((changes_nothing e h, no_change) ∷ (needs_more n e h, no_blocks) ∷ []) f.1.1 in
    let head = sound.head (not_false (started h) f.0) in
    let p : run n (cs ++ (edit s e ∷ [])) ≡ edited (length cs) s e h
    = run_push n 0 empty cs (edit s e) ∙ ap (λ k. step n k (edit s e) h) (zero-add (length cs))
    ∙ ap (λ (o : Option Refusal). elim o [ None ↦ edited (length cs) s e h | Some q ↦ h ]) r
    in
    let t = takes_need h (length cs) s e (all_before n (length cs) h sound) head in
    let q : count (run n (cs ++ (edit s e ∷ []))) ≡ count h + need_of e h = ap count p ∙ t in
    let k = ltb-false (left_of n h) (need_of e h) g.1.0 in
    omega arith

-- THE COUNT

-- a mark that is gathered is that of some live snapshot, found by its number
marked_live : (m : Mark) (f : Snapshot → List Mark) (other : Snapshot) (ps : List Snapshot) → Once eqb (map (λ p. p.number) ps) → In same_mark m (flat_map f ps) → (s : ℕ) × Among s ps × In same_mark m (f (find other s ps))
marked_live m f other [] o t = absurd t
marked_live m f other (p ∷ ps) o t =
    ⊎_elim
    (λ u. (
      p.number,
      or_left (eqb p.number p.number) (list_any (λ q. eqb q.number p.number) ps) (eqb_refl p.number),
      rw (is_true (eqb p.number p.number) (eqb_refl p.number)) u,
    ))
    (λ u. let r = marked_live m f other ps o.1 u in
    let s = r.0 in
    let ne : eqb p.number s ≡ false
    = is_false (eqb p.number s) (λ v. o.0 (subst T (sym (among_numbers p.number ps)) (subst (λ (z : ℕ). Among z ps) (sym (eqb→eq p.number s v)) r.1)))
    in
    (s, or_right (eqb p.number s) (list_any (λ q. eqb q.number s) ps) r.1, subst (λ (b : Bool). In same_mark m (f (cond b p (find other s ps)))) (sym ne) r.2))
    (in_either same_mark m (f p) (flat_map f ps) t)

pub sound_counted : (n i : ℕ) (h : History) → SoundHistory n i h → Counted h
sound_counted n i h sound =
    let w = h.width in
    let t = h.height in
    let all = flat_map (of w t) h.live in
    record {
      once = distinct_once same_mark mark_self mark_tells all;
      means = λ m. (
        (λ x. to_distinct same_mark mark_self mark_tells m all
            (found_in w t m first_snapshot x.0 h.live x.1 ((marks_mean w t (line_of x.0 h) m sound.wide sound.tall (line_of_layered n i x.0 h sound)).0 x.2))),
        (λ u.
            let r = marked_live m (of w t) first_snapshot h.live sound.once (from_distinct same_mark mark_self mark_tells m all u) in
            (r.0, r.1, (marks_mean w t (line_of r.0 h) m sound.wide sound.tall (line_of_layered n i r.0 h sound)).1 r.2)),
      );
    }

pub runs_counted : RunsCounted
runs_counted n cs = sound_counted n (length cs) (run n cs) (runs_sound n cs)

-- ENTRIES AND THEIR PLACES

-- the entries of all snapshots of a list were made among the calls
abbrev AllMade : List Call → List Snapshot → Type 0
AllMade cs ps = AllByRecursion (λ p. AllByRecursion (Made cs) p.line) ps

made_more : (cs ds : List Call) (e : Entry) → Made cs e → Made (cs ++ ds) e
made_more cs ds e m = record {
  before = m.before;
  number = m.number;
  later = m.later ++ ds;
  stands = ap (λ (l : List Call). l ++ ds) m.stands ∙ append_assoc m.before (edit m.number e.edit ∷ m.later) ds;
  place = m.place;
}

all_made_more : (cs ds : List Call) (ps : List Snapshot) → AllMade cs ps → AllMade (cs ++ ds) ps
all_made_more cs ds ps a = all_mono (λ p b. all_mono (made_more cs ds) p.line b) ps a

-- forgetting makes no entry
all_made_rest : (cs : List Call) (s : ℕ) (up : Option ℕ) (ps : List Snapshot) → AllMade cs ps → AllMade cs (map (moved_up s up) (filter (λ p. not (eqb p.number s)) ps))
all_made_rest cs s up [] a = tt
all_made_rest cs s up (p ∷ ps) a = go (all_made_rest cs s up ps a.1) (not (eqb p.number s))
  where
    moved : (b : Bool) → AllByRecursion (Made cs) (cond b (record { number = p.number; parent = up; line = p.line }) p).line
    moved true = a.0
    moved false = a.0

    go : AllMade cs (map (moved_up s up) (filter (λ p. not (eqb p.number s)) ps)) → (c : Bool) → AllMade cs (map (moved_up s up) (cond c (p ∷ filter (λ p. not (eqb p.number s)) ps) (filter (λ p. not (eqb p.number s)) ps)))
    go ih true = (moved (elim p.parent [ None ↦ false | Some q ↦ eqb q s ]), ih)
    go ih false = ih

carried_made : (cs : List Call) (c : Call) (h : History) → AllMade cs h.live → AllMade (cs ++ (c ∷ [])) (carried_out (length cs) c h).live
carried_made cs (start w t) h a = (tt, tt)
carried_made cs (edit s e) h a =
    let entry : Entry = record { place = length cs; edit = e } in
    let old = all_made_more cs (edit s e ∷ []) h.live a in
    all_push (λ p. AllByRecursion (Made (cs ++ (edit s e ∷ []))) p.line) (made (length cs) s e h) h.live
    (all_push (Made (cs ++ (edit s e ∷ []))) entry (line_of h.head h) (record { before = cs; number = s; later = []; stands = refl; place = refl })
    (found_or (λ p. AllByRecursion (Made (cs ++ (edit s e ∷ []))) p.line) first_snapshot h.head h.live tt old))
    old
carried_made cs undo h a = all_made_more cs (undo ∷ []) h.live a
carried_made cs redo h a = all_made_more cs (redo ∷ []) h.live a
carried_made cs (go s) h a = all_made_more cs (go s ∷ []) h.live a
carried_made cs (forget s) h a = all_made_rest (cs ++ (forget s ∷ [])) s (snapshot s h).parent h.live (all_made_more cs (forget s ∷ []) h.live a)
carried_made cs ask_size h a = all_made_more cs (ask_size ∷ []) h.live a
carried_made cs ask_head h a = all_made_more cs (ask_head ∷ []) h.live a
carried_made cs ask_left h a = all_made_more cs (ask_left ∷ []) h.live a
carried_made cs (ask_parent s) h a = all_made_more cs (ask_parent s ∷ []) h.live a
carried_made cs (ask_dot s l p) h a = all_made_more cs (ask_dot s l p ∷ []) h.live a
carried_made cs (ask_flat s p) h a = all_made_more cs (ask_flat s p ∷ []) h.live a
carried_made cs (ask_protected s p) h a = all_made_more cs (ask_protected s p ∷ []) h.live a
carried_made cs (ask_record s l) h a = all_made_more cs (ask_record s l ∷ []) h.live a
carried_made cs (ask_inked s) h a = all_made_more cs (ask_inked s ∷ []) h.live a
carried_made cs (ask_box s l) h a = all_made_more cs (ask_box s l ∷ []) h.live a
carried_made cs (open_view s kind) h a = all_made_more cs (open_view s kind ∷ []) h.live a

step_made : (n : ℕ) (cs : List Call) (c : Call) (h : History) → AllMade cs h.live → AllMade (cs ++ (c ∷ [])) (step n (length cs) c h).live
step_made n cs c h a = go (refusal n c h)
  where
    go : (o : Option Refusal) → AllMade (cs ++ (c ∷ [])) (elim o as (λ _. History) [ None ↦ carried_out (length cs) c h | Some r ↦ h ]).live
    go None = carried_made cs c h a
    go (Some r) = all_made_more cs (c ∷ []) h.live a

from_made : (n : ℕ) (before cs : List Call) (h : History) → AllMade before h.live → AllMade (before ++ cs) (run_from n (length before) h cs).live
from_made n before [] h a = subst (λ (l : List Call). AllMade l h.live) (sym (append-nil before)) a
from_made n before (c ∷ cs) h a =
    let longer : length (before ++ (c ∷ [])) ≡ suc (length before) = length-append before (c ∷ []) ∙ (let z : length before + 1 ≡ suc (length before) = omega arith in z) in
    subst (λ (k : ℕ). AllMade (before ++ (c ∷ cs)) (run_from n k (step n (length before) c h) cs).live) longer
    (subst (λ (l : List Call). AllMade l (run_from n (length (before ++ (c ∷ []))) (step n (length before) c h) cs).live) (append_assoc before (c ∷ []) cs)
    (from_made n (before ++ (c ∷ [])) cs (step n (length before) c h) (step_made n before c h a)))

pub runs_made : RunsMade
runs_made n cs = from_made n [] cs empty tt

-- ANSWERS

split : (n i : ℕ) (h : History) (before : List Call) (c : Call) (rest : List Call)
    → (more : List Answer) × (answers_from n i h (before ++ (c ∷ rest)) ≡ answers_from n i h before ++ (answer n c (run_from n i h before) ∷ more))
split n i h [] c rest = (answers_from n (suc i) (step n i c h) rest, refl)
split n i h (b ∷ bs) c rest =
    let r = split n (suc i) (step n i b h) bs c rest in
    (r.0, ap {B = List Answer} (λ l. answer n b h ∷ l) r.1)

pub answers_by_history : AnswersByHistory
answers_by_history n before c rest = split n 0 empty before c rest

pub refused_keeps : RefusedKeeps
refused_keeps n i c h r e = ap (λ (o : Option Refusal). elim o as (λ _. History) [ None ↦ carried_out i c h | Some q ↦ h ]) e
