-- A call that is refused, and one that is not.
use Rattle.std.proofs.Common.{◌≡◌, ℕ, suc, ◌<◌, ◌≤◌, Bool, true, false, not, T, eqb, List, [], ◌∷◌, Some, None, sym, refl, ap, ◌∙◌, subst, arith, Option}
use Rattle.rules.specs.Refusals.{Refusal, numbers, not_started, not_live}
use Rattle.rules.proofs.Tests.{is_false}
use Rattle.history.specs.Histories.{History, started, is_live}
use Rattle.history.specs.Calls.{Call, Answer, refused, grounds, refusal, reply, answer, step, carried_out, of_snapshot}
use Rattle.history.proofs.Sounds.{same_sound}
use Rattle.root.specs.Sheets.{places}
use Rattle.bridge.proofs.Counts.{live_low}
use Rattle.calls.specs.declared.shapes.Size.{Size}
use Rattle.standing.specs.States.{State, root_of, verdict}
use Rattle.standing.specs.Standing.{Kept, Sized}
use Rattle.standing.proofs.Grounds.{here, past, none_first}

pub listed : (s : ℕ) → s < 64 → s < places
unfolding places
listed s h = h

pub unlisted : (s : ℕ) → s < places → s < 64
unfolding places
unlisted s h = h

module _ (n i : ℕ) (c : State) (h : History) (k : Kept n i c h) where
  pub same_kept : Kept n (suc i) c h
  same_kept = record {
    whole = k.whole;
    full = k.full;
    shows = k.shows;
    live = k.live;
    parents = k.parents;
    made = k.made;
    size = k.size;
    head = k.head;
    sound = same_sound n i h k.sound;
    ordered = k.ordered;
    inked = k.inked;
  }

  pub kept_refused : (a : Call) (ns : List ℕ) → Some ns ≡ verdict (grounds n a h) → Kept n (suc i) c (step n i a h) × (refused ns ≡ answer n a h)
  kept_refused a ns e = go (refusal n a h) e
    where
      go : (o : Option Refusal) → Some ns ≡ elim o [ None ↦ None | Some r ↦ Some (numbers r) ] → Kept n (suc i) c (elim o [ None ↦ carried_out i a h | Some r ↦ h ]) × (refused ns ≡ elim o [ None ↦ reply n a h | Some r ↦ refused (numbers r) ])
      go None f = cc
      go (Some r) f = (same_kept, (let z : ns ≡ numbers r = cc in ap refused z))

  pub kept_granted : (a : Call) (said : Answer) (d : State) → None ≡ verdict (grounds n a h) → Kept n (suc i) d (carried_out i a h) → said ≡ reply n a h → Kept n (suc i) d (step n i a h) × (said ≡ answer n a h)
  kept_granted a said d e j f =
      let g = none_first (grounds n a h) e in (
        subst (Kept n (suc i) d) (sym (ap (λ (o : Option Refusal). elim o [ None ↦ carried_out i a h | Some r ↦ h ]) g)) j,
        f ∙ sym (ap (λ (o : Option Refusal). elim o [ None ↦ reply n a h | Some r ↦ refused (numbers r) ]) g),
      )

  -- a number is live just where it has a root
  pub not_there : (s : ℕ) → s < 64 → root_of c.snapshots s ≡ 0 → is_live s h ≡ false
  not_there s l e = go (is_live s h) (sym (k.live s (listed s l)) ∙ ap (λ (v : ℕ). eqb v 0) e)
    where
      go : (b : Bool) → not b ≡ true → b ≡ false
      go true f = absurd (subst T (sym f) tt)
      go false f = refl

  pub there : (s : ℕ) → s < 64 → eqb (root_of c.snapshots s) 0 ≡ false → is_live s h ≡ true
  there s l e = go (is_live s h) (sym (k.live s (listed s l)) ∙ e)
    where
      go : (b : Bool) → not b ≡ false → b ≡ true
      go true f = refl
      go false f = absurd (subst T f tt)

  pub too_high : (s : ℕ) → 64 ≤ s → is_live s h ≡ false
  too_high s l = is_false (is_live s h) (λ t. let z = unlisted s (live_low n i s h k.sound t) in omega (arith, z))

  pub low : (s : ℕ) → is_live s h ≡ true → s < 64
  low s e = unlisted s (live_low n i s h k.sound (rw e tt))

  -- before start and after it
  pub idle : c.size ≡ None → started h ≡ false
  idle e = subst (λ (o : Option Size). Sized o h) e k.size

  pub busy : (z : Size) → c.size ≡ Some z → (started h ≡ true) × (z.width ≡ h.width) × (z.height ≡ h.height)
  busy z e = subst (λ (o : Option Size). Sized o h) e k.size

  pub idle_stops : c.size ≡ None → Some (numbers not_started) ≡ verdict ((not (started h), not_started) ∷ [])
  idle_stops e = sym (here (not (started h)) not_started [] (ap not (idle e)))

  pub busy_passes : (z : Size) → c.size ≡ Some z → None ≡ verdict ((not (started h), not_started) ∷ [])
  busy_passes z e = sym (past (not (started h)) not_started [] (ap not (busy z e).0))

  -- what is asked of a snapshot
  module _ (z : Size) (e : c.size ≡ Some z) (s : ℕ) where
    pub dead_stops : is_live s h ≡ false → Some (numbers not_live) ≡ verdict (of_snapshot s h)
    dead_stops f = sym (past (not (started h)) not_started ((not (is_live s h), not_live) ∷ []) (ap not (busy z e).0) ∙ here (not (is_live s h)) not_live [] (ap not f))

    pub live_passes : is_live s h ≡ true → None ≡ verdict (of_snapshot s h)
    live_passes f = sym (past (not (started h)) not_started ((not (is_live s h), not_live) ∷ []) (ap not (busy z e).0) ∙ past (not (is_live s h)) not_live [] (ap not f))
