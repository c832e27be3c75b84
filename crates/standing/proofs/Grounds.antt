-- Grounds of refusal, tried in order.
use Rattle.std.proofs.Common.{◌≡◌, ℕ, Bool, true, false, cond, ◌||◌, List, [], ◌∷◌, ◌++◌, refl, ap, Option, None, Some}
use Rattle.rules.specs.Refusals.{Refusal, Ground, first, numbers}
use Rattle.standing.specs.States.{verdict}

pub some_not_none : {A : Type 0} {x : A} → Some x ≡ None → ⊥
some_not_none e = cc

-- the numbers of a refusal, or none
abbrev told : Option Refusal → Option (List ℕ)
told o = elim o [ None ↦ None | Some r ↦ Some (numbers r) ]

-- a ground that holds, and one that does not
pub here : (b : Bool) (r : Refusal) (gs : List Ground) → b ≡ true → verdict ((b, r) ∷ gs) ≡ Some (numbers r)
here b r gs e = ap (λ c. told (cond c (Some r) (first gs))) e

pub past : (b : Bool) (r : Refusal) (gs : List Ground) → b ≡ false → verdict ((b, r) ∷ gs) ≡ verdict gs
past b r gs e = ap (λ c. told (cond c (Some r) (first gs))) e

-- the grounds of a list come before those of the next
pub stops : (gs hs : List Ground) (ns : List ℕ) → Some ns ≡ verdict gs → Some ns ≡ verdict (gs ++ hs)
stops [] hs ns e = cc
stops (g ∷ gs) hs ns e = go g.0 e (stops gs hs ns)
  where
    go : (b : Bool) → Some ns ≡ told (cond b (Some g.1) (first gs)) → (Some ns ≡ verdict gs → Some ns ≡ verdict (gs ++ hs)) → Some ns ≡ told (cond b (Some g.1) (first (gs ++ hs)))
    go true f ih = f
    go false f ih = ih f

pub passes : (gs hs : List Ground) → None ≡ verdict gs → verdict (gs ++ hs) ≡ verdict hs
passes [] hs e = refl
passes (g ∷ gs) hs e = go g.0 e (passes gs hs)
  where
    go : (b : Bool) → None ≡ told (cond b (Some g.1) (first gs)) → (None ≡ verdict gs → verdict (gs ++ hs) ≡ verdict hs) → told (cond b (Some g.1) (first (gs ++ hs))) ≡ verdict hs
    go true f ih = cc
    go false f ih = ih f

-- where no ground holds there is no refusal
pub none_first : (gs : List Ground) → None ≡ verdict gs → first gs ≡ None
none_first gs e = go (first gs) e
  where
    go : (o : Option Refusal) → None ≡ told o → o ≡ None
    go None f = refl
    go (Some r) f = cc

-- what the one ground of a list says
pub fails : (b : Bool) (r : Refusal) → None ≡ verdict ((b, r) ∷ []) → b ≡ false
fails true r e = cc
fails false r e = refl

-- two grounds with one refusal are one
pub both_pass : (a b : Bool) (r : Refusal) → None ≡ verdict ((a, r) ∷ []) → None ≡ verdict ((b, r) ∷ []) → None ≡ verdict ((a || b, r) ∷ [])
both_pass true b r e f = e
both_pass false b r e f = f

pub first_stops : (a b : Bool) (r : Refusal) (ns : List ℕ) → Some ns ≡ verdict ((a, r) ∷ []) → Some ns ≡ verdict ((a || b, r) ∷ [])
first_stops true b r ns e = e
first_stops false b r ns e = cc

pub second_stops : (a b : Bool) (r : Refusal) (ns : List ℕ) → Some ns ≡ verdict ((b, r) ∷ []) → Some ns ≡ verdict ((a || b, r) ∷ [])
second_stops true true r ns e = e
second_stops false true r ns e = e
second_stops true false r ns e = cc
second_stops false false r ns e = e
