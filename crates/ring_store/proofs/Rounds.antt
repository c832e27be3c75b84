-- Going round upward from a number, in a ring of 128.
use Rattle.std.proofs.Common.{◌≡◌, ℕ, ◌+◌, ◌-◌, ◌%◌, ◌<◌, ◌≤◌, List, length, get_or, map, Option, Some, None, MatchOption, sym, ◌∙◌, subst, arith}
use Rattle.std.specs.List.{range_with_len, AllWithin, HoldsAt}
use Rattle.std.proofs.lemmas.List.FromFn.{length-map-range_with_len, get_or-map-range_with_len}
use Rattle.ring_store.specs.Ring.{ahead}

-- a number is reached by one step more than there are numbers on the way
pub reached : (from k : ℕ) → from < 128 → k < 128 → (from + (ahead from k + 1)) % 128 ≡ k
reached from k f l = omega arith

-- a number that is reached by some steps has fewer ahead of it
pub steps_ahead : (from step : ℕ) → from < 128 → 1 ≤ step → step < 129 → ahead from ((from + step) % 128) + 1 ≡ step
steps_ahead from step f a l = omega arith

-- what was met on the first steps holds of all numbers that lie no further ahead
pub met : (hs : List ℕ) (from step : ℕ) → from < 128 → ((j : ℕ) → 1 ≤ j → j < step → 0 < get_or hs ((from + j) % 128) 0)
    → (k : ℕ) → k < 128 → ahead from k + 1 < step → 0 < get_or hs k 0
met hs from step f h k l m = subst (λ (x : ℕ). 0 < get_or hs x 0) (reached from k f l) (h (ahead from k + 1) (omega arith) m)

-- the numbers in the order in which they are reached
abbrev pub round : ℕ → List ℕ
round from = map (λ step. (from + step) % 128) (range_with_len 1 128)

round_at : (from j i : ℕ) → i < 128 → 1 + i ≡ j → get_or (round from) i 0 ≡ (from + j) % 128
round_at from j i l e = get_or-map-range_with_len (λ step. (from + step) % 128) 1 128 i j 0 l e

-- the same, of the first n numbers of the round
met_first : (hs : List ℕ) (from n : ℕ) → from < 128 → n ≤ 128 → AllWithin (λ b. 0 < get_or hs b 0) (round from) 0 n → (k : ℕ) → k < 128 → ahead from k < n → 0 < get_or hs k 0
met_first hs from n f few h k l m =
    met hs from (n + 1) f
    (λ j a q. subst (λ (x : ℕ). 0 < get_or hs x 0) (round_at from j (j - 1) (omega arith) (omega arith)) (h (j - 1) 0 (omega arith) (omega arith))) k l (omega arith)

-- the first free number of the round has only numbers that are out before it
pub first_free : (hs : List ℕ) (from : ℕ) (r : Option ℕ) → from < 128
    → MatchOption r (AllWithin (λ b. 0 < get_or hs b 0) (round from) 0 (length (round from))) (λ b.
    (get_or hs b 0 ≡ 0) × (i : ℕ) × (i < length (round from)) × HoldsAt (λ x. x ≡ b) (round from) i × AllWithin (λ x. 0 < get_or hs x 0) (round from) 0 i)
    → MatchOption r ((k : ℕ) → k < 128 → 0 < get_or hs k 0) (λ b.
    (b < 128) × (get_or hs b 0 ≡ 0) × ((k : ℕ) → k < 128 → ahead from k < ahead from b → 0 < get_or hs k 0))
first_free hs from None f h =
    let long = length-map-range_with_len (λ step. (from + step) % 128) 1 128 in
    λ k l. met_first hs from 128 f (omega arith) (subst (AllWithin (λ b. 0 < get_or hs b 0) (round from) 0) long h) k l (omega arith)
first_free hs from (Some b) f (free, i, below, here, before) =
    let few : i < 128 = omega (arith, length-map-range_with_len (λ step. (from + step) % 128) 1 128) in
    let is : b ≡ (from + (i + 1)) % 128 = sym (here 0) ∙ round_at from (i + 1) i few (omega arith) in
    let steps : ahead from b + 1 ≡ i + 1 = omega (arith, is, steps_ahead from (i + 1) f) in
    (omega arith, free, λ k l m. met_first hs from i f (omega arith) before k l (omega arith))
