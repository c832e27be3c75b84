-- More of sums over the numbers below n.
use Rattle.std.proofs.Common.{◌≡◌, ℕ, zero, suc, ◌+◌, ◌<◌, ◌≤◌, Bool, true, false, cond, ap, arith}
use Rattle.std.proofs.Math.Decide.{ℕ_discrete}
use Rattle.block.specs.Blocks.{sum_to}
use Rattle.block.proofs.Sums.{sum_none}

-- a sum that is not 0 has a part that is not
pub some_part : (n : ℕ) (f : ℕ → ℕ) → 0 < sum_to n f → (c : ℕ) × (c < n) × (0 < f c)
unfolding sum_to
some_part zero f l = absurd (omega arith)
some_part (suc n) f l =
    elim (ℕ_discrete (f n) 0) [
      | yes e ↦ let r = some_part n f (omega arith) in (r.0, omega arith, r.2)
      | no d ↦ (n, omega arith, omega arith)
    ]

-- a sum is at least that of fewer
pub sum_front : (i n : ℕ) (f : ℕ → ℕ) → i ≤ n → sum_to i f ≤ sum_to n f
unfolding sum_to
sum_front i zero f l = let e : i ≡ 0 = omega arith in omega (arith, ap (λ (x : ℕ). sum_to x f) e)
sum_front i (suc n) f l = elim (ℕ_discrete i (suc n)) [ yes e ↦ omega (arith, ap (λ (x : ℕ). sum_to x f) e) | no d ↦ omega (arith, sum_front i n f (omega arith)) ]

-- parts of at most 1, of which at most one is not 0
pub sum_single : (n : ℕ) (f : ℕ → ℕ) → ((j : ℕ) → f j ≤ 1) → ((i j : ℕ) → i < n → j < n → 0 < f i → 0 < f j → i ≡ j) → sum_to n f ≤ 1
unfolding sum_to
sum_single zero f a h = omega arith
sum_single (suc n) f a h =
    elim (ℕ_discrete (f n) 0) [
      | yes e ↦ omega (arith, e, sum_single n f a (λ i j l k. h i j (omega arith) (omega arith)))
      | no d ↦ omega (arith, a n, sum_none n f (λ j l. elim (ℕ_discrete (f j) 0) [ yes z ↦ z | no z ↦ absurd (omega (arith, l, h j n (omega arith) (omega arith) (omega arith) (omega arith))) ]))
    ]

-- a sum in two parts, by a mark
pub sum_split : (n : ℕ) (t : ℕ → Bool) (f : ℕ → ℕ) → sum_to n (λ j. cond (t j) (f j) 0) + sum_to n (λ j. cond (t j) 0 (f j)) ≡ sum_to n f
unfolding sum_to
sum_split zero t f = omega arith
sum_split (suc n) t f = omega (arith, sum_split n t f, both (t n) (f n))
  where
    both : (b : Bool) (x : ℕ) → cond b x 0 + cond b 0 x ≡ x
    both true x = omega arith
    both false x = omega arith
