-- Sums over the numbers below n.
use Rattle.std.proofs.Common.{◌≡◌, ℕ, zero, suc, ◌+◌, ◌<◌, ◌≤◌, ◌≢◌, List, length, get_or, take, refl, ap, ◌∙◌, add-one, inl, inr, arith}
use Rattle.std.proofs.lemmas.Bool.{cases_eq}
use Rattle.std.specs.List.{sum_by}
use Rattle.std.proofs.lemmas.List.Sums.{sum_by_more}
use Rattle.block.specs.Blocks.{sum_to}

pub sum_zero : (f : ℕ → ℕ) → sum_to 0 f ≡ 0
unfolding sum_to
sum_zero f = refl

pub sum_suc : (n : ℕ) (f : ℕ → ℕ) → sum_to (suc n) f ≡ f n + sum_to n f
unfolding sum_to
sum_suc n f = refl

pub sum_same : (n : ℕ) (f g : ℕ → ℕ) → ((j : ℕ) → j < n → f j ≡ g j) → sum_to n f ≡ sum_to n g
unfolding sum_to
sum_same zero f g h = refl
sum_same (suc n) f g h = omega (arith, h n (omega arith), sum_same n f g (λ j l. h j (omega arith)))

-- two functions that differ at c alone
pub sum_at : (n : ℕ) (f g : ℕ → ℕ) (c : ℕ) → c < n → ((j : ℕ) → j ≢ c → f j ≡ g j) → sum_to n f + g c ≡ sum_to n g + f c
unfolding sum_to
sum_at zero f g c l h = absurd (omega arith)
sum_at (suc n) f g c l h =
    elim (cases_eq n c) [
      | inl e ↦ omega (arith, ap f e, ap g e, sum_same n f g (λ j k. h j (omega arith)))
      | inr d ↦ omega (arith, h n d, sum_at n f g c (omega arith) h)
    ]

pub at_most_sum : (n : ℕ) (f : ℕ → ℕ) (c : ℕ) → c < n → f c ≤ sum_to n f
unfolding sum_to
at_most_sum zero f c l = absurd (omega arith)
at_most_sum (suc n) f c l =
    elim (cases_eq n c) [ inl e ↦ omega (arith, ap f e) | inr d ↦ omega (arith, at_most_sum n f c (omega arith)) ]

pub sum_none : (n : ℕ) (f : ℕ → ℕ) → ((j : ℕ) → j < n → f j ≡ 0) → sum_to n f ≡ 0
unfolding sum_to
sum_none zero f h = refl
sum_none (suc n) f h = omega (arith, h n (omega arith), sum_none n f (λ j l. h j (omega arith)))

pub sum_more : (n : ℕ) (f : ℕ → ℕ) → sum_to (n + 1) f ≡ f n + sum_to n f
unfolding sum_to
sum_more n f = rw add-one

-- a sum in two parts
pub sum_join : (n k : ℕ) (f : ℕ → ℕ) → sum_to (n + k) f ≡ sum_to n f + sum_to k (λ j. f (n + j))
unfolding sum_to
sum_join n zero f = let e : n + 0 ≡ n = omega arith in ap (λ (x : ℕ). sum_to x f) e ∙ omega arith
sum_join n (suc k) f =
    let e : n + suc k ≡ suc (n + k) = omega arith in
    ap (λ (x : ℕ). sum_to x f) e ∙ omega (arith, sum_join n k f)

-- parts of at most 1
pub sum_ones : (n : ℕ) (f : ℕ → ℕ) → ((j : ℕ) → j < n → f j ≤ 1) → sum_to n f ≤ n
unfolding sum_to
sum_ones zero f h = omega arith
sum_ones (suc n) f h = omega (arith, h n (omega arith), sum_ones n f (λ j l. h j (omega arith)))

-- parts that are all 1
pub sum_count : (n : ℕ) (f : ℕ → ℕ) → ((j : ℕ) → j < n → f j ≡ 1) → sum_to n f ≡ n
unfolding sum_to
sum_count zero f h = refl
sum_count (suc n) f h = omega (arith, h n (omega arith), sum_count n f (λ j l. h j (omega arith)))

-- a sum over the first n items of a list
pub sum_taken : (f : ℕ → ℕ) (xs : List ℕ) (n : ℕ) → n ≤ length xs → sum_by f (take n xs) ≡ sum_to n (λ k. f (get_or xs k 0))
unfolding sum_to
sum_taken f xs zero l = refl
sum_taken f xs (suc n) l =
    let e : suc n ≡ n + 1 = omega arith in
    ap (λ (x : ℕ). sum_by f (take x xs)) e ∙ omega (arith, sum_by_more f xs n 0 (omega arith), sum_taken f xs n (omega arith))
