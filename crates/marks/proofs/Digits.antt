-- The binary digits of a word: the lowest 0, one of them turned, how many are 1.
use Rattle.std.proofs.Common.{◌≡◌, ℕ, zero, suc, ◌+◌, ◌-◌, ◌/◌, ◌%◌, ◌^◌, ◌<◌, ◌≢◌, bit_xor, sym, ap, ◌∙◌, ap₂, pow-suc, arith}
use Rattle.std.specs.Int.{w32, bit_at}
use Rattle.std.proofs.lemmas.Nat.Bits.{bit_at_lowest, bit_at-suc, bit_at-lt, bit_at_xor, bit_at-pow_same, bit_at-pow_other, bit_at-trailing_ones}
use lib.Bits.{xor_shr, xor_mod}
use lib.Count.{ones, ones_step, count_trailing_zeros}
use Rattle.block.specs.Blocks.{sum_to}
use Rattle.block.proofs.Sums.{sum_zero, sum_more, sum_same}

-- the lowest 0 of a number is the lowest 1 of its complement
pub lowest_zero : (m : ℕ) → m < 4294967296 → 0 < 4294967295 - m
    → (count_trailing_zeros 32 (4294967295 - m) < 32) × (bit_at m (count_trailing_zeros 32 (4294967295 - m)) ≡ 0) × ((k : ℕ) → k < count_trailing_zeros 32 (4294967295 - m) → bit_at m k ≡ 1)
lowest_zero m h p = bit_at-trailing_ones w32 m (omega arith)

-- a digit of what two words differ in is what their digits differ in
pub bit_of_xor : (a b k : ℕ) → bit_at (bit_xor a b) k ≡ bit_xor (bit_at a k) (bit_at b k)
bit_of_xor a b k = ap (λ (x : ℕ). x % 2) (xor_shr a b k) ∙ xor_mod (a / 2 ^ k) (b / 2 ^ k) 1

pub turned_same : (n j : ℕ) → bit_at (bit_xor n (2 ^ j)) j ≡ 1 - bit_at n j
turned_same n j = omega (arith, bit_at_xor n (2 ^ j) j, bit_at-pow_same j, bit_at-lt n j)

pub turned_other : (n j k : ℕ) → k ≢ j → bit_at (bit_xor n (2 ^ j)) k ≡ bit_at n k
turned_other n j k d = omega (arith, bit_at_xor n (2 ^ j) k, bit_at-pow_other j k d, bit_at-lt n k)

sum_front : (f : ℕ → ℕ) (n : ℕ) → sum_to (n + 1) f ≡ f 0 + sum_to n (λ k. f (suc k))
sum_front f zero = sum_more 0 f ∙ omega (arith, sum_zero f, sum_zero (λ k. f (suc k)))
sum_front f (suc n) =
    let e : suc n + 1 ≡ (n + 1) + 1 = omega arith in
    let s : suc n ≡ n + 1 = omega arith in
    ap (λ (x : ℕ). sum_to x f) e ∙ sum_more (n + 1) f
    ∙ omega (arith, sum_front f n, ap f s, sum_more n (λ k. f (suc k)), ap (λ (x : ℕ). sum_to x (λ k. f (suc k))) s)

pub sum_bits : (k n : ℕ) → n < 2 ^ k → sum_to k (bit_at n) ≡ ones n
unfolding ones
sum_bits zero n h = let z : n ≡ 0 = omega arith in sum_zero (bit_at n) ∙ ap ones (sym z)
sum_bits (suc k) n h =
    let l : n / 2 < 2 ^ k = omega (arith, pow-suc 2 k) in
    let e : suc k ≡ k + 1 = omega arith in
    ap (λ (x : ℕ). sum_to x (bit_at n)) e
    ∙ sum_front (bit_at n) k ∙ ap₂ ◌+◌ (bit_at_lowest n) (sum_same k (λ j. bit_at n (suc j)) (bit_at (n / 2)) (λ j _. bit_at-suc n j) ∙ sum_bits k (n / 2) l)
    ∙ sym (ones_step n)
