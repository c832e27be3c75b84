-- The bits of a map, and what they tell of a store.
use Rattle.std.proofs.Common.{◌≡◌, ℕ, zero, suc, ◌+◌, ◌-◌, ◌*◌, ◌/◌, ◌%◌, ◌^◌, ◌<◌, ◌≤◌, ◌≢◌, List, length, get_or, set, bit_xor, sym, refl, ap, ◌∙◌, ap₂, inl, inr, ⊎_elim, arith}
use lib.Count.{ones, count_trailing_zeros}
use Rattle.std.specs.Int.{bit_at}
use Rattle.std.specs.List.{sum_by}
use Rattle.std.proofs.lemmas.List.{get_or-set_same, get_or-set_other, take_all}
use Rattle.std.proofs.lemmas.Bool.{cases_lt, cases_eq}
use Rattle.std.proofs.lemmas.Bool.Decides.{nat_tests}
use Rattle.std.proofs.lemmas.Nat.Bits.{bit_at-lt, bit_at_ones}
use Rattle.block.specs.Blocks.{Blocks, sum_to, spare, free_count}
use Rattle.block.specs.Calls.{released}
use Rattle.block.proofs.Sums.{sum_join, sum_same, sum_zero, sum_suc, sum_count, sum_ones, sum_taken}
use Rattle.marks.specs.Map.{mark, gone, Marks}
use Rattle.marks.proofs.Digits.{lowest_zero, sum_bits, turned_same, turned_other}

-- the map with the bit of number b turned
abbrev turned : List ℕ → ℕ → List ℕ
turned ms b = set ms (b / 32) (bit_xor (get_or ms (b / 32) 0) (2 ^ (b % 32)))

pub mark_turned : (ms : List ℕ) (b : ℕ) → b / 32 < length ms → mark (turned ms b) b ≡ 1 - mark ms b
mark_turned ms b l =
    ap (λ (x : ℕ). bit_at x (b % 32)) (get_or-set_same ms (b / 32) (bit_xor (get_or ms (b / 32) 0) (2 ^ (b % 32))) 0 l)
    ∙ turned_same (get_or ms (b / 32) 0) (b % 32)

pub mark_other : (ms : List ℕ) (b k : ℕ) → b / 32 < length ms → k ≢ b → mark (turned ms b) k ≡ mark ms k
mark_other ms b k l ne =
    let v = bit_xor (get_or ms (b / 32) 0) (2 ^ (b % 32)) in
    ⊎_elim
    (λ e.
    let other : k % 32 ≢ b % 32 = λ f. ne (omega arith) in
    ap (λ (x : ℕ). bit_at (get_or (turned ms b) x 0) (k % 32)) e
    ∙ ap (λ (x : ℕ). bit_at x (k % 32)) (get_or-set_same ms (b / 32) v 0 l)
    ∙ turned_other (get_or ms (b / 32) 0) (b % 32) (k % 32) other
    ∙ ap (λ (x : ℕ). bit_at (get_or ms x 0) (k % 32)) (sym e))
    (λ e. ap (λ (x : ℕ). bit_at x (k % 32)) (get_or-set_other ms (b / 32) (k / 32) v 0 e)) (cases_eq (k / 32) (b / 32))

-- the bits of a word are those of 32 numbers
pub mark_in_word : (ms : List ℕ) (w j : ℕ) → j < 32 → mark ms (32 * w + j) ≡ bit_at (get_or ms w 0) j
mark_in_word ms w j l =
    let row : (32 * w + j) / 32 ≡ w = omega arith in
    let column : (32 * w + j) % 32 ≡ j = omega arith in
    ap₂ (λ (x y : ℕ). bit_at (get_or ms x 0) y) row column

-- a word of ones
pub word_full : (ms : List ℕ) (w k : ℕ) → get_or ms w 0 ≡ 4294967295 → k / 32 ≡ w → mark ms k ≡ 1
word_full ms w k e f =
    ap (λ (x : ℕ). bit_at (get_or ms x 0) (k % 32)) f ∙ ap (λ (x : ℕ). bit_at x (k % 32)) e ∙ bit_at_ones 32 (k % 32) (omega arith)

-- ---- how many bits are 1

-- the ones of a word more
pub ones_more : (ms : List ℕ) (w : ℕ) → get_or ms w 0 < 2 ^ 32 → sum_to (32 * w + 32) (mark ms) ≡ sum_to (32 * w) (mark ms) + ones (get_or ms w 0)
ones_more ms w l =
    sum_join (32 * w) 32 (mark ms)
    ∙ ap (λ (x : ℕ). sum_to (32 * w) (mark ms) + x)
    (sum_same 32 (λ j. mark ms (32 * w + j)) (bit_at (get_or ms w 0)) (mark_in_word ms w) ∙ sum_bits 32 (get_or ms w 0) l)

ones_so_far : (ms : List ℕ) (n : ℕ) → ((k : ℕ) → get_or ms k 0 < 2 ^ 32) → sum_to (32 * n) (mark ms) ≡ sum_to n (λ k. ones (get_or ms k 0))
ones_so_far ms zero l = sum_zero (mark ms) ∙ sym (sum_zero (λ k. ones (get_or ms k 0)))
ones_so_far ms (suc n) l =
    let e : 32 * suc n ≡ 32 * n + 32 = omega arith in
    ap (λ (x : ℕ). sum_to x (mark ms)) e ∙ omega (arith, ones_more ms n (l n), ones_so_far ms n l, sum_suc n (λ k. ones (get_or ms k 0)))

-- the ones of all the words are the bits that are 1
pub ones_summed : (ms : List ℕ) → length ms ≡ 512 → ((k : ℕ) → get_or ms k 0 < 2 ^ 32) → sum_by ones ms ≡ sum_to 16384 (mark ms)
ones_summed ms long l =
    ap (sum_by ones) (sym (take_all 512 ms (omega arith))) ∙ sum_taken ones ms 512 (omega arith) ∙ sym (ones_so_far ms 512 l)

pub ones_most : (ms : List ℕ) → sum_to 16384 (mark ms) ≤ 16384
ones_most ms = sum_ones 16384 (mark ms) (λ k l. omega (arith, bit_at-lt (get_or ms (k / 32) 0) (k % 32)))

-- ---- the lowest bit that is 0

-- the lowest number whose bit is 0, in the first word that has one
pub lowest_in_word : (ms : List ℕ) (from w : ℕ) → get_or ms w 0 < 2 ^ 32 → get_or ms w 0 ≢ 4294967295 → ((v : ℕ) → from ≤ v → v < w → get_or ms v 0 ≡ 4294967295)
    → let t = count_trailing_zeros 32 (4294967295 - get_or ms w 0) in (t < 32) × (mark ms (32 * w + t) ≡ 0) × ((k : ℕ) → 32 * from ≤ k → k < 32 * w + t → mark ms k ≡ 1)
lowest_in_word ms from w fits some before =
    let z = lowest_zero (get_or ms w 0) fits (omega arith) in (
      z.0,
      mark_in_word ms w _ z.0 ∙ z.1,
      λ k a l. elim (cases_lt k (32 * w)) [
        | inl h ↦ word_full ms (k / 32) k (before (k / 32) (omega arith) (omega arith)) refl
        | inr h ↦
            let e : k ≡ 32 * w + (k - 32 * w) = omega arith in
            ap (mark ms) e ∙ mark_in_word ms w (k - 32 * w) (omega arith) ∙ z.2 (k - 32 * w) (omega arith)
      ],
    )

-- ---- a map that tells which numbers can be taken

gone_spare : (m : Blocks) (k : ℕ) → k ≤ m.size → sum_to k (gone m) + sum_to k (λ b. spare (m.holders b)) ≡ k
gone_spare m zero l = omega (arith, sum_zero (gone m), sum_zero (λ b. spare (m.holders b)))
gone_spare m (suc k) l =
    let one : gone m k + spare (m.holders k) ≡ 1 = grind (arith, nat_tests) in
    omega (arith, sum_suc k (gone m), sum_suc k (λ b. spare (m.holders b)), gone_spare m k (omega arith))

-- the ones of the map, with the free numbers, are all the numbers that it has room for
pub ones_told : (ms : List ℕ) (m : Blocks) (n : ℕ) → m.size ≤ n → ((k : ℕ) → k < n → mark ms k ≡ gone m k) → sum_to n (mark ms) + free_count m ≡ n
unfolding free_count
ones_told ms m n l h =
    let d = n - m.size in
    let e : n ≡ m.size + d = omega arith in
    omega (
      arith,
      sum_same n (mark ms) (gone m) h,
      ap (λ (x : ℕ). sum_to x (gone m)) e,
      sum_join m.size d (gone m),
      sum_count d (λ j. gone m (m.size + j)) (λ j _. grind (arith, nat_tests)),
      gone_spare m m.size (omega arith),
    )

-- a release that leaves other holders
pub shared_marks : (ms : List ℕ) (m : Blocks) (b : ℕ) → Marks ms m → 1 < m.holders b → Marks ms (released m b)
shared_marks ms m b h more k l = elim (cases_eq k b) [
  | inl y ↦ h k l ∙ (let t = ap m.holders y in let z : gone m k ≡ gone (released m b) k = grind (arith, nat_tests) in z)
  | inr d ↦ h k l ∙ (let z : gone m k ≡ gone (released m b) k = grind (arith, nat_tests) in z)
]
