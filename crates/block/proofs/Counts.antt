-- How many numbers are free after a call.
use Rattle.std.proofs.Common.{◌≡◌, ℕ, ◌+◌, ◌-◌, ◌<◌, ◌≤◌, cond, eqb, ◌≢◌, refl, ap, inl, inr, arith}
use Rattle.std.proofs.lemmas.Bool.{cases_eq}
use Rattle.std.proofs.lemmas.Bool.Decides.{nat_tests}
use Rattle.block.specs.Blocks.{Blocks, all_free, sum_to, spare, free_count}
use Rattle.block.specs.Calls.{written, kept, released, taken}
use Rattle.block.proofs.Sums.{sum_same, sum_at, sum_none, sum_count, at_most_sum, sum_ones}

spare_free : (h : ℕ) → h ≡ 0 → spare h ≡ 1
spare_free h e = grind (arith, nat_tests)

spare_held : (h : ℕ) → 0 < h → spare h ≡ 0
spare_held h l = grind (arith, nat_tests)

-- one number's holders set to h
abbrev at_one : Blocks → ℕ → ℕ → ℕ → ℕ
at_one m b h c = cond (eqb c b) h (m.holders c)

at_one_same : (m : Blocks) (b h : ℕ) → at_one m b h b ≡ h
at_one_same m b h = grind (arith, nat_tests)

at_one_other : (m : Blocks) (b h c : ℕ) → c ≢ b → at_one m b h c ≡ m.holders c
at_one_other m b h c d = grind (arith, nat_tests)

-- as many are free where b is free before and after, or neither
level : (m : Blocks) (b h : ℕ) → spare h ≡ spare (m.holders b) → sum_to m.size (λ c. spare (at_one m b h c)) ≡ sum_to m.size (λ c. spare (m.holders c))
level m b h e =
    sum_same m.size _ _ (λ c l.
    elim (cases_eq c b) [
      | inl y ↦ let t = ap m.holders y in let u = ap (at_one m b h) y in let v = at_one_same m b h in let w = ap spare t in grind (arith, nat_tests)
      | inr d ↦ ap spare (at_one_other m b h c d)
    ])

-- the sum before and after, where b is below the size
shifted : (m : Blocks) (b h : ℕ) → b < m.size → sum_to m.size (λ c. spare (at_one m b h c)) + spare (m.holders b) ≡ sum_to m.size (λ c. spare (m.holders c)) + spare h
shifted m b h l =
    let s = sum_at m.size (λ c. spare (at_one m b h c)) (λ c. spare (m.holders c)) b l (λ c d. ap spare (at_one_other m b h c d)) in
    omega (arith, s, ap spare (at_one_same m b h))

pub count_kept : (m : Blocks) (b : ℕ) → 0 < m.holders b → free_count (kept m b) ≡ free_count m
unfolding free_count
count_kept m b l = level m b (m.holders b + 1) (let x = spare_held (m.holders b + 1) (omega arith) in let y = spare_held (m.holders b) l in omega arith)

pub count_released : (m : Blocks) (b : ℕ) → 1 < m.holders b → free_count (released m b) ≡ free_count m
unfolding free_count
count_released m b l = level m b (m.holders b - 1) (let x = spare_held (m.holders b - 1) (omega arith) in let y = spare_held (m.holders b) (omega arith) in omega arith)

pub count_freed : (m : Blocks) (b : ℕ) → b < m.size → m.holders b ≡ 1 → free_count (released m b) ≡ free_count m + 1
unfolding free_count
count_freed m b l e = omega (arith, shifted m b (m.holders b - 1) l, spare_free (m.holders b - 1) (omega arith), spare_held (m.holders b) (omega arith))

pub count_taken : (m : Blocks) (b : ℕ) → b < m.size → m.holders b ≡ 0 → free_count (taken m b) + 1 ≡ free_count m
unfolding free_count
count_taken m b l e = omega (arith, shifted m b 1 l, spare_free (m.holders b) e, spare_held 1 (omega arith))

pub count_written : (m : Blocks) (b i w : ℕ) → free_count (written m b i w) ≡ free_count m
unfolding free_count
count_written m b i w = refl

-- none is left: all are out
pub none_left : (m : Blocks) → free_count m ≡ 0 → (b : ℕ) → b < m.size → 0 < m.holders b
unfolding free_count
none_left m e b l =
    let x = at_most_sum m.size (λ c. spare (m.holders c)) b l in
    elim (cases_eq (m.holders b) 0) [ inl z ↦ let y = spare_free (m.holders b) z in omega arith | inr d ↦ omega arith ]

pub all_out : (m : Blocks) → ((b : ℕ) → b < m.size → 0 < m.holders b) → free_count m ≡ 0
unfolding free_count
all_out m h = sum_none m.size _ (λ b l. spare_held (m.holders b) (h b l))

pub count_all_free : (n : ℕ) → free_count (all_free n) ≡ n
unfolding free_count
count_all_free n = sum_count n (λ b. spare 0) (λ b _. refl)

-- no more are free than there are
pub count_most : (m : Blocks) → free_count m ≤ m.size
unfolding free_count
count_most m = sum_ones m.size _ (λ b l. grind (arith, nat_tests))
