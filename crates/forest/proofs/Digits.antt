-- The digits of a cell's number.
use Rattle.std.proofs.Common.{◌≡◌, ℕ, zero, suc, ◌+◌, ◌*◌, ◌/◌, ◌%◌, ◌^◌, ◌<◌, length, sym, refl, ap, ◌∙◌, subst, mod-eq_of_lt, mul_assoc, mul_comm, add-mul, pow-suc, arith, pow-add}
use Rattle.std.proofs.lemmas.Nat.{mod-pow-add}
use Rattle.std.specs.List.{AllByRecursion}
use Rattle.block.specs.Blocks.{Blocks}
use Rattle.forest.specs.Trees.{digits, lookup}
use Rattle.forest.specs.Rebuilds.{number, Reads}

pub length_digits : (k i : ℕ) → length (digits k i) ≡ k
length_digits zero i = refl
length_digits (suc k) i = ap suc (length_digits k i)

all_digits : (k i : ℕ) → AllByRecursion (λ (d : ℕ). d < 16) (digits k i)
all_digits zero i = tt
all_digits (suc k) i = (omega arith, all_digits k i)

-- powers of 16, as the code shifts by four bits
pub power : (k : ℕ) → 2 ^ (4 * k) ≡ 16 ^ k
power zero = refl
power (suc k) = let e : 4 * suc k ≡ 4 + 4 * k = omega arith in omega (arith, ap (λ (v : ℕ). 2 ^ v) e ∙ pow-add 2 4 (4 * k), power k, pow-suc 16 k)

pub power_suc : (k : ℕ) → 16 ^ suc k ≡ 16 * 16 ^ k
power_suc k = pow-suc 16 k ∙ mul_comm (16 ^ k) 16

mod_step : (k i : ℕ) → i % 16 ^ suc k ≡ (i / 16 ^ k) % 16 * 16 ^ k + i % 16 ^ k
mod_step k i =
    let e : 4 * suc k ≡ 4 + 4 * k = omega arith in
    let p : 16 * 2 ^ (4 * k) ≡ 2 ^ (4 + 4 * k) = sym (pow-add 2 4 (4 * k)) in
    ap (λ (n : ℕ). i % n) (power_suc k) ∙
    subst (λ (x : ℕ). i % (16 * x) ≡ (i / x) % 16 * x + i % x) (power k) (ap (λ (n : ℕ). i % n) p ∙ mod-pow-add i 4 (4 * k))

number_digits : (k a i : ℕ) → number a (digits k i) ≡ a * 16 ^ k + i % 16 ^ k
number_digits zero a i = omega arith
number_digits (suc k) a i =
    let x = 16 ^ k in
    let d = (i / x) % 16 in
    let s : (a * 16 + d) * x ≡ a * 16 * x + d * x = add-mul _ _ _ in
    let r : a * 16 * x ≡ a * (16 * x) = mul_assoc _ _ _ in
    let q : a * 16 ^ suc k ≡ a * (16 * x) = ap (λ (n : ℕ). a * n) (power_suc k) in
    omega (arith, mod_step k i, number_digits k (a * 16 + d) i)

-- each cell of the new tree, by its number
pub reads_at : (new : ℕ → ℕ → ℕ) (m n : Blocks) (k p q i : ℕ) → Reads new m n k p 0 q → i < 16 ^ k → lookup n k q i ≡ new i (lookup m k p i)
reads_at new m n k p q i r l =
    let e : number 0 (digits k i) ≡ i = omega (arith, number_digits k 0 i, mod-eq_of_lt l) in
    r (digits k i) (length_digits k i) (all_digits k i) ∙ ap (λ (x : ℕ). new x (lookup m k p i)) e
