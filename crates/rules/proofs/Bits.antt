-- Numbers and their binary digits.
use Rattle.std.proofs.Common.{◌≡◌, ℕ, zero, suc, ◌+◌, ◌-◌, ◌*◌, ◌/◌, ◌%◌, ◌^◌, ◌<◌, Bool, true, false, eqb, sym, refl, ap, ◌∙◌, ap₂, ⊎_elim, pow-suc, arith}
use Rattle.std.proofs.Math.Nat.{pow-succ', div-div-eq-div-mul}
use Rattle.std.proofs.lemmas.Bool.{cases_eq, eq-eqb, ne_eqb}
use Rattle.rules.specs.Lists.{bit, binary, binary_digit}

pub binary_like : (n : ℕ) (f g : ℕ → Bool) → ((b : ℕ) → b < n → f b ≡ g b) → binary n f ≡ binary n g
binary_like zero f g e = refl
binary_like (suc n) f g e = ap₂ (λ u v. 2 * u + bit v) (binary_like n f g (λ b l. e b (omega arith))) (e n (omega arith))

pub binary_below : (n : ℕ) (f : ℕ → Bool) → binary n f < 2 ^ n
binary_below zero f = omega arith
binary_below (suc n) f = go (binary_below n f) (f n)
  where
    go : binary n f < 2 ^ n → (b : Bool) → 2 * binary n f + bit b < 2 ^ suc n
    go l true = omega (arith, pow-suc 2 n)
    go l false = omega (arith, pow-suc 2 n)

-- the lowest digit
lowest : (n v b : ℕ) → b ≡ n → binary_digit (suc n) v b ≡ eqb (v % 2) 1
lowest n v b e =
    let k : suc n - 1 - b ≡ 0 = omega arith in
    let d : v / 1 ≡ v = omega arith in
    ap (λ (i : ℕ). eqb (v / 2 ^ i % 2) 1) k ∙ ap (λ (u : ℕ). eqb (u % 2) 1) d

-- every other digit is one of the half
higher : (n v b : ℕ) → b < n → binary_digit (suc n) v b ≡ binary_digit n (v / 2) b
higher n v b l =
    let k : suc n - 1 - b ≡ suc (n - 1 - b) = omega arith in
    ap (λ (i : ℕ). eqb (v / 2 ^ i % 2) 1) k
    ∙ ap (λ (p : ℕ). eqb (v / p % 2) 1) (pow-succ' 2 (n - 1 - b))
    ∙ ap (λ (u : ℕ). eqb (u % 2) 1) (sym (div-div-eq-div-mul v 2 (2 ^ (n - 1 - b))))

half : (v : ℕ) (b : Bool) → (2 * v + bit b) / 2 ≡ v
half v true = omega arith
half v false = omega arith

odd : (v : ℕ) (b : Bool) → eqb ((2 * v + bit b) % 2) 1 ≡ b
odd v true = eq-eqb ((2 * v + 1) % 2) 1 (omega arith)
odd v false = ne_eqb ((2 * v + 0) % 2) 1 (λ e. omega arith)

-- the digits of a number made of digits are those digits
pub binary_back : (n : ℕ) (f : ℕ → Bool) (b : ℕ) → b < n → binary_digit n (binary n f) b ≡ f b
binary_back zero f b l = absurd (omega arith)
binary_back (suc n) f b l =
    ⊎_elim
    (λ e. lowest n (binary (suc n) f) b e ∙ odd (binary n f) (f n) ∙ ap f (sym e))
    (λ e. higher n (binary (suc n) f) b (omega arith) ∙ ap (λ (v : ℕ). binary_digit n v b) (half (binary n f) (f n)) ∙ binary_back n f b (omega arith))
    (cases_eq b n)

-- a number is made of its digits
pub binary_forth : (n v : ℕ) → v < 2 ^ n → binary n (binary_digit n v) ≡ v
binary_forth zero v l = omega arith
binary_forth (suc n) v l =
    ap₂ (λ u w. 2 * u + bit w)
    (binary_like n (binary_digit (suc n) v) (binary_digit n (v / 2)) (higher n v) ∙ binary_forth n (v / 2) (omega (arith, pow-suc 2 n)))
    (lowest n v n refl)
    ∙ ⊎_elim
    (λ e. ap (λ b. 2 * (v / 2) + bit b) (eq-eqb (v % 2) 1 e) ∙ (let z : 2 * (v / 2) + 1 ≡ v = omega arith in z))
    (λ e. ap (λ b. 2 * (v / 2) + bit b) (ne_eqb (v % 2) 1 e) ∙ (let z : 2 * (v / 2) + 0 ≡ v = omega arith in z))
    (cases_eq (v % 2) 1)
