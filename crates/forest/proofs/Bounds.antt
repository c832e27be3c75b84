-- The numbers of a tree's cells fit 32 bits.
use Rattle.std.proofs.Common.{◌≡◌, ℕ, suc, ◌+◌, ◌-◌, ◌*◌, ◌^◌, ◌<◌, ◌≤◌, ◌≢◌, ap, ◌∙◌, pow-suc, arith}
use Rattle.std.proofs.Math.Nat.{pow-le-pow_right}

pub at_child : (a o i : ℕ) → a < 16 ^ (4 - o) → o ≢ 0 → o ≤ 4 → i < 16 → a * 16 + i < 16 ^ (4 - (o - 1))
at_child a o i l z h j =
    let e : 4 - (o - 1) ≡ suc (4 - o) = omega arith in
    omega (arith, ap (λ (x : ℕ). 16 ^ x) e ∙ pow-suc 16 (4 - o))

pub at_fits : (a o i : ℕ) → a < 16 ^ (4 - o) → o ≢ 0 → o ≤ 4 → i < 16 → a * 16 + i < 2 ^ 32
at_fits a o i l z h j =
    let p : 0 < 16 = omega arith in
    let q : 4 - (o - 1) ≤ 4 = omega arith in
    omega (arith, at_child a o i l z h j, pow-le-pow_right {n = 16} p q)
