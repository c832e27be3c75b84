-- Lines go from their start to their end, one step at a time.
use Rattle.std.proofs.Common.{◌≡◌, ℕ, suc, ◌+◌, ◌-◌, ◌*◌, ◌/◌, ◌<◌, ◌≤◌, Bool, true, false, cond, eqb, leb, refl, ap, ◌∙◌, add-mul, le-div_iff_mul-le, zero-mul, div-mul-le_self, arith, eqb-true, leb-false, leb-true}
use Rattle.std.proofs.Math.Nat.{mul-add-div, div-eq_of_lt, add-div_right}
use Rattle.std.proofs.lemmas.Bool.{eqb-false}
use Rattle.rules.specs.Lists.{apart}
use Rattle.rules.specs.Lines.{Point, steps, moved}
use Rattle.rules.specs.LineLaws.{LineEnds, LineConnects}

-- how far a coordinate with the distance m has moved after i of n steps
abbrev far : ℕ → ℕ → ℕ → ℕ
far n m i = (2 * i * m + n) / (2 * n)

half_step : (n : ℕ) → 0 < n → n / (2 * n) ≡ 0
half_step n p = div-eq_of_lt (omega arith)

far_start : (n m : ℕ) → 0 < n → far n m 0 ≡ 0
far_start n m p = ap (λ v. v / (2 * n)) (let z : 0 * m + n ≡ n = omega (arith, zero-mul m) in z) ∙ half_step n p

far_end : (n m : ℕ) → 0 < n → far n m n ≡ m
far_end n m p = mul-add-div (omega arith) m n ∙ (let h = half_step n p in omega arith)

div_mono : (d : ℕ) {x y : ℕ} → 0 < d → x ≤ y → x / d ≤ y / d
div_mono d {x} {y} p l = (le-div_iff_mul-le p).1 (let h = div-mul-le_self x d in omega arith)

-- one step more moves it by 0 or 1
far_next : (n m i : ℕ) → 0 < n → m ≤ n → (far n m i ≤ far n m (suc i)) × (far n m (suc i) ≤ far n m i + 1)
far_next n m i p l =
    let x = 2 * i * m + n in
    let e : 2 * suc i * m + n ≡ x + 2 * m
    = ap (λ v. v + n) (ap (λ v. v * m) (let z : 2 * suc i ≡ 2 * i + 2 = omega arith in z) ∙ add-mul (2 * i) 2 m) ∙ (let z : 2 * i * m + 2 * m + n ≡ 2 * i * m + n + 2 * m = omega arith in z)
    in
    let more : x / (2 * n) ≤ (x + 2 * m) / (2 * n) = div_mono (2 * n) (omega arith) (omega arith) in
    let less : (x + 2 * m) / (2 * n) ≤ (x + 2 * n) / (2 * n) = div_mono (2 * n) (omega arith) (omega arith) in
    let one : (x + 2 * n) / (2 * n) ≡ x / (2 * n) + 1 = add-div_right x (omega arith) in
    let q : far n m (suc i) ≡ (x + 2 * m) / (2 * n) = ap (λ v. v / (2 * n)) e in
    (omega arith, omega arith)

moved_start : (n a b : ℕ) → moved n 0 a b ≡ a
moved_start n a b = go (eqb n 0) (leb a b) refl
  where
    go : (u v : Bool) → eqb n 0 ≡ u → cond u a (cond v (a + far n (apart a b) 0) (a - far n (apart a b) 0)) ≡ a
    go true v e = refl
    go false true e = let z = far_start n (apart a b) (let k = eqb-false n 0 e in omega arith) in omega arith
    go false false e = let z = far_start n (apart a b) (let k = eqb-false n 0 e in omega arith) in omega arith

moved_end : (n a b : ℕ) → apart a b ≤ n → moved n n a b ≡ b
moved_end n a b l = go (eqb n 0) (leb a b) refl refl
  where
    go : (u v : Bool) → eqb n 0 ≡ u → leb a b ≡ v → cond u a (cond v (a + far n (apart a b) n) (a - far n (apart a b) n)) ≡ b
    go true v e f = let k = eqb-true n 0 e in omega arith
    go false true e f = let z = far_end n (apart a b) (let k = eqb-false n 0 e in omega arith) in let g = leb-true a b f in omega arith
    go false false e f = let z = far_end n (apart a b) (let k = eqb-false n 0 e in omega arith) in let g = leb-false a b f in omega arith

moved_next : (n i a b : ℕ) → apart a b ≤ n → apart (moved n i a b) (moved n (suc i) a b) ≤ 1
moved_next n i a b l = go (eqb n 0) (leb a b) refl
  where
    go : (u v : Bool) → eqb n 0 ≡ u → apart (cond u a (cond v (a + far n (apart a b) i) (a - far n (apart a b) i))) (cond u a (cond v (a + far n (apart a b) (suc i)) (a - far n (apart a b) (suc i)))) ≤ 1
    go true v e = omega arith
    go false v e = near v (far n (apart a b) i) (far n (apart a b) (suc i)) (far_next n (apart a b) i (let k = eqb-false n 0 e in omega arith) l)
      where
        near : (v : Bool) (x y : ℕ) → (x ≤ y) × (y ≤ x + 1) → apart (cond v (a + x) (a - x)) (cond v (a + y) (a - y)) ≤ 1
        near true x y h = let p = h.0 in let q = h.1 in omega arith
        near false x y h = let p = h.0 in let q = h.1 in omega arith

-- the distances are no more than the steps
left_steps : (a b : Point) → apart a.0 b.0 ≤ steps a b
left_steps a b = omega arith

right_steps : (a b : Point) → apart a.1 b.1 ≤ steps a b
right_steps a b = omega arith

pub line_ends : LineEnds
line_ends a b = (
  (λ j. (moved_start (steps a b) a.0 b.0 j, moved_start (steps a b) a.1 b.1 j)),
  (λ j. (moved_end (steps a b) a.0 b.0 (left_steps a b) j, moved_end (steps a b) a.1 b.1 (right_steps a b) j)),
)

pub line_connects : LineConnects
line_connects a b i = (moved_next (steps a b) i a.0 b.0 (left_steps a b), moved_next (steps a b) i a.1 b.1 (right_steps a b))
