-- Doing something at each of a row of indices.
use Rattle.std.proofs.Common.{◌≡◌, ℕ, zero, suc, ◌+◌, ◌<◌, ◌≤◌, refl, ap, ◌∙◌, arith}
use Rattle.walk.specs.Walks.{over}

-- where it does the same
pub over_same : {V : Type 0} (f g : ℕ → V → V) (a n : ℕ) (v : V) → ((i : ℕ) (w : V) → a ≤ i → i < a + n → f i w ≡ g i w) → over f a n v ≡ over g a n v
over_same f g a zero v h = refl
over_same f g a (suc n) v h = ap (f (a + n)) (over_same f g a n v (λ i w l k. h i w l (omega arith))) ∙ h (a + n) (over g a n v) (omega arith) (omega arith)

-- where it does nothing
pub over_none : {V : Type 0} (f : ℕ → V → V) (a n : ℕ) (v : V) → ((i : ℕ) (w : V) → a ≤ i → i < a + n → f i w ≡ w) → over f a n v ≡ v
over_none f a zero v h = refl
over_none f a (suc n) v h = h (a + n) (over f a n v) (omega arith) (omega arith) ∙ over_none f a n v (λ i w l k. h i w l (omega arith))

-- one row and then the next
pub over_join : {V : Type 0} (f : ℕ → V → V) (a n k : ℕ) (v : V) → over f a (n + k) v ≡ over f (a + n) k (over f a n v)
over_join f a n zero v = let e : n + 0 ≡ n = omega arith in ap (λ (x : ℕ). over f a x v) e
over_join f a n (suc k) v =
    let e : n + suc k ≡ suc (n + k) = omega arith in
    let s : a + (n + k) ≡ a + n + k = omega arith in
    ap (λ (x : ℕ). over f a x v) e ∙ ap (λ (x : ℕ). f x (over f a (n + k) v)) s ∙ ap (f (a + n + k)) (over_join f a n k v)
