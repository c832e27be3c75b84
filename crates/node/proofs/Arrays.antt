-- What `array::from_fn` and an array's `map` make with a closure that no call changes.
use Rattle.std.proofs.Common.{◌≡◌, ℕ, zero, suc, ◌+◌, ◌<◌, ◌≤◌, List, map, length, get_or, sym, ap, ◌∙◌, subst, arith}
use Rattle.std.proofs.Math.Decide.{ℕ_discrete}
use Rattle.std.specs.Fn.{Mut, Called}
use Rattle.std.specs.Array.{IsFromFnResultFrom, IsFromFnResult, MapsFrom, IsMapOf}
use Rattle.std.specs.List.{range_with_len}
use Rattle.std.proofs.lemmas.List.{ext_get_or, get_or-map, length-map}
use Rattle.std.proofs.lemmas.List.FromFn.{fill_by_all}

-- what holds of what each call gives holds of each element
module _ {F B : Type 0} (g : Mut F (ℕ × Unit {0}) B) (f : F) (P : ℕ → B → Type 0) (ys : List B) (d : B) (end : ℕ) (call : (i : ℕ) (y : B) (q : F) → i < end → Called g f (i, tt) y q → (q ≡ f) × P i y) where
  each : (i n : ℕ) → i + n ≤ end → IsFromFnResultFrom g f ys i n → (k : ℕ) → i ≤ k → k < i + n → P k (get_or ys k d)
  each i zero e r k lo hi = absurd (omega arith)
  each i (suc n) e r k lo hi =
      let c = call i r.1 r.0 (omega arith) r.3 in
      elim (ℕ_discrete k i) [
        | yes y ↦ subst (λ (x : ℕ). P x (get_or ys x d)) (sym y) (subst (P i) (sym (r.2.1 d)) c.1)
        | no z ↦ each (i + 1) n (omega arith) (subst (λ x. IsFromFnResultFrom g x ys (i + 1) n) c.0 r.4) k (omega arith) (omega arith)
      ]

  pub each_made : IsFromFnResult g f ys end → (k : ℕ) → k < end → P k (get_or ys k d)
  each_made r k l = each 0 end (omega arith) r.each k (omega arith) (omega arith)

pub made_by : {F B : Type 0} (g : Mut F (ℕ × Unit {0}) B) (f : F) (h : ℕ → B) (ys : List B) (d : B) (end : ℕ) → ((i : ℕ) (y : B) (q : F) → i < end → Called g f (i, tt) y q → (q ≡ f) × (y ≡ h i)) → IsFromFnResult g f ys end → ys ≡ map h (range_with_len 0 end)
made_by g f h ys d end call r = fill_by_all h ys end d r.long (λ k l. each_made g f (λ i y. y ≡ h i) ys d end call r k l)

module _ {F A B : Type 0} (g : Mut F (A × Unit {0}) B) (f : F) (h : A → B) (xs : List A) (ys : List B) (b : A) (d : B) (call : (x : A) (y : B) (q : F) → Called g f (x, tt) y q → (q ≡ f) × (y ≡ h x)) where
  each_mapped : (i n : ℕ) → MapsFrom g f xs ys i n → (k : ℕ) → i ≤ k → k < i + n → get_or ys k d ≡ h (get_or xs k b)
  each_mapped i zero r k lo hi = absurd (omega arith)
  each_mapped i (suc n) r k lo hi =
      let c = call r.1 r.2 r.0 r.5 in
      elim (ℕ_discrete k i) [
        | yes y ↦ subst (λ (x : ℕ). get_or ys x d ≡ h (get_or xs x b)) (sym y) (r.4.1 d ∙ c.1 ∙ sym (ap h (r.3.1 b)))
        | no z ↦ each_mapped (i + 1) n (subst (λ x. MapsFrom g x xs ys (i + 1) n) c.0 r.6) k (omega arith) (omega arith)
      ]

  pub mapped_by : (n : ℕ) → length xs ≡ n → IsMapOf g f xs ys n → ys ≡ map h xs
  mapped_by n l r = ext_get_or d ys (map h xs) (r.long ∙ sym (length-map xs h ∙ l)) (λ k s. each_mapped 0 n r.each k (omega arith) (omega (arith, r.long)) ∙ sym (get_or-map h xs k b d (omega (arith, r.long))))
