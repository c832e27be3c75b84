-- A walk goes stretch by stretch, and passes over what is blank or outside the region.
use Rattle.std.proofs.Common.{◌≡◌, ℕ, suc, ◌+◌, ◌-◌, ◌*◌, ◌/◌, ◌%◌, ◌^◌, ◌<◌, ◌≤◌, Bool, true, false, cond, ◌≢◌, List, [], ◌∷◌, refl, sym, ap, subst, ◌∙◌, suc-mul, arith}
use Rattle.std.proofs.Math.Nat.{mul_assoc, add-mul, div-eq_of_lt-le}
use Rattle.block.specs.Blocks.{Blocks}
use Rattle.forest.specs.Trees.{child, look, digits, lookup}
use Rattle.forest.proofs.Digits.{power_suc}
use Rattle.walk.specs.Walks.{Clear, visit, over}
use Rattle.walk.proofs.Overs.{over_same, over_none, over_join}

look_zero : (m : Blocks) (ds : List ℕ) → look m 0 ds ≡ 0
look_zero m [] = refl
look_zero m (d ∷ ds) = look_zero m ds

visit_not : {V : Type 0} (has : ℕ → Bool) (step : ℕ → ℕ → V → V) (cell : ℕ → ℕ) (i : ℕ) (v : V) → has i ≡ false → visit has step cell i v ≡ v
visit_not has step cell i v e = ap (λ t. cond t (step i (cell i) v) v) e

module _ {V : Type 0} (has : ℕ → Bool) (step : ℕ → ℕ → V → V) (m : Blocks) where
  ends : (k a : ℕ) → (a + 1) * 16 ^ k ≡ a * 16 ^ k + 16 ^ k
  ends k a = let e : a + 1 ≡ suc a = omega arith in ap (λ (x : ℕ). x * 16 ^ k) e ∙ suc-mul a (16 ^ k)

  pub walk_clear : (k p a : ℕ) (v : V) → Clear has k a → over (visit has step (lookup m k p)) (a * 16 ^ k) (16 ^ k) v ≡ v
  walk_clear k p a v c = over_none _ (a * 16 ^ k) (16 ^ k) v (λ i w l h. visit_not has step (lookup m k p) i w (c i l (omega (arith, ends k a))))

  pub walk_blank : (k a : ℕ) (v : V) → ((i : ℕ) (w : V) → step i 0 w ≡ w) → over (visit has step (lookup m k 0)) (a * 16 ^ k) (16 ^ k) v ≡ v
  walk_blank k a v b = over_none _ (a * 16 ^ k) (16 ^ k) v (λ i w l h. go i w (has i))
    where
      go : (i : ℕ) (w : V) (t : Bool) → cond t (step i (lookup m k 0 i) w) w ≡ w
      go i w true = ap (λ (x : ℕ). step i x w) (look_zero m (digits k i)) ∙ b i w
      go i w false = refl

  pub walk_cell : (p a : ℕ) (v : V) → over (visit has step (lookup m 0 p)) (a * 16 ^ 0) (16 ^ 0) v ≡ cond (has a) (step a p v) v
  walk_cell p a v = let e : a * 16 ^ 0 + 0 ≡ a = omega arith in ap (λ (i : ℕ). visit has step (lookup m 0 p) i v) e

  digit : (k a j i : ℕ) → j < 16 → (a * 16 + j) * 16 ^ k ≤ i → i < (a * 16 + j) * 16 ^ k + 16 ^ k → (i / 16 ^ k) % 16 ≡ j
  digit k a j i l lo hi =
      let q : i / 16 ^ k ≡ a * 16 + j = div-eq_of_lt-le {k = a * 16 + j} (16 ^ k) lo (omega (arith, ends k (a * 16 + j))) in
      omega (arith, q)

  walk_step : (k p a j : ℕ) (v : V) → j < 16 → over (visit has step (lookup m (suc k) p)) (a * 16 ^ suc k) ((j + 1) * 16 ^ k) v ≡ over (visit has step (lookup m k (child m p j))) ((a * 16 + j) * 16 ^ k) (16 ^ k) (over (visit has step (lookup m (suc k) p)) (a * 16 ^ suc k) (j * 16 ^ k) v)
  walk_step k p a j v l =
      let s : (a * 16 + j) * 16 ^ k ≡ a * 16 ^ suc k + j * 16 ^ k = add-mul (a * 16) j (16 ^ k) ∙ ap (λ (x : ℕ). x + j * 16 ^ k) (mul_assoc a 16 (16 ^ k) ∙ ap (λ (x : ℕ). a * x) (sym (power_suc k))) in
      ap (λ (x : ℕ). over (visit has step (lookup m (suc k) p)) (a * 16 ^ suc k) x v) (ends k j) ∙
      over_join (visit has step (lookup m (suc k) p)) (a * 16 ^ suc k) (j * 16 ^ k) (16 ^ k) v ∙
      ap (λ (x : ℕ). over (visit has step (lookup m (suc k) p)) x (16 ^ k) (over (visit has step (lookup m (suc k) p)) (a * 16 ^ suc k) (j * 16 ^ k) v)) (sym s) ∙
      over_same (visit has step (lookup m (suc k) p)) (visit has step (lookup m k (child m p j))) ((a * 16 + j) * 16 ^ k) (16 ^ k) _ (λ i w lo hi. ap (λ (x : ℕ). cond (has i) (step i (lookup m k (child m p x) i) w) w) (digit k a j i l lo hi))

  -- one stretch more: its word is c, and w the visitor before it
  pub walk_more : (o p a j c : ℕ) (v w u : V) → o ≢ 0 → j < 16 → c ≡ child m p j → w ≡ over (visit has step (lookup m o p)) (a * 16 ^ o) (j * 16 ^ (o - 1)) v → u ≡ over (visit has step (lookup m (o - 1) c)) ((a * 16 + j) * 16 ^ (o - 1)) (16 ^ (o - 1)) w → u ≡ over (visit has step (lookup m o p)) (a * 16 ^ o) ((j + 1) * 16 ^ (o - 1)) v
  walk_more o p a j c v w u h l ec ew eu =
      let k = o - 1 in
      let e : suc (o - 1) ≡ o = omega arith in
      eu ∙
      ap (λ (x : ℕ). over (visit has step (lookup m k x)) ((a * 16 + j) * 16 ^ k) (16 ^ k) w) ec ∙
      ap (over (visit has step (lookup m k (child m p j))) ((a * 16 + j) * 16 ^ k) (16 ^ k)) ew ∙
      subst (λ (x : ℕ). over (visit has step (lookup m k (child m p j))) ((a * 16 + j) * 16 ^ k) (16 ^ k) (over (visit has step (lookup m x p)) (a * 16 ^ x) (j * 16 ^ k) v) ≡ over (visit has step (lookup m x p)) (a * 16 ^ x) ((j + 1) * 16 ^ k) v) e (sym (walk_step k p a j v l))

  -- all sixteen
  pub walk_all : (o p a i : ℕ) (v w : V) → o ≢ 0 → i ≡ 16 → w ≡ over (visit has step (lookup m o p)) (a * 16 ^ o) (i * 16 ^ (o - 1)) v → w ≡ over (visit has step (lookup m o p)) (a * 16 ^ o) (16 ^ o) v
  walk_all o p a i v w h e x =
      let u : suc (o - 1) ≡ o = omega arith in
      x ∙ ap (λ (n : ℕ). over (visit has step (lookup m o p)) (a * 16 ^ o) n v) (ap (λ (n : ℕ). n * 16 ^ (o - 1)) e ∙ sym (power_suc (o - 1)) ∙ ap (λ (n : ℕ). 16 ^ n) u)
