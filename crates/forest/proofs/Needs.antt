-- Counting what a plan changes, stretch by stretch.
use Rattle.std.proofs.Common.{◌≡◌, ℕ, zero, suc, ◌+◌, ◌-◌, ◌*◌, ◌^◌, ◌<◌, ◌≤◌, Bool, true, false, cond, ◌||◌, ◌≢◌, Option, Some, None, MatchOption, is_some, sym, refl, ap, ◌∙◌, subst, suc-mul, arith}
use Rattle.std.specs.Option.{unwrap_or}
use Rattle.std.proofs.Math.Bool.{or-false, or-true}
use Rattle.std.proofs.Math.Nat.{pow-le-pow_right, one-le-pow}
use Rattle.std.proofs.lemmas.Bool.{cond-true, cond-false}
use Rattle.block.specs.Blocks.{Blocks, sum_to}
use Rattle.block.proofs.Sums.{sum_more}
use Rattle.forest.specs.Trees.{child}
use Rattle.forest.specs.Plans.{any_to, changes, needed}
use Rattle.forest.proofs.Digits.{power_suc}
use Rattle.forest.proofs.Counts.{any_more}

-- fifteen times a sum of parts of which fifteen make at most b
sum_most : (n : ℕ) (f : ℕ → ℕ) (b : ℕ) → ((j : ℕ) → j < n → 15 * f j ≤ b) → 15 * sum_to n f ≤ n * b
unfolding sum_to
sum_most zero f b h = omega arith
sum_most (suc n) f b h = omega (arith, suc-mul n b, h n (omega arith), sum_most n f b (λ j l. h j (omega arith)))

-- a tree of order k has (16 ^ k - 1) / 15 stretches of order 1 and above
pub needed_most : (new : ℕ → ℕ → ℕ) (m : Blocks) (k p a : ℕ) → 15 * needed new m k p a < 16 ^ k
needed_most new m zero p a = omega arith
needed_most new m (suc k) p a = go (changes new m (suc k) p a) (sum_most 16 (λ j. needed new m k (child m p j) (a * 16 + j)) (16 ^ k - 1) (λ j l. omega (arith, needed_most new m k (child m p j) (a * 16 + j))))
  where
    go : (t : Bool) → 15 * sum_to 16 (λ j. needed new m k (child m p j) (a * 16 + j)) ≤ 16 * (16 ^ k - 1) → 15 * cond t (suc (sum_to 16 (λ j. needed new m k (child m p j) (a * 16 + j)))) 0 < 16 ^ suc k
    go true parts = omega (arith, power_suc k, one-le-pow k 16 (omega arith))
    go false parts = omega (arith, one-le-pow (suc k) 16 (omega arith))

-- where nothing changes nothing is needed
needed_none : (new : ℕ → ℕ → ℕ) (m : Blocks) (k p a : ℕ) → changes new m k p a ≡ false → needed new m k p a ≡ 0
needed_none new m zero p a e = refl
needed_none new m (suc k) p a e = cond-false (changes new m (suc k) p a) (suc (sum_to 16 (λ j. needed new m k (child m p j) (a * 16 + j)))) 0 e

module _ (new : ℕ → ℕ → ℕ) (m : Blocks) (p a : ℕ) where
  -- the count of the first i stretches, and of one more, fits 32 bits
  pub count_fits : (k i : ℕ) → k ≤ 3 → i < 16 → suc (sum_to i (λ j. needed new m k (child m p j) (a * 16 + j))) + needed new m k (child m p i) (a * 16 + i) < 2 ^ 32
  count_fits k i h l =
      let s = sum_most (i + 1) (λ j. needed new m k (child m p j) (a * 16 + j)) 4096 (λ j x. omega (arith, needed_most new m k (child m p j) (a * 16 + j), low)) in
      omega (arith, s, sum_more i (λ j. needed new m k (child m p j) (a * 16 + j)))
    where
      low : 16 ^ k ≤ 4096
      low = let p : 0 < 16 = omega arith in pow-le-pow_right {n = 16} p h

  pub count_more : (k i c : ℕ) (changed t : Bool) (blocks : ℕ) → changed ≡ any_to i (λ j. changes new m k (child m p j) (a * 16 + j)) → blocks ≡ suc (sum_to i (λ j. needed new m k (child m p j) (a * 16 + j))) → t ≡ changes new m k (child m p i) (a * 16 + i) → c ≡ needed new m k (child m p i) (a * 16 + i) → ((changed || t) ≡ any_to (i + 1) (λ j. changes new m k (child m p j) (a * 16 + j))) × (blocks + c ≡ suc (sum_to (i + 1) (λ j. needed new m k (child m p j) (a * 16 + j))))
  count_more k i c changed t blocks e f et ec = (
    ap (λ x. x || t) e ∙ ap (λ x. any_to i (λ j. changes new m k (child m p j) (a * 16 + j)) || x) et ∙ sym (any_more i (λ j. changes new m k (child m p j) (a * 16 + j))),
    omega (arith, f, ec, sum_more i (λ j. needed new m k (child m p j) (a * 16 + j))),
  )

  -- one more of them, which changes
  pub count_changed : (k i c blocks : ℕ) (t : Bool) → blocks ≡ suc (sum_to i (λ j. needed new m k (child m p j) (a * 16 + j))) → changes new m k (child m p i) (a * 16 + i) ≡ true → c ≡ needed new m k (child m p i) (a * 16 + i) → t ≡ any_to i (λ j. changes new m k (child m p j) (a * 16 + j)) → (true ≡ any_to (i + 1) (λ j. changes new m k (child m p j) (a * 16 + j))) × (blocks + c ≡ suc (sum_to (i + 1) (λ j. needed new m k (child m p j) (a * 16 + j))))
  count_changed k i c blocks t f ec et x = let r = count_more k i c t true blocks x f (sym ec) et in (sym (or-true t) ∙ r.0, r.1)

  -- one more of them, in which nothing changes
  pub count_same : (k i blocks : ℕ) (t : Bool) → t ≡ any_to i (λ j. changes new m k (child m p j) (a * 16 + j)) → blocks ≡ suc (sum_to i (λ j. needed new m k (child m p j) (a * 16 + j))) → changes new m k (child m p i) (a * 16 + i) ≡ false → (t ≡ any_to (i + 1) (λ j. changes new m k (child m p j) (a * 16 + j))) × (blocks ≡ suc (sum_to (i + 1) (λ j. needed new m k (child m p j) (a * 16 + j))))
  count_same k i blocks t x f ec =
      let r = count_more k i 0 t false blocks x f (sym ec) (sym (needed_none new m k (child m p i) (a * 16 + i) ec)) in
      (sym (or-false t) ∙ r.0, omega (arith, r.1))

  up : (o : ℕ) → o ≢ 0 → suc (o - 1) ≡ o
  up o h = omega arith

  -- all sixteen are counted
  pub count_all : (o i blocks : ℕ) (changed : Bool) → o ≢ 0 → i ≡ 16 → changed ≡ any_to i (λ j. changes new m (o - 1) (child m p j) (a * 16 + j)) → blocks ≡ suc (sum_to i (λ j. needed new m (o - 1) (child m p j) (a * 16 + j))) → changed ≡ true → (changed ≡ changes new m o p a) × (blocks ≡ needed new m o p a)
  count_all o i blocks changed h e x y t =
      subst (λ (k : ℕ). (changed ≡ changes new m k p a) × (blocks ≡ needed new m k p a)) (up o h)
      (let x₁ = subst (λ (n : ℕ). changed ≡ any_to n (λ j. changes new m (o - 1) (child m p j) (a * 16 + j))) e x in
      let y₁ = subst (λ (n : ℕ). blocks ≡ suc (sum_to n (λ j. needed new m (o - 1) (child m p j) (a * 16 + j)))) e y in
      (x₁, y₁ ∙ sym (cond-true (changes new m (suc (o - 1)) p a) _ 0 (sym x₁ ∙ t))))

  -- nothing changes in any of them
  pub count_none : (o i : ℕ) (changed : Bool) → o ≢ 0 → i ≡ 16 → changed ≡ any_to i (λ j. changes new m (o - 1) (child m p j) (a * 16 + j)) → changed ≡ false → (false ≡ changes new m o p a) × (◌≡◌ {A = ℕ} 0 (needed new m o p a))
  count_none o i changed h e x t =
      subst (λ (k : ℕ). (false ≡ changes new m k p a) × (◌≡◌ {A = ℕ} 0 (needed new m k p a))) (up o h)
      (let x₁ = subst (λ (n : ℕ). changed ≡ any_to n (λ j. changes new m (o - 1) (child m p j) (a * 16 + j))) e x in
      (sym t ∙ x₁, sym (cond-false (changes new m (suc (o - 1)) p a) (suc (sum_to 16 (λ j. needed new m (o - 1) (child m p j) (a * 16 + j)))) 0 (sym x₁ ∙ t))))

  -- so the count of the whole
  pub count_told : (o i : ℕ) (blocks : Option ℕ) → o ≢ 0 → i ≡ 16 → is_some blocks ≡ any_to i (λ j. changes new m (o - 1) (child m p j) (a * 16 + j)) → unwrap_or blocks 1 ≡ suc (sum_to i (λ j. needed new m (o - 1) (child m p j) (a * 16 + j))) → MatchOption blocks (changes new m o p a ≡ false) (λ b. (changes new m o p a ≡ true) × (b ≡ needed new m o p a))
  count_told o i (Some b) h e x y = let r = count_all o i b true h e x y refl in (sym r.0, r.1)
  count_told o i None h e x y = sym (count_none o i false h e x refl).0
