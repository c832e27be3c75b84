-- A rebuild needs a block for each stretch that changes.
use Rattle.std.proofs.Common.{◌≡◌, ℕ, zero, suc, ◌+◌, ◌-◌, ◌*◌, ◌/◌, ◌%◌, ◌^◌, ◌<◌, Bool, true, false, cond, sym, refl, ap, ◌∙◌, mul_assoc, suc-mul, mul_comm, add-mul, pow-suc, arith, true≢false}
use Rattle.std.proofs.Math.Decide.{ℕ_discrete}
use Rattle.std.proofs.lemmas.Bool.{cond-true, cond-false}
use Rattle.block.specs.Blocks.{Blocks, sum_to}
use Rattle.forest.specs.Trees.{child}
use Rattle.forest.specs.Plans.{changes, needed}
use Rattle.block.proofs.Sums.{sum_same, sum_none}
use Rattle.forest.proofs.Counts.{needed_changes}
use Rattle.count.specs.Paths.{down}
use Rattle.count.specs.Tally.{bit}
use Rattle.forest.proofs.Counts.{any_at}
use Rattle.count.proofs.Sums.{sum_swap}

-- a sum over a * b numbers, in a parts of b
sum_parts : (a b : ℕ) (f : ℕ → ℕ) → sum_to (a * b) f ≡ sum_to a (λ j. sum_to b (λ q. f (j * b + q)))
unfolding sum_to
sum_parts zero b f = let e : zero * b ≡ 0 = omega arith in ap (λ (x : ℕ). sum_to x f) e
sum_parts (suc a) b f =
    let e : suc a * b ≡ a * b + b = suc-mul a b in
    ap (λ (x : ℕ). sum_to x f) e ∙ more b ∙ ap (λ (x : ℕ). sum_to b (λ q. f (a * b + q)) + x) (sum_parts a b f)
  where
    more : (c : ℕ) → sum_to (a * b + c) f ≡ sum_to c (λ q. f (a * b + q)) + sum_to (a * b) f
    more zero = let e : a * b + 0 ≡ a * b = omega arith in omega (arith, ap (λ (x : ℕ). sum_to x f) e)
    more (suc c) = let e : a * b + suc c ≡ suc (a * b + c) = omega arith in ap (λ (x : ℕ). sum_to x f) e ∙ omega (arith, more c)

-- from the top: first the slot j, then i levels on
pub down_first : (m : Blocks) (p i j q : ℕ) → j < 16 → q < 16 ^ i → down m p (suc i) (j * 16 ^ i + q) ≡ down m (child m p j) i q
down_first m p zero j q l h =
    let e : j * 16 ^ 0 + q ≡ j = omega arith in
    let z : q ≡ 0 = omega arith in
    let x : j / 16 ≡ 0 = omega arith in
    let y : j % 16 ≡ j = omega arith in
    ap (λ (v : ℕ). down m p 1 v) e ∙ ap (λ (v : ℕ). child m (down m p 0 v) (j % 16)) x ∙ ap (child m p) y ∙ ap (λ (v : ℕ). down m (child m p j) 0 v) (sym z)
down_first m p (suc i) j q l h =
    let s = pow-suc 16 i in
    let e : j * 16 ^ suc i ≡ j * 16 ^ i * 16 = ap (λ (v : ℕ). j * v) s ∙ sym (mul_assoc j (16 ^ i) 16) in
    let x : (j * 16 ^ suc i + q) / 16 ≡ j * 16 ^ i + q / 16 = omega (arith, e) in
    let y : (j * 16 ^ suc i + q) % 16 ≡ q % 16 = omega (arith, e) in
    ap (λ (v : ℕ). child m (down m p (suc i) v) ((j * 16 ^ suc i + q) % 16)) x ∙
    ap (λ (v : ℕ). child m (down m p (suc i) (j * 16 ^ i + q / 16)) v) y ∙
    ap (λ (v : ℕ). child m v (q % 16)) (down_first m p i j (q / 16) l (omega (arith, h, s)))

-- how many stretches change, i levels below a tree of the order suc (k + i)
level : (ℕ → ℕ → ℕ) → Blocks → ℕ → ℕ → ℕ → ℕ → ℕ
level new m k p a i = sum_to (16 ^ i) (λ q. bit (changes new m (suc k) (down m p i q) (a * 16 ^ i + q)))

needed_split : (new : ℕ → ℕ → ℕ) (m : Blocks) (k p a : ℕ) → needed new m (suc k) p a ≡ bit (changes new m (suc k) p a) + sum_to 16 (λ j. needed new m k (child m p j) (a * 16 + j))
needed_split new m k p a = go (changes new m (suc k) p a) refl
  where
    idle : changes new m (suc k) p a ≡ false → (j : ℕ) → j < 16 → needed new m k (child m p j) (a * 16 + j) ≡ 0
    idle e j l = elim (ℕ_discrete (needed new m k (child m p j) (a * 16 + j)) 0) [
      | yes z ↦ z
      | no d ↦ absurd (true≢false (sym (any_at 16 (λ j. changes new m k (child m p j) (a * 16 + j)) j l (needed_changes new m k (child m p j) (a * 16 + j) (omega arith))) ∙ e))
    ]

    go : (t : Bool) → changes new m (suc k) p a ≡ t → cond (changes new m (suc k) p a) (suc (sum_to 16 (λ j. needed new m k (child m p j) (a * 16 + j)))) 0 ≡ bit (changes new m (suc k) p a) + sum_to 16 (λ j. needed new m k (child m p j) (a * 16 + j))
    go true e = omega (arith, cond-true (changes new m (suc k) p a) (suc (sum_to 16 (λ j. needed new m k (child m p j) (a * 16 + j)))) 0 e, ap bit e)
    go false e = omega (arith, cond-false (changes new m (suc k) p a) (suc (sum_to 16 (λ j. needed new m k (child m p j) (a * 16 + j)))) 0 e, ap bit e, sum_none 16 (λ j. needed new m k (child m p j) (a * 16 + j)) (idle e))

level_down : (new : ℕ → ℕ → ℕ) (m : Blocks) (k p a i : ℕ) → level new m k p a (suc i) ≡ sum_to 16 (λ j. level new m k (child m p j) (a * 16 + j) i)
unfolding level
level_down new m k p a i =
    ap (λ (x : ℕ). sum_to x (λ q. bit (changes new m (suc k) (down m p (suc i) q) (a * 16 ^ suc i + q)))) (pow-suc 16 i ∙ mul_comm (16 ^ i) 16) ∙
    sum_parts 16 (16 ^ i) (λ q. bit (changes new m (suc k) (down m p (suc i) q) (a * 16 ^ suc i + q))) ∙
    sum_same 16 _ _ (λ j l. sum_same (16 ^ i) _ _ (λ q h.
    ap (λ (v : ℕ). bit (changes new m (suc k) v (a * 16 ^ suc i + (j * 16 ^ i + q)))) (down_first m p i j q l h) ∙
    ap (λ (v : ℕ). bit (changes new m (suc k) (down m (child m p j) i q) v)) (at j q)))
  where
    at : (j q : ℕ) → a * 16 ^ suc i + (j * 16 ^ i + q) ≡ (a * 16 + j) * 16 ^ i + q
    at j q = omega (arith, ap (λ (v : ℕ). a * v) (pow-suc 16 i ∙ mul_comm (16 ^ i) 16), mul_assoc a 16 (16 ^ i), add-mul (a * 16) j (16 ^ i))

level_top : (new : ℕ → ℕ → ℕ) (m : Blocks) (k p a : ℕ) → level new m k p a 0 ≡ bit (changes new m (suc k) p a)
unfolding level sum_to
level_top new m k p a = let e : a * 16 ^ 0 + 0 ≡ a = omega arith in omega (arith, ap (λ (v : ℕ). bit (changes new m (suc k) p v)) e)

needed_by : (new : ℕ → ℕ → ℕ) (m : Blocks) (k p a : ℕ) → needed new m k p a ≡ sum_to k (λ i. level new m i p a (k - suc i))
unfolding sum_to
needed_by new m zero p a = refl
needed_by new m (suc k) p a =
    let z : suc k - suc k ≡ 0 = omega arith in
    let x = ap (λ (v : ℕ). level new m k p a v) z ∙ level_top new m k p a in
    let y = sum_same k (λ i. level new m i p a (suc k - suc i)) (λ i. sum_to 16 (λ j. level new m i (child m p j) (a * 16 + j) (k - suc i))) (λ i l. let e : suc k - suc i ≡ suc (k - suc i) = omega arith in ap (λ (v : ℕ). level new m i p a v) e ∙ level_down new m i p a (k - suc i)) in
    let s = sum_swap 16 k (λ j i. level new m i (child m p j) (a * 16 + j) (k - suc i)) in
    let r = sum_same 16 (λ j. needed new m k (child m p j) (a * 16 + j)) (λ j. sum_to k (λ i. level new m i (child m p j) (a * 16 + j) (k - suc i))) (λ j l. needed_by new m k (child m p j) (a * 16 + j)) in
    omega (arith, needed_split new m k p a, x, y, s, r)

pub needed_levels : (new : ℕ → ℕ → ℕ) (m : Blocks) (k p : ℕ) → needed new m k p 0 ≡ sum_to k (λ i. sum_to (16 ^ (k - suc i)) (λ q. bit (changes new m (suc i) (down m p (k - suc i) q) q)))
unfolding level
needed_levels new m k p = needed_by new m k p 0 ∙ sum_same k _ _ (λ i l. sum_same (16 ^ (k - suc i)) _ _ (λ q h. let e : 0 * 16 ^ (k - suc i) + q ≡ q = omega arith in ap (λ (v : ℕ). bit (changes new m (suc i) (down m p (k - suc i) q) v)) e))
