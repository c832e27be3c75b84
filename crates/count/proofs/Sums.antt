-- Sums, and how many different values there are.
use Rattle.std.proofs.Common.{◌≡◌, ℕ, zero, suc, ◌+◌, ◌<◌, ◌≤◌, Bool, true, false, cond, ◌||◌, eqb, ◌≢◌, ◌↔◌, sym, refl, ap, ◌∙◌, arith, eq-eqb, ne_eqb}
use Rattle.std.proofs.Math.Decide.{ℕ_discrete}
use Rattle.std.proofs.Math.Bool.{or-true, or-false}
use Rattle.block.specs.Blocks.{sum_to}
use Rattle.forest.specs.Plans.{any_to}
use Rattle.block.proofs.Sums.{sum_same, sum_at, sum_none}
use Rattle.forest.proofs.Quiets.{any_none}
use Rattle.count.specs.Tally.{bit, live, new, distinct, Alike}

pub sum_add : (n : ℕ) (f g : ℕ → ℕ) → sum_to n (λ j. f j + g j) ≡ sum_to n f + sum_to n g
unfolding sum_to
sum_add zero f g = refl
sum_add (suc n) f g = omega (arith, sum_add n f g)

pub sum_swap : (n k : ℕ) (f : ℕ → ℕ → ℕ) → sum_to n (λ b. sum_to k (f b)) ≡ sum_to k (λ q. sum_to n (λ b. f b q))
unfolding sum_to
sum_swap zero k f = sym (sum_none k (λ q. 0) (λ j l. refl))
sum_swap (suc n) k f = omega (arith, sum_swap n k f, sum_add k (f n) (λ q. sum_to n (λ b. f b q)))

pub sum_only : (n : ℕ) (f : ℕ → ℕ) (c : ℕ) → c < n → ((j : ℕ) → j ≢ c → f j ≡ 0) → sum_to n f ≡ f c
sum_only n f c l h = omega (arith, sum_at n f (λ _. 0) c l h, sum_none n (λ _. 0) (λ j k. refl))

pub sum_among : (n : ℕ) (f : ℕ → ℕ) (c : ℕ) → c < n → ((j : ℕ) → j < n → j ≢ c → f j ≡ 0) → sum_to n f ≡ f c
unfolding sum_to
sum_among zero f c l h = absurd (omega arith)
sum_among (suc n) f c l h = elim (ℕ_discrete n c) [
  | yes e ↦ omega (arith, ap f e, sum_none n f (λ j k. h j (omega arith) (omega arith)))
  | no d ↦ omega (arith, h n (omega arith) d, sum_among n f c (omega arith) (λ j k. h j (omega arith)))
]

abbrev unbit : Bool → ℕ
unbit t = cond t 0 1

flip : (t : Bool) → 1 ≡ unbit t + bit t
flip true = refl
flip false = refl

-- how many b below size are among f 0 .. f (n - 1), plus 1
image_more : (size n : ℕ) (f : ℕ → ℕ) → f n ≤ size → (v : ℕ) → f n ≡ v → sum_to size (λ b. bit (any_to (suc n) (λ s. eqb (f s) (suc b)))) ≡ new n f v + sum_to size (λ b. bit (any_to n (λ s. eqb (f s) (suc b))))
image_more size n f h zero e =
    let s = sum_same size (λ b. bit (any_to (suc n) (λ s. eqb (f s) (suc b)))) (λ b. bit (any_to n (λ s. eqb (f s) (suc b)))) (λ b l. ap bit (ap (λ t. any_to n (λ s. eqb (f s) (suc b)) || t) (ne_eqb (f n) (suc b) (omega (arith, e))) ∙ or-false _)) in
    omega (arith, s)
image_more size n f h (suc c) e =
    let s = sum_at size (λ b. bit (any_to (suc n) (λ s. eqb (f s) (suc b)))) (λ b. bit (any_to n (λ s. eqb (f s) (suc b)))) c (omega (arith, h, e))
    (λ b d. ap bit (ap (λ t. any_to n (λ s. eqb (f s) (suc b)) || t) (ne_eqb (f n) (suc b) (omega (arith, e, d))) ∙ or-false _)) in
    let x : bit (any_to (suc n) (λ s. eqb (f s) (suc c))) ≡ 1 = ap bit (ap (λ t. any_to n (λ s. eqb (f s) (suc c)) || t) (eq-eqb (f n) (suc c) e) ∙ or-true _) in
    let z : new n f (suc c) ≡ unbit (any_to n (λ s. eqb (f s) (suc c))) = ap (λ t. cond {A = ℕ} t 0 (cond (any_to n (λ s. eqb (f s) (suc c))) 0 1)) (ne_eqb (suc c) 0 (omega arith)) in
    omega (arith, s, x, z, flip (any_to n (λ s. eqb (f s) (suc c))))

pub image : (size n : ℕ) (f : ℕ → ℕ) → ((s : ℕ) → s < n → f s ≤ size) → sum_to size (λ b. bit (any_to n (λ s. eqb (f s) (suc b)))) ≡ distinct n f
unfolding sum_to
image size zero f h = sum_none size (λ b. 0) (λ j l. refl)
image size (suc n) f h = image_more size n f (h n (omega arith)) (f n) refl ∙ ap (λ (x : ℕ). new n f (f n) + x) (image size n f (λ s l. h s (omega arith)))

eqb_iff : (a b c d : ℕ) → a ≡ b ↔ c ≡ d → eqb a b ≡ eqb c d
eqb_iff a b c d h = elim (ℕ_discrete a b) [
  | yes e ↦ eq-eqb a b e ∙ sym (eq-eqb c d (h.0 e))
  | no e ↦ ne_eqb a b e ∙ sym (ne_eqb c d (λ y. e (h.1 y)))
]

any_alike : (n : ℕ) (f g : ℕ → Bool) → ((s : ℕ) → s < n → f s ≡ g s) → any_to n f ≡ any_to n g
any_alike zero f g h = refl
any_alike (suc n) f g h = ap (λ t. t || f n) (any_alike n f g (λ s l. h s (omega arith))) ∙ ap (λ t. any_to n g || t) (h n (omega arith))

-- what tells the same apart has as many different values
pub distinct_alike : (n : ℕ) (f g : ℕ → ℕ) → Alike n f g → distinct n f ≡ distinct n g
distinct_alike zero f g a = refl
distinct_alike (suc n) f g a =
    let x = eqb_iff (f n) 0 (g n) 0 (a.none n (omega arith)) in
    let y = any_alike n (λ s. eqb (f s) (f n)) (λ s. eqb (g s) (g n)) (λ s l. eqb_iff (f s) (f n) (g s) (g n) (a.same s n (omega arith) (omega arith))) in
    let r = distinct_alike n f g (record { none = λ s l. a.none s (omega arith); same = λ s r l k. a.same s r (omega arith) (omega arith) }) in
    ap (λ (v : ℕ). v + distinct n f) (ap (λ t. cond t 0 (cond (any_to n (λ s. eqb (f s) (f n))) 0 1)) x ∙ ap (λ t. cond (eqb (g n) 0) 0 (cond t 0 1)) y) ∙ ap (λ (v : ℕ). new n g (g n) + v) r

-- of values that are all different each counts
pub distinct_apart : (n : ℕ) (f : ℕ → ℕ) → ((s r : ℕ) → s < n → r < n → f s ≡ f r → f s ≢ 0 → s ≡ r) → distinct n f ≡ live n f
unfolding sum_to
distinct_apart zero f h = refl
distinct_apart (suc n) f h =
    let r = distinct_apart n f (λ s r l k. h s r (omega arith) (omega arith)) in
    elim (ℕ_discrete (f n) 0) [
      | yes e ↦
          let x = eq-eqb (f n) 0 e in
          let z : new n f (f n) ≡ 0 = ap (λ t. cond {A = ℕ} t 0 (cond (any_to n (λ s. eqb (f s) (f n))) 0 1)) x in
          omega (arith, r, z, ap unbit x)
      | no d ↦
          let x = ne_eqb (f n) 0 d in
          let y = any_none n (λ s. eqb (f s) (f n)) (λ s l. ne_eqb (f s) (f n) (λ e. omega (arith, l, h s n (omega arith) (omega arith) e (λ z. d (sym e ∙ z))))) in
          let z : new n f (f n) ≡ unbit (any_to n (λ s. eqb (f s) (f n))) = ap (λ t. cond {A = ℕ} t 0 (cond (any_to n (λ s. eqb (f s) (f n))) 0 1)) x in
          omega (arith, r, z, ap unbit y, ap unbit x)
    ]

pub any_some : (n : ℕ) (f : ℕ → Bool) → any_to n f ≡ true → (s : ℕ) × (s < n) × (f s ≡ true)
any_some zero f e = cc
any_some (suc n) f e = go (any_some n f) (f n) refl
  where
    go : (any_to n f ≡ true → (s : ℕ) × (s < n) × (f s ≡ true)) → (t : Bool) → f n ≡ t → (s : ℕ) × (s < suc n) × (f s ≡ true)
    go h true y = (n, omega arith, y)
    go h false y = let r = h (sym (or-false (any_to n f)) ∙ ap (λ t. any_to n f || t) (sym y) ∙ e) in (r.0, omega arith, r.2)
