-- Where a plan changes nothing.
use Rattle.std.proofs.Common.{◌≡◌, ℕ, zero, suc, ◌+◌, ◌*◌, ◌/◌, ◌^◌, ◌<◌, ◌≤◌, Bool, false, not, ◌||◌, ◌≢◌, List, [], ◌∷◌, length, sym, refl, ap, ◌∙◌, subst, mul-le-mul_right, mul_assoc, arith, eq-eqb, ne_eqb}
use Rattle.std.proofs.Math.Nat.{div-eq_of_lt-le}
use Rattle.std.specs.List.{AllByRecursion}
use Rattle.std.proofs.lemmas.Bool.{cond-false}
use Rattle.forest.proofs.Digits.{power_suc}
use Rattle.block.specs.Blocks.{Blocks}
use Rattle.forest.specs.Trees.{child, look}
use Rattle.forest.specs.Frames.{Live}
use Rattle.forest.specs.Plans.{any_to, changes, needed, Quiet, one_cell}
use Rattle.forest.specs.Rebuilds.{Counted, number, Done}
use Rattle.forest.proofs.Balances.{recount}
use Rattle.forest.proofs.Rebuilds.{grown_none}
use Rattle.forest.proofs.Counts.{shape_same}

-- the cells of a child are among those of its parent
within : (k a d : ℕ) → d < 16 → (a * 16 ^ suc k ≤ (a * 16 + d) * 16 ^ k) × ((a * 16 + d + 1) * 16 ^ k ≤ (a + 1) * 16 ^ suc k)
within k a d l =
    let x = 16 ^ k in
    let q : a * 16 ^ suc k ≡ a * (16 * x) = ap (λ (n : ℕ). a * n) (power_suc k) in
    let q₁ : (a + 1) * 16 ^ suc k ≡ (a + 1) * (16 * x) = ap (λ (n : ℕ). (a + 1) * n) (power_suc k) in
    let r : a * 16 * x ≡ a * (16 * x) = mul_assoc _ _ _ in
    let r₁ : (a + 1) * 16 * x ≡ (a + 1) * (16 * x) = mul_assoc _ _ _ in
    let lo : a * 16 ≤ a * 16 + d = omega arith in
    let hi : a * 16 + d + 1 ≤ (a + 1) * 16 = omega arith in
    (omega (arith, mul-le-mul_right x lo), omega (arith, mul-le-mul_right x hi))

range : (ds : List ℕ) (a : ℕ) → AllByRecursion (λ (d : ℕ). d < 16) ds → (a * 16 ^ length ds ≤ number a ds) × (number a ds < (a + 1) * 16 ^ length ds)
range [] a ok = (omega arith, omega arith)
range (d ∷ ds) a ok =
    let r = range ds (a * 16 + d) ok.1 in
    let w = within (length ds) a d ok.0 in
    (omega (arith, r.0, w.0), omega (arith, r.1, w.1))

pub any_none : (n : ℕ) (f : ℕ → Bool) → ((j : ℕ) → j < n → f j ≡ false) → any_to n f ≡ false
any_none zero f h = refl
any_none (suc n) f h = ap (λ t. t || f n) (any_none n f (λ j l. h j (omega arith))) ∙ h n (omega arith)

quiet_child : (new : ℕ → ℕ → ℕ) (k a j : ℕ) → j < 16 → Quiet new (suc k) a → Quiet new k (a * 16 + j)
quiet_child new k a j l q i w lo hi = let r = within k a j l in q i w (omega (arith, r.0)) (omega (arith, r.1))

pub quiet_changes : (new : ℕ → ℕ → ℕ) (m : Blocks) (k p a : ℕ) → Quiet new k a → changes new m k p a ≡ false
quiet_changes new m zero p a q = ap not (eq-eqb (new a p) p (q a p (omega arith) (omega arith)))
quiet_changes new m (suc k) p a q = any_none 16 _ (λ j l. quiet_changes new m k (child m p j) (a * 16 + j) (quiet_child new k a j l q))

pub quiet_needed : (new : ℕ → ℕ → ℕ) (m : Blocks) (k p a : ℕ) → Quiet new k a → needed new m k p a ≡ 0
quiet_needed new m zero p a q = refl
quiet_needed new m (suc k) p a q = cond-false _ _ _ (quiet_changes new m (suc k) p a q)

pub done_quiet : (new : ℕ → ℕ → ℕ) (m : Blocks) (k p a : ℕ) → Quiet new k a → Live m k p → Done new m m k p a p false × Counted new m m k p a p false
done_quiet new m k p a q v = (
  record {
    same = λ _. (refl, refl);
    grown = grown_none m;
    live = v;
    reads = λ ds l ok.
        let r = range ds a ok in
        let e = ap (λ (x : ℕ). 16 ^ x) l in
        sym (q (number a ds) (look m p ds) (subst (λ (x : ℕ). a * x ≤ number a ds) e r.0) (subst (λ (x : ℕ). number a ds < (a + 1) * x) e r.1));
    balance = λ deep t label outside w x. (label, recount _ _ (λ c. omega arith) w, x, λ c h. refl);
  },
  record {
    marks = sym (quiet_changes new m k p a q);
    spent = omega (arith, quiet_needed new m k p a q);
    shape = shape_same new m k p a (quiet_changes new m k p a q);
  },
)

-- a plan for one cell leaves every stretch alone that the cell is not in
pub one_cell_quiet : (j v k a : ℕ) → j / 16 ^ k ≢ a → Quiet (one_cell j v) k a
one_cell_quiet j v k a d i w lo hi = cond-false _ _ _ (ne_eqb i j (λ e. d (ap (λ (x : ℕ). x / 16 ^ k) (sym e) ∙ div-eq_of_lt-le {k = a} (16 ^ k) lo hi)))
