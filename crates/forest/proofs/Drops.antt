-- The fresh ones of sixteen trees are let go.
use Rattle.std.proofs.Common.{◌≡◌, ℕ, ◌+◌, ◌-◌, ◌*◌, ◌<◌, ◌≤◌, Bool, true, false, cond, sym, ap, subst, arith}
use Rattle.std.proofs.lemmas.Bool.{cond_both}
use Rattle.block.specs.Blocks.{Blocks, sum_to}
use Rattle.forest.specs.Trees.{let_go}
use Rattle.forest.specs.Balance.{hold, Label, node, Points, Balanced}
use Rattle.forest.specs.Frames.{Fewer}
use Rattle.forest.specs.Rebuilds.{Dropped}
use Rattle.block.proofs.Sums.{sum_more}
use Rattle.forest.proofs.Sums.{sum_front}
use Rattle.forest.proofs.Balances.{recount, lets_go}
use Rattle.forest.proofs.Frames.{fewer_none, fewer_then, fewer_released}

abbrev pub marked : ℕ → (ℕ → ℕ) → (ℕ → Bool) → ℕ → ℕ → ℕ
marked k words fresh c j = cond (fresh j) (hold k (words j) c) 0

pub record Dropping (k : ℕ) (words : ℕ → ℕ) (fresh : ℕ → Bool) (m n : Blocks) (i : ℕ) : Type 0 where
  pub fewer : Fewer m n
  pub balance : (deep : ℕ → ℕ) (t a : ℕ) (label : ℕ → Label) (outside : ℕ → ℕ) → Balanced deep m label (λ c. sum_to 16 (marked k words fresh c) + outside c) → ((j : ℕ) → j < 16 → fresh j ≡ true → Points label (node t k (a * 16 + j)) (words j)) → Balanced deep n label (λ c. (sum_to 16 (marked k words fresh c) - sum_to i (marked k words fresh c)) + outside c)

module _ (k : ℕ) (words : ℕ → ℕ) (fresh : ℕ → Bool) (m : Blocks) where
  pub drop_none : Dropping k words fresh m m 0
  unfolding sum_to
  drop_none = record { fewer = fewer_none m; balance = λ deep t a label outside w p. recount _ _ (λ c. omega arith) w }

  pub drop_keep : (n : Blocks) (i : ℕ) → i < 16 → fresh i ≡ false → Dropping k words fresh m n i → Dropping k words fresh m n (i + 1)
  drop_keep n i l f d = record {
    fewer = d.fewer;
    balance = λ deep t a label outside w p. recount _ _ (λ c. omega (arith, sum_more i (marked k words fresh c), ap (λ t. cond t (hold k (words i) c) 0) f)) (d.balance deep t a label outside w p);
  }

  pub drop_more : (n : Blocks) (i : ℕ) → i < 16 → fresh i ≡ true → Dropping k words fresh m n i → Dropping k words fresh m (let_go k n (words i)) (i + 1)
  drop_more n i l f d = record {
    fewer = fewer_then d.fewer (fewer_released k n (words i));
    balance = λ deep t a label outside w p.
        lets_go deep label t k (a * 16 + i) n (words i) _ (recount _ _ (λ c. omega (arith, sum_more i (marked k words fresh c), sum_front (i + 1) 16 (marked k words fresh c) (omega arith), ap (λ t. cond t (hold k (words i) c) 0) f)) (d.balance deep t a label outside w p)) (p i l f);
  }

  pub drop_step : (n u : Blocks) (i : ℕ) → i < 16 → Dropping k words fresh m n i → u ≡ cond (fresh i) (let_go k n (words i)) n → Dropping k words fresh m u (i + 1)
  drop_step n u i l d e =
      subst (λ (x : Blocks). Dropping k words fresh m x (i + 1)) (sym e)
      (cond_both (fresh i) _ _ (λ (x : Blocks). Dropping k words fresh m x (i + 1)) (λ t. drop_more n i l t d) (λ t. drop_keep n i l t d))

  pub drop_all : (n : Blocks) (i : ℕ) → 16 ≤ i → i ≤ 16 → Dropping k words fresh m n i → Dropped k words fresh m n
  drop_all n i l u d =
      let e : i ≡ 16 = omega arith in
      record {
        fewer = d.fewer;
        balance = λ deep t a label outside w p. recount _ _ (λ c. omega (arith, ap (λ (x : ℕ). sum_to x (marked k words fresh c)) e)) (d.balance deep t a label outside w p);
      }
