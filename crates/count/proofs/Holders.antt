-- No block has more holders than are outside and blocks are out.
use Rattle.std.proofs.Common.{ℕ, ◌<◌, ◌≤◌, arith}
use Rattle.block.specs.Blocks.{Blocks}
use Rattle.forest.specs.Balance.{hit, Label, root, node, Points}
use Rattle.forest.proofs.Balances.{leads_one}
use Rattle.forest.proofs.Reaches.{few_holders}
use Rattle.forest.specs.Rebuilds.{Why}
use Rattle.block.specs.declared.refusals.Refusal.TheVariants.{TooMany}
use Rattle.block.proofs.Sums.{sum_ones}
use Rattle.count.specs.Paths.{held_by, Stands}

pub held_few : (n : ℕ) (roots : ℕ → ℕ) (b : ℕ) → held_by n roots b ≤ n
held_few n roots b = sum_ones n (λ s. hit (roots s) b) (λ s l. leads_one root (roots s) b)

-- the store's own limit is never met
pub never_too_many : (deep : ℕ → ℕ) (n : ℕ) (m : Blocks) (label : ℕ → Label) (roots : ℕ → ℕ) → Stands deep n m label roots → m.size ≤ 16384 → n ≤ 64 → (b : ℕ) → m.holders b < 65535
never_too_many deep n m label roots w h l b = omega (arith, few_holders deep m label (held_by n roots) w.balance b, held_few n roots b)

-- so no rebuild is refused for it, nor a root block
pub never_crowded : (deep : ℕ → ℕ) (n : ℕ) (m : Blocks) (label : ℕ → Label) (roots : ℕ → ℕ) → Stands deep n m label roots → m.size ≤ 16384 → n ≤ 64 → (new : ℕ → ℕ → ℕ) (t p : ℕ) → deep t ≤ 8 → Points label (node t (deep t) 0) p → Why TooMany new m (deep t) p 0 → ⊥
never_crowded deep n m label roots w h l new t p d q y = let r = y deep t label (held_by n roots) w.balance q in omega (arith, r.1, held_few n roots r.0)
