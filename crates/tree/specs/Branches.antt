-- How a branch falls into parts.
--
--   IsPart m b i q   the branch q is part i of the branch b, whose order is not 0
use Rattle.std.specs.Prelude.{◌≡◌, ℕ, ◌+◌, ◌-◌, ◌*◌}
use Rattle.block.specs.Blocks.{Blocks}
use Rattle.forest.specs.Trees.{child}
use Rattle.tree.specs.declared.branches.Branch.{Branch}

pub record IsPart (m : Blocks) (b : Branch) (i : ℕ) (q : Branch) : Type 0 where
  pub order : q.stretch.order ≡ b.stretch.order - 1
  pub at : q.stretch.at ≡ b.stretch.at * 16 + i
  pub word : q.word ≡ child m b.word i
