-- The ten trees of a sheet, and the snapshots that a table has.
--
--   places         how many snapshots there may be
--   Rooted m p     p is the word of the root block of one of the snapshots of a table
--   all_gone       the blocks after a root block was let go, with its trees
use Rattle.std.specs.Prelude.{◌≡◌, ℕ, zero, suc, ◌<◌}
use Rattle.rules.specs.Cells.{depth}
use Rattle.block.specs.Blocks.{Blocks}
use Rattle.forest.specs.Balance.{Label}
use Rattle.count.specs.Paths.{Stands}
use Rattle.count.specs.Steps.{gone}

unfoldable pub places : ℕ
places = 64

pub record Rooted (m : Blocks) (p : ℕ) : Type 0 where
  pub label : ℕ → Label
  pub roots : ℕ → ℕ
  pub stands : Stands depth places m label roots
  pub who : ℕ
  pub listed : who < places
  pub there : roots who ≡ p

abbrev pub all_gone : Blocks → ℕ → Blocks
all_gone m zero = m
all_gone m (suc b) = gone depth m b 16
