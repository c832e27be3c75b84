use Rattle.std.proofs.Common.{◌≡◌, suc, ◌+◌, ◌-◌, ◌*◌, is_some}
use Rattle.std.specs.Option.{unwrap_or}
use Rattle.block.specs.Blocks.{sum_to}
use Rattle.forest.specs.Trees.{child}
use Rattle.forest.specs.Plans.{any_to, changes, needed}
use Rattle.tree.proofs.needs.+count.Given as goal

abbrev pub decreases-count : goal.decreases-count
decreases-count g l = l.stretch.order

-- the first parts are counted
abbrev pub invariant-loop-i : goal.invariant-loop-i
invariant-loop-i g l = (is_some l.blocks ≡ any_to l.i (λ j. changes (g.P.Plan.new l.plan) (g.S.BlockStore.blocks l.store) (l.fn.stretch.order - 1) (child (g.S.BlockStore.blocks l.store) l.fn.word j) (l.fn.stretch.at * 16 + j))) × (unwrap_or l.blocks 1 ≡ suc (sum_to l.i (λ j. needed (g.P.Plan.new l.plan) (g.S.BlockStore.blocks l.store) (l.fn.stretch.order - 1) (child (g.S.BlockStore.blocks l.store) l.fn.word j) (l.fn.stretch.at * 16 + j))))
