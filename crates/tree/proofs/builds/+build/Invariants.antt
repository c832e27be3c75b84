use Rattle.std.proofs.Common.{◌≡◌, ℕ, ◌≤◌, false, length}
use Rattle.forest.specs.Frames.{Live}
use Rattle.node.specs.Children.{fresh_at}
use Rattle.tree.proofs.Parts.{Built}
use Rattle.tree.proofs.builds.+build.Given as goal

abbrev pub decreases-build : goal.decreases-build
decreases-build g l = l.stretch.order

-- the first i parts are built, and those past them are none that is fresh
abbrev pub invariant-loop-i : goal.invariant-loop-i
invariant-loop-i g l = (length l.child-items ≡ 16) × ((j : ℕ) → l.i ≤ j → fresh_at l.child-items j ≡ false) × (Live (g.S.BlockStore.blocks l.initial.store) l.stretch.order l.word → Built (g.P.Plan.new l.plan) (g.S.BlockStore.blocks l.initial.store) (g.S.BlockStore.blocks l.store) l.stretch.order l.word l.stretch.at l.child-items l.i)
