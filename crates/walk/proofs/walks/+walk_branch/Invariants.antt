use Rattle.std.proofs.Common.{◌≡◌, ◌-◌, ◌*◌, ◌^◌}
use Rattle.forest.specs.Trees.{lookup}
use Rattle.walk.specs.Walks.{over, visit}
use Rattle.walk.proofs.walks.+walk_branch.Given as goal

abbrev pub decreases-walk_branch : goal.decreases-walk_branch
decreases-walk_branch g l = l.stretch.order

-- the first parts are walked
abbrev pub invariant-loop-i : goal.invariant-loop-i
invariant-loop-i g l = l.visitor ≡ over (visit (g.R.Region.has l.region) g.V.Visitor.step (lookup (g.S.BlockStore.blocks l.store) l.fn.stretch.order l.fn.word)) (l.fn.stretch.at * 16 ^ l.fn.stretch.order) (l.i * 16 ^ (l.fn.stretch.order - 1)) l.initial.visitor
