use Rattle.std.proofs.Common.{◌≡◌, drop, fold}
use Rattle.forest.specs.Trees.{let_go}
use Rattle.node.proofs.releases.+let_go.Given as goal

abbrev pub decreases-let_go : goal.decreases-let_go
decreases-let_go g l = l.order

-- what is still to be let go, from here as from where the loop began
abbrev pub invariant-loop-child : goal.invariant-loop-child
invariant-loop-child g l = fold (let_go l.below) (g.S.BlockStore.blocks l.store) (drop l.child-index l.child-items) ≡ fold (let_go l.below) (g.S.BlockStore.blocks l.initial.store) l.child-items
