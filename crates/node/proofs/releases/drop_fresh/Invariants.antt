use Rattle.forest.proofs.Drops.{Dropping}
use Rattle.node.specs.Children.{fresh_at, word_at}
use Rattle.node.proofs.releases.drop_fresh.Given as goal

abbrev pub invariant-loop-child : goal.invariant-loop-child
invariant-loop-child g l = Dropping l.order (word_at l.children) (fresh_at l.children) (g.S.BlockStore.blocks l.initial.store) (g.S.BlockStore.blocks l.store) l.child-index
