use Rattle.forest.specs.Fills.{Room}
use Rattle.forest.proofs.Fills.{Filling}
use Rattle.node.specs.Children.{fresh_at, word_at}
use Rattle.node.proofs.fills.fill.Given as goal

-- the first i children are put
abbrev pub invariant-loop-i : goal.invariant-loop-i
invariant-loop-i g l = Room l.order (word_at l.children) (fresh_at l.children) (g.S.BlockStore.blocks l.initial.store) 16 × Filling (g.S.BlockStore.blocks l.initial.store) (g.S.BlockStore.blocks l.store) l.order l.b (word_at l.children) (fresh_at l.children) l.i
