use Rattle.std.proofs.Common.{◌≡◌}
use Rattle.forest.specs.Trees.{lookup}
use Rattle.tree.proofs.trees.Tree.word_at.Given as goal

-- what is found below the word that the walk has come to
abbrev pub invariant-loop-order : goal.invariant-loop-order
invariant-loop-order g l = lookup (g.S.BlockStore.blocks l.store) l.order l.word l.index ≡ lookup (g.S.BlockStore.blocks l.store) l.fn.self.depth l.fn.self.top l.index
