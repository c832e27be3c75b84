use Rattle.std.proofs.Common.{◌≡◌}
use Rattle.rules.specs.Cells.{depth}
use Rattle.root.proofs.Words.{freed}
use Rattle.root.proofs.roots.Root.release.Given as goal

-- the first trees are let go
abbrev pub invariant-loop-part : goal.invariant-loop-part
invariant-loop-part g l = g.S.BlockStore.blocks l.store ≡ freed depth (g.S.BlockStore.blocks l.initial.store) l.tops l.part-index
