-- What a slab holds, and what it stands on.
--
--   held s        its blocks
--   shown v       the blocks that a view of a slab shows
--   stands_on s   its references, and the cells past its blocks
use Rattle.std.specs.Prelude.{[], ◌∷◌}
use Rattle.block.specs.Blocks.{Blocks, Frame}
use Rattle.layout.specs.Layout.{laid, past}
use Rattle.block_slab.specs.declared.memory.Slab.{Slab}
use Rattle.block_slab.specs.declared.views.SlabView.{SlabView}

abbrev pub held : Slab → Blocks
held s = laid s.words.now s.cells.now

abbrev pub shown : SlabView → Blocks
shown v = laid v.words.now v.cells.now

abbrev pub stands_on : Slab → Frame
stands_on s = past (s.words.ghost_name ∷ s.cells.ghost_name ∷ []) s.words.now s.cells.now
