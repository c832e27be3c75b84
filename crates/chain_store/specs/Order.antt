-- What a store on a chain holds, and in which order it takes its free numbers.
--
--   held s         its blocks
--   stands_on s    its references, and the cells past its blocks
--   order s        the free numbers, the one freed last first
use Rattle.std.specs.Prelude.{ℕ, List}
use Rattle.block.specs.Blocks.{Blocks, Frame}
use Rattle.block_slab.specs.Held as slabs
use Rattle.links.specs.Chain.{chain}
use Rattle.chain_store.specs.declared.store.ChainStore.{ChainStore}

abbrev pub held : ChainStore → Blocks
held s = slabs.held s.slab

abbrev pub stands_on : ChainStore → Frame
stands_on s = slabs.stands_on s.slab

abbrev pub order : ChainStore → List ℕ
order s = chain s.slab.words.now s.top s.free
