use Rattle.std.proofs.Common.{arith}
use Rattle.block_slab.specs.Held.{held}
use Rattle.marks.proofs.Marked.{ones_told}
use Rattle.map_store.proofs.store_calls.MapStoreBlockStore.left.Goals as goal

pub returns : goal.returns
returns c =
    let s = c.args.self.now in
    omega (arith, ones_told s.map.words (held s.slab) 16384 (omega arith) s.marks, c.ones.ensures.value)
