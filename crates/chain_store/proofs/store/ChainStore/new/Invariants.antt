use Rattle.std.proofs.Common.{◌≡◌, ℕ, ◌+◌, ◌*◌, ◌<◌, get_or}
use Rattle.block.specs.Blocks.{all_free}
use Rattle.block_slab.specs.Held.{held, stands_on}
use Rattle.layout.specs.Layout.{room}
use Rattle.chain_store.proofs.store.ChainStore.new.Given as goal

abbrev pub invariant-loop-b : goal.invariant-loop-b
invariant-loop-b l = record {
  size : l.size ≡ room l.fn.words l.fn.cells;
  free : held l.slab ≡ all_free (room l.fn.words l.fn.cells);
  stays : stands_on l.slab ≡ stands_on l.initial.slab;
  links : (k : ℕ) → k < l.b → get_or l.slab.words.now (16 * k) 0 ≡ k + 1;
}
