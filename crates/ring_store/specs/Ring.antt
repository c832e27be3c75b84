-- What a ring holds, and how it goes round.
--
--   held s         its blocks
--   stands_on s    it is lent no memory
--   ahead from k   how many numbers are passed on the way up from `from` to k, going round from 127 to 0
use Rattle.std.specs.Prelude.{ℕ, ◌+◌, ◌-◌, ◌%◌, []}
use Rattle.block.specs.Blocks.{Blocks, Frame}
use Rattle.layout.specs.Layout.{laid}
use Rattle.ring_store.specs.declared.store.RingStore.{RingStore}

abbrev pub held : RingStore → Blocks
held s = laid s.words s.cells

abbrev pub stands_on : RingStore → Frame
stands_on s = record { names = []; words = []; holders = [] }

abbrev pub ahead : ℕ → ℕ → ℕ
ahead from k = (k + 127 - from) % 128
