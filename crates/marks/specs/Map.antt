-- The map of bits in which free numbers are found.
--
--   mark ms k    the bit of number k: 32 numbers to a word
--   gone m k     1 where number k cannot be taken: it is out, or there is no such number
--   Marks ms m   the map ms tells which numbers of m can be taken
use Rattle.std.specs.Prelude.{◌≡◌, ℕ, ◌/◌, ◌%◌, ◌<◌, cond, ◌&&◌, List, nat_lt, slice_index}
use Rattle.std.specs.Int.{bit_at}
use Rattle.block.specs.Blocks.{Blocks, is_free}

abbrev pub mark : List ℕ → ℕ → ℕ
mark ms k = bit_at (slice_index ms (k / 32)) (k % 32)

abbrev pub gone : Blocks → ℕ → ℕ
gone m k = cond (nat_lt k m.size && is_free m k) 0 1

abbrev pub Marks : List ℕ → Blocks → Type 0
Marks ms m = (k : ℕ) → k < 16384 → mark ms k ≡ gone m k
