-- How many blocks are out.
--
--   out m b    1 where the block b is out
--   used m     how many are
use Rattle.std.specs.Prelude.{ℕ, cond, ◌==◌}
use Rattle.block.specs.Blocks.{Blocks, sum_to}

abbrev pub out : Blocks → ℕ → ℕ
out m b = cond (m.holders b == 0) 0 1

unfoldable pub used : Blocks → ℕ
used m = sum_to m.size (out m)
