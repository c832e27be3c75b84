-- The kinds of cells, by what their words stand for.
--
--   word_cell       the dot of a word; blank where that would have a colour above alpha
--   word_record     the record of a word
--   Byte            an opacity that is a byte, or none
use Rattle.std.specs.Prelude.{ℕ, ◌%◌, ◌<◌, cond, ltb, Some, None, Option}
use Rattle.rules.specs.Cells.{word_dot}
use Rattle.rules.specs.Dots.{Dot, blank}
use Rattle.rules.specs.Pens.{good_ink}

abbrev pub word_cell : ℕ → Dot
word_cell w = cond (good_ink (word_dot w)) (word_dot w) blank

abbrev pub word_record : ℕ → Option ℕ
word_record word = cond (ltb word 256) None (Some (word % 256))

abbrev pub Byte : Option ℕ → Type 0
Byte None = Unit {0}
Byte (Some opacity) = opacity < 256
