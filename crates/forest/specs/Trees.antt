-- Trees of cells in the blocks of a store.
--
--   word           of a stretch of order 0: its cell's own. Of a higher order: 0 where nothing was put, or else 1 plus the number of a block
--   child m w i    the word of stretch i of the sixteen in the stretch that has the word w
--   look           the cell that a path of digits leads to, the highest digit first
--   digits k i     the k digits of i in base 16, the highest first
--   lookup         the cell at an index
--   words m w      the sixteen words behind a word
--   let_go         what letting one holder of a tree go leaves
use Rattle.std.specs.Prelude.{ℕ, zero, suc, ◌/◌, ◌%◌, ◌^◌, cond, List, [], ◌∷◌, map, fold, ◌==◌}
use Rattle.std.specs.List.{range_with_len}
use Rattle.block.specs.Blocks.{Blocks}
use Rattle.block.specs.Calls.{released}

abbrev pub child : Blocks → ℕ → ℕ → ℕ
child m zero i = 0
child m (suc b) i = m.word b i

abbrev pub look : Blocks → ℕ → List ℕ → ℕ
look m w [] = w
look m w (d ∷ ds) = look m (child m w d) ds

abbrev pub digits : ℕ → ℕ → List ℕ
digits zero i = []
digits (suc k) i = (i / 16 ^ k) % 16 ∷ digits k i

-- in a tree of order k
abbrev pub lookup : Blocks → ℕ → ℕ → ℕ → ℕ
lookup m k w i = look m w (digits k i)

unfoldable pub words : Blocks → ℕ → List ℕ
words m w = map (child m w) (range_with_len 0 16)

-- The block of the highest stretch loses a holder; where that was its last, so does each of the sixteen in it.
unfoldable pub let_go : ℕ → Blocks → ℕ → Blocks
let_go zero m w = m
let_go (suc k) m zero = m
let_go (suc k) m (suc b) = cond (m.holders b == 1) (fold (let_go k) (released m b) (words m (suc b))) (released m b)
