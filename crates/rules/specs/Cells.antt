-- Cells of the ten trees of a sheet: their words, and where each stands.
--
--   cell     what a tree holds at an index: a dot, a strip or a layer's record
--   word     a cell packed into 32 bits; a blank cell packs to 0
--   strip    32 dots of a row, each protected or not, the leftmost first
--   record   a layer's opacity; a layer without one does not exist
--   depth    of a tree: its indices have that many digits in base 16
use Rattle.std.specs.Prelude.{ℕ, ◌+◌, ◌-◌, ◌*◌, ◌/◌, ◌%◌, ◌^◌, Bool, cond, List, map, ◌==◌, nat_lt, Option, None, Some}
use Rattle.std.specs.List.{flat_map, range_with_len}
use Rattle.rules.specs.Dots.{Dot}
use Rattle.rules.specs.Lists.{below, total, binary, binary_digit}

-- a dot as a word: red highest, alpha lowest
abbrev pub dot_word : Dot → ℕ
dot_word d = d.red * 2 ^ 24 + d.green * 2 ^ 16 + d.blue * 2 ^ 8 + d.alpha

-- the dot of a word
abbrev pub word_dot : ℕ → Dot
word_dot w = record { red = w / 2 ^ 24; green = w / 2 ^ 16 % 256; blue = w / 2 ^ 8 % 256; alpha = w % 256 }

-- digit k of n in base 4
abbrev pub digit : ℕ → ℕ → ℕ
digit k n = n / 4 ^ k % 4

-- where the dot (x, y) stands in its layer's tree: digit k in base 16 is made of the digits k of y and x in base 4
abbrev pub dot_index : ℕ → ℕ → ℕ
dot_index x y = total (map (λ k. 16 ^ k * (4 * digit k y + digit k x)) (below 4))

-- the column and the row of the dot at an index
abbrev pub dot_column : ℕ → ℕ
dot_column i = total (map (λ k. 4 ^ k * (i / 16 ^ k % 4)) (below 4))

abbrev pub dot_row : ℕ → ℕ
dot_row i = total (map (λ k. 4 ^ k * (i / 16 ^ k / 4 % 4)) (below 4))

-- a strip as a word, the leftmost dot highest, 1 for a protected one; and back
abbrev pub strip_word : (ℕ → Bool) → ℕ
strip_word strip = binary 32 strip

abbrev pub word_strip : ℕ → ℕ → Bool
word_strip w = binary_digit 32 w

-- where the strip that holds the dot (x, y) stands in the frisket's tree
abbrev pub strip_index : ℕ → ℕ → ℕ
strip_index x y = 8 * y + x / 32

-- the strip at an index of a frisket
abbrev pub strip_at : (ℕ → ℕ → Bool) → ℕ → ℕ → Bool
strip_at protected i b = protected (32 * (i % 8) + b) (i / 8)

-- a layer's record as a word, and back; a layer's record stands at the layer's number
abbrev pub record_word : Option ℕ → ℕ
record_word None = 0
record_word (Some opacity) = 256 + opacity

abbrev pub word_record : ℕ → Option ℕ
word_record w = cond (w == 0) None (Some (w - 256))

-- the trees: 0 to 7 the dots of a layer, 8 the strips, 9 the layers' records
abbrev pub strips : ℕ
strips = 8

abbrev pub records : ℕ
records = 9

-- how deep a tree is; 0 where there is no tree
abbrev pub depth : ℕ → ℕ
depth tree = cond (nat_lt tree 8) 4 (cond (tree == strips) 3 (cond (tree == records) 1 0))

-- the indices of a tree's cells that lie on a sheet of that width and height
abbrev pub cells_on : ℕ → ℕ → ℕ → List ℕ
cells_on w h tree =
    cond (nat_lt tree 8) (flat_map (λ y. map (λ x. dot_index x y) (below w)) (below h))
    (cond (tree == strips) (flat_map (λ y. range_with_len (8 * y) ((w + 31) / 32)) (below h)) (below 8))
