-- What a plan has to do with an edit.
--
--   Draws   the plan's new words are those of the sheet after the edit
use Rattle.std.specs.Prelude.{◌≡◌, ℕ, ◌^◌, ◌<◌}
use Rattle.rules.specs.Cells.{depth}
use Rattle.rules.specs.Sheets.{Sheet, Edit, draw, tree_of, word_of}

-- `new i w` is the plan's word for the cell at the index i, whose word was w; the sheet s is of the width w and the height h
abbrev pub Draws : ℕ → ℕ → Edit → Sheet → (ℕ → ℕ → ℕ) → Type 0
Draws w h e s new = (i : ℕ) → i < 16 ^ depth (tree_of e) → new i (word_of s (tree_of e) i) ≡ word_of (draw w h e s) (tree_of e) i
