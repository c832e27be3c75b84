-- Sheets, the edits of a sheet, and what drawing them gives.
--
--   sheet     eight layers of dots, a frisket, and a record for each layer that exists
--   frisket   the mask: what it protects, strokes and fills leave alone
--   edit      a stroke, a fill, a change of the frisket, or a layer's record written
--   draw      an edit done on a sheet
--   drawn     a line of edits, drawn in order on a blank sheet
--   changed   a cell is changed by an edit when its word differs after it
use Rattle.std.specs.Prelude.{ℕ, Bool, false, cond, not, ◌&&◌, List, [], ◌∷◌, ◌==◌, nat_lt, Option, None, Some}
use Rattle.std.specs.List.{filter}
use Rattle.rules.specs.Dots.{Dot, blank, same_dot, laid}
use Rattle.rules.specs.Pens.{Pen}
use Rattle.rules.specs.Cells.{dot_word, dot_column, dot_row, strip_word, strip_at, record_word, strips, records, cells_on}
use Rattle.rules.specs.Lines.{Point, covers, on_sheet, in_rectangle}
use Rattle.rules.specs.Reach.{reached, listed}

-- the dots by layer, column and row; what is protected, by column and row; the opacity of each layer that has a record
pub record Sheet : Type 0 where
  pub dot : ℕ → ℕ → ℕ → Dot
  pub protected : ℕ → ℕ → Bool
  pub opacity : ℕ → Option ℕ

-- the sheet on which nothing was done
abbrev pub blank_sheet : Sheet
blank_sheet = record { dot = λ layer x y. blank; protected = λ x y. false; opacity = λ layer. None }

-- an edit, with all that it was given
pub data Edit : Type 0 where
  stroke : (layer : ℕ) (pen : Pen) (points : List Point) → Edit
  fill : (layer : ℕ) (pen : Pen) (start : Point) → Edit
  frisket : (protects : Bool) (a b : Point) → Edit
  layer : (number opacity : ℕ) → Edit

-- whether a fill from p passes through (x, y): on the sheet, not protected, and equal to the start's dot
abbrev pub fills_through : ℕ → ℕ → Sheet → ℕ → Point → ℕ → ℕ → Bool
fills_through w h s l p x y = on_sheet w h (x, y) && not (s.protected x y) && same_dot (s.dot l x y) (s.dot l p.0 p.1)

-- the dots of layer l changed by f where the test passes
abbrev pub dots_where : ℕ → (ℕ → ℕ → Bool) → (Dot → Dot) → (ℕ → ℕ → ℕ → Dot) → ℕ → ℕ → ℕ → Dot
dots_where l test f dot k x y = cond (k == l && test x y) (f (dot k x y)) (dot k x y)

-- a stroke lays its ink once on each covered dot that is not protected; a fill gives its ink to what is reached;
-- a frisket edit sets or clears the protection of a rectangle; a layer edit writes a record
abbrev pub draw : ℕ → ℕ → Edit → Sheet → Sheet
draw w h (stroke l pen points) s = record {
  dot = dots_where l (λ x y. not (s.protected x y) && covers w h pen.side points x y) (laid pen.rule pen.ink) s.dot;
  protected = s.protected;
  opacity = s.opacity;
}
draw w h (fill l pen p) s =
    let found = reached w h (fills_through w h s l p) p in
    record { dot = dots_where l (listed found) (λ d. pen.ink) s.dot; protected = s.protected; opacity = s.opacity }
draw w h (frisket protects a b) s = record {
  dot = s.dot;
  protected = λ x y. cond (on_sheet w h (x, y) && in_rectangle a b x y) protects (s.protected x y);
  opacity = s.opacity;
}
draw w h (layer l o) s = record { dot = s.dot; protected = s.protected; opacity = λ k. cond (k == l) (Some o) (s.opacity k) }

-- edits drawn in order on a sheet
abbrev pub drawn_on : ℕ → ℕ → Sheet → List Edit → Sheet
drawn_on w h s [] = s
drawn_on w h s (e ∷ es) = drawn_on w h (draw w h e s) es

abbrev pub drawn : ℕ → ℕ → List Edit → Sheet
drawn w h es = drawn_on w h blank_sheet es

-- the word of the cell at an index of a tree
abbrev pub word_of : Sheet → ℕ → ℕ → ℕ
word_of s tree i =
    cond (nat_lt tree 8) (dot_word (s.dot tree (dot_column i) (dot_row i)))
    (cond (tree == strips) (strip_word (strip_at s.protected i)) (record_word (s.opacity i)))

-- the tree that an edit works on
abbrev pub tree_of : Edit → ℕ
tree_of (stroke l pen points) = l
tree_of (fill l pen p) = l
tree_of (frisket protects a b) = strips
tree_of (layer l o) = records

-- the indices of the cells of its tree that an edit changes
abbrev pub changed : ℕ → ℕ → Edit → Sheet → List ℕ
changed w h e s =
    let t = draw w h e s in
    filter (λ i. not (word_of s (tree_of e) i == word_of t (tree_of e) i)) (cells_on w h (tree_of e))
