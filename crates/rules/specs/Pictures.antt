-- What is asked of a sheet: flat dots, inked dots, and a layer's box.
--
--   flat dot   the layers that have a record, 0 upward, each at its opacity, laid over one another from blank on
--   inked      not blank
--   box        the smallest rectangle round a layer's inked dots, by its corners at the top left and the bottom right
use Rattle.std.specs.Prelude.{ℕ, min, max, not, List, [], ◌∷◌, map, length, Option, None, Some}
use Rattle.std.specs.List.{filter}
use Rattle.rules.specs.Lists.{below, total}
use Rattle.rules.specs.Dots.{Dot, blank, same_dot, over, laid, faded}
use Rattle.rules.specs.Lines.{Point}
use Rattle.rules.specs.Reach.{points_on}
use Rattle.rules.specs.Sheets.{Sheet}

-- a layer's dot laid on what is seen below it, if the layer has a record
abbrev pub seen_through : Option ℕ → Dot → Dot → Dot
seen_through None d under = under
seen_through (Some opacity) d under = laid over (faded opacity d) under

-- the layers of a list, in order, laid on what is seen so far
abbrev pub layers_over : Sheet → ℕ → ℕ → Dot → List ℕ → Dot
layers_over s x y under [] = under
layers_over s x y under (l ∷ ls) = layers_over s x y (seen_through (s.opacity l) (s.dot l x y) under) ls

-- the flat dot at (x, y)
abbrev pub flat_dot : Sheet → ℕ → ℕ → Dot
flat_dot s x y = layers_over s x y blank (below 8)

-- the inked dots of a layer
abbrev pub inked : ℕ → ℕ → Sheet → ℕ → List Point
inked w h s l = filter (λ p. not (same_dot (s.dot l p.0 p.1) blank)) (points_on w h)

-- the number of inked dots over all layers
abbrev pub inked_count : ℕ → ℕ → Sheet → ℕ
inked_count w h s = total (map (λ l. length (inked w h s l)) (below 8))

-- a rectangle, by its two corners, widened to hold a point
abbrev pub wider : Point × Point → Point → Point × Point
wider b q = ((min b.0.0 q.0, min b.0.1 q.1), (max b.1.0 q.0, max b.1.1 q.1))

-- widened to hold some points
abbrev pub widened : Point × Point → List Point → Point × Point
widened b [] = b
widened b (q ∷ qs) = widened (wider b q) qs

-- the smallest rectangle round some points, or none
abbrev pub box_of : List Point → Option (Point × Point)
box_of [] = None
box_of (p ∷ ps) = Some (widened (p, p) ps)

-- a layer's box
abbrev pub box : ℕ → ℕ → Sheet → ℕ → Option (Point × Point)
box w h s l = box_of (inked w h s l)
