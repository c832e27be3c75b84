-- Lines, what a stroke covers, and rectangles.
--
--   point       a column and a row, counted from 0 at the top left
--   line        the dots from one point to another, both included; the rule for it stands here and nowhere else
--   trail       the lines between consecutive points, or the one point
--   covered     on the sheet, and in the square of the pen's side round some dot of the trail
--   rectangle   given by two corners, both included, in either order
use Rattle.std.specs.Prelude.{ℕ, suc, ◌+◌, ◌-◌, ◌*◌, ◌/◌, min, max, Bool, cond, ◌&&◌, List, [], ◌∷◌, ◌++◌, map, ◌==◌, nat_le, nat_lt}
use Rattle.std.specs.List.{list_any}
use Rattle.rules.specs.Lists.{below, apart}

abbrev pub Point : Type 0
Point = ℕ × ℕ

-- how many steps a line has: the larger of the two distances
abbrev pub steps : Point → Point → ℕ
steps a b = max (apart a.0 b.0) (apart a.1 b.1)

-- a coordinate after i of n steps from a towards b: it has moved by i × distance / n, to the nearest, halves up
abbrev pub moved : ℕ → ℕ → ℕ → ℕ → ℕ
moved n i a b =
    cond (n == 0) a
    (cond (nat_le a b) (a + (2 * i * apart a b + n) / (2 * n)) (a - (2 * i * apart a b + n) / (2 * n)))

-- dot i of the line from a to b
abbrev pub line_dot : Point → Point → ℕ → Point
line_dot a b i = (moved (steps a b) i a.0 b.0, moved (steps a b) i a.1 b.1)

abbrev pub line : Point → Point → List Point
line a b = map (line_dot a b) (below (suc (steps a b)))

abbrev pub trail : List Point → List Point
trail [] = []
trail (p ∷ []) = p ∷ []
trail (p ∷ (q ∷ ps)) = line p q ++ trail (q ∷ ps)

-- whether (x, y) lies in the square of that side round p
abbrev pub in_square : ℕ → ℕ → ℕ → Point → Bool
in_square side x y p = nat_le (apart x p.0) (side / 2) && nat_le (apart y p.1) (side / 2)

-- whether a point lies on a sheet of that width and height
abbrev pub on_sheet : ℕ → ℕ → Point → Bool
on_sheet w h p = nat_lt p.0 w && nat_lt p.1 h

-- whether a stroke through the points with a pen of that side covers (x, y)
abbrev pub covers : ℕ → ℕ → ℕ → List Point → ℕ → ℕ → Bool
covers w h side points x y = on_sheet w h (x, y) && list_any (in_square side x y) (trail points)

-- whether (x, y) lies in the rectangle of two corners
abbrev pub in_rectangle : Point → Point → ℕ → ℕ → Bool
in_rectangle p q x y =
    nat_le (min p.0 q.0) x && nat_le x (max p.0 q.0) && nat_le (min p.1 q.1) y && nat_le y (max p.1 q.1)
