-- Stretches of a tree, and how many blocks an edit needs.
--
--   stretch   of order k: all cells of a tree whose index has the same quotient by 16 ^ k
--   proper    one of the stretches of the ten trees: its order is 1 to the tree's depth, its quotient in range
--   touched   the stretches that hold a changed cell
--   need      the blocks that an edit takes: one for the snapshot, and one for each stretch that it touches
use Rattle.std.specs.Prelude.{ℕ, ◌+◌, ◌-◌, ◌/◌, ◌^◌, ◌<◌, ◌≤◌, Bool, ◌&&◌, List, map, length, ◌==◌}
use Rattle.std.specs.List.{flat_map, list_any, range_with_len}
use Rattle.rules.specs.Lists.{distinct}
use Rattle.rules.specs.Cells.{depth}
use Rattle.rules.specs.Sheets.{Sheet, Edit, tree_of, changed}

pub record Stretch : Type 0 where
  pub tree : ℕ
  pub order : ℕ
  pub quotient : ℕ

abbrev pub same_stretch : Stretch → Stretch → Bool
same_stretch a b = a.tree == b.tree && a.order == b.order && a.quotient == b.quotient

pub record Proper (q : Stretch) : Type 0 where
  pub tree : q.tree < 10
  pub low : 1 ≤ q.order
  pub high : q.order ≤ depth q.tree
  pub within : q.quotient < 16 ^ (depth q.tree - q.order)

-- the stretch of an order that holds the cell at an index
abbrev pub stretch_at : ℕ → ℕ → ℕ → Stretch
stretch_at tree i order = record { tree = tree; order = order; quotient = i / 16 ^ order }

-- the stretches that hold a cell, one of each order
abbrev pub stretches_of : ℕ → ℕ → List Stretch
stretches_of tree i = map (stretch_at tree i) (range_with_len 1 (depth tree))

abbrev pub touched : ℕ → ℕ → Edit → Sheet → List Stretch
touched w h e s = distinct same_stretch (flat_map (stretches_of (tree_of e)) (changed w h e s))

-- whether an edit touches a stretch
abbrev pub touches : ℕ → ℕ → Edit → Sheet → Stretch → Bool
touches w h e s q = list_any (same_stretch q) (touched w h e s)

abbrev pub need : ℕ → ℕ → Edit → Sheet → ℕ
need w h e s = 1 + length (touched w h e s)
