-- The worked cases: what the definitions give, beside what is wanted.
--
--   case     numbers found by the definitions, and the numbers that are wanted
--   ink      (100, 50, 0, 128)
--   grey     (200, 200, 200, 255)
--   stroke   black of side 1 from (0, 0) to (5, 0) on layer 0
use Rattle.std.specs.Prelude.{ℕ, ◌≡◌, List, [], ◌∷◌, map}
use Rattle.std.specs.List.{flat_map}
use Rattle.rules.specs.Dots.{Dot, over, erase, laid, faded}
use Rattle.rules.specs.Pens.{Pen, black}
use Rattle.rules.specs.Cells.{dot_index}
use Rattle.rules.specs.Lines.{Point, line}
use Rattle.rules.specs.Sheets.{Edit, stroke, layer, blank_sheet}
use Rattle.rules.specs.Stretches.{need}
use Rattle.history.specs.Counts.{count}
use Rattle.history.specs.Calls.{Call, start, edit, forget}
use Rattle.history.specs.Runs.{run}

pub record Case : Type 0 where
  pub found : List ℕ
  pub wanted : List ℕ

-- a dot as four numbers
abbrev pub channels : Dot → List ℕ
channels d = d.red ∷ d.green ∷ d.blue ∷ d.alpha ∷ []

-- points as their columns and rows in turn, and as their rows alone
abbrev pub pairs : List Point → List ℕ
pairs ps = flat_map (λ p. p.0 ∷ p.1 ∷ []) ps

abbrev pub rows : List Point → List ℕ
rows ps = map (λ p. p.1) ps

abbrev pub ink : Dot
ink = record { red = 100; green = 50; blue = 0; alpha = 128 }

abbrev pub grey : Dot
grey = record { red = 200; green = 200; blue = 200; alpha = 255 }

abbrev pub thin : Pen
thin = record { ink = black; side = 1; rule = over }

abbrev pub short_stroke : Edit
short_stroke = stroke 0 thin ((0, 0) ∷ (5, 0) ∷ [])

-- start, a layer saved as 1, the stroke saved as 2, and 1 forgotten
abbrev pub short_run : List Call
short_run = start 16 16 ∷ edit 1 (layer 0 255) ∷ edit 2 short_stroke ∷ forget 1 ∷ []

-- in turn: ink laid over grey, and erased from it; ink at opacity 128; the lines from (0, 0) to (2, 1), back again,
-- and from (0, 0) to (5, 2) by rows; the index of the dot (5, 9); the need of the stroke on a blank layer; and the
-- blocks that are out after the run
abbrev pub cases : List Case
cases =
    record { found = channels (laid over ink grey); wanted = 200 ∷ 150 ∷ 100 ∷ 255 ∷ [] }
    ∷ record { found = channels (laid erase ink grey); wanted = 100 ∷ 100 ∷ 100 ∷ 127 ∷ [] }
    ∷ record { found = channels (faded 128 ink); wanted = 50 ∷ 25 ∷ 0 ∷ 64 ∷ [] }
    ∷ record { found = pairs (line (0, 0) (2, 1)); wanted = 0 ∷ 0 ∷ 1 ∷ 1 ∷ 2 ∷ 1 ∷ [] }
    ∷ record { found = pairs (line (2, 1) (0, 0)); wanted = 2 ∷ 1 ∷ 1 ∷ 0 ∷ 0 ∷ 0 ∷ [] }
    ∷ record { found = rows (line (0, 0) (5, 2)); wanted = 0 ∷ 0 ∷ 1 ∷ 1 ∷ 2 ∷ 2 ∷ [] }
    ∷ record { found = dot_index 5 9 ∷ []; wanted = 149 ∷ [] }
    ∷ record { found = need 16 16 short_stroke blank_sheet ∷ []; wanted = 6 ∷ [] }
    ∷ record { found = count (run 896 short_run) ∷ []; wanted = 8 ∷ [] }
    ∷ []

-- every case gives what is wanted
abbrev pub Worked : Type 0
Worked = map (λ c. c.found) cases ≡ map (λ c. c.wanted) cases
