-- What is proved of lines.
use Rattle.std.specs.Prelude.{◌≡◌, ℕ, suc, ◌≤◌}
use Rattle.rules.specs.Lists.{apart}
use Rattle.rules.specs.Lines.{Point, steps, line_dot}

-- a line begins at its start and ends at its end
abbrev pub LineEnds : Type 0
LineEnds = (a b : Point) → (line_dot a b 0 ≡ a) × (line_dot a b (steps a b) ≡ b)

-- from each dot of a line to the next no coordinate moves by more than 1
abbrev pub LineConnects : Type 0
LineConnects = (a b : Point) (i : ℕ) → (apart (line_dot a b i).0 (line_dot a b (suc i)).0 ≤ 1) × (apart (line_dot a b i).1 (line_dot a b (suc i)).1 ≤ 1)
