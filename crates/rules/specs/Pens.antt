-- Pens: what strokes and fills are made with.
--
--   pen    an ink, the side of the square that it leaves round each dot of a line, and a rule
--   side   1, 3, 5 or 7, so that the square has a middle
use Rattle.std.specs.Prelude.{ℕ, Bool, cond, ◌&&◌, ◌||◌, ◌==◌, nat_le, Option, None, Some}
use Rattle.rules.specs.Dots.{Dot, Rule, over, erase}

pub record Pen : Type 0 where
  pub ink : Dot
  pub side : ℕ
  pub rule : Rule

-- whether a pen can have that side
abbrev pub good_side : ℕ → Bool
good_side n = n == 1 || n == 3 || n == 5 || n == 7

-- whether no colour of the ink is above its alpha
abbrev pub good_ink : Dot → Bool
good_ink d = nat_le d.red d.alpha && nat_le d.green d.alpha && nat_le d.blue d.alpha

-- the rule that has a number
abbrev pub rule_numbered : ℕ → Rule
rule_numbered n = cond (n == 0) over erase

-- the pen of an ink, a side and a rule's number, or none where making it is refused
abbrev pub make_pen : Dot → ℕ → ℕ → Option Pen
make_pen d side n = cond (good_side side && nat_le n 1 && good_ink d) (Some (record { ink = d; side = side; rule = rule_numbered n })) None

-- opaque black
abbrev pub black : Dot
black = record { red = 0; green = 0; blue = 0; alpha = 255 }

-- what a new player draws with
abbrev pub first_pen : Pen
first_pen = record { ink = black; side = 1; rule = over }
