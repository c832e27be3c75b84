-- Dots, and the rules by which ink is laid on them.
--
--   dot       a pixel: three colours and alpha (how much it covers), the colours already multiplied by alpha
--   sound     what a dot may hold: no colour above alpha, and alpha at most 255
--   blank     the dot on which nothing was laid: all zero
--   ink       a dot that is laid on another
--   rule      how it is laid: over (cover) or erase (take away)
--   opacity   how much of a layer is seen, 0 to 255
--   paper     white, under everything
use Rattle.std.specs.Prelude.{ℕ, ◌+◌, ◌-◌, ◌*◌, ◌/◌, ◌≤◌, Bool, ◌&&◌, ◌==◌}

pub record Dot : Type 0 where
  pub red : ℕ
  pub green : ℕ
  pub blue : ℕ
  pub alpha : ℕ

pub record Sound (d : Dot) : Type 0 where
  pub red_covered : d.red ≤ d.alpha
  pub green_covered : d.green ≤ d.alpha
  pub blue_covered : d.blue ≤ d.alpha
  pub alpha_byte : d.alpha ≤ 255

abbrev pub blank : Dot
blank = record { red = 0; green = 0; blue = 0; alpha = 0 }

-- whether two dots are equal
abbrev pub same_dot : Dot → Dot → Bool
same_dot a b = a.red == b.red && a.green == b.green && a.blue == b.blue && a.alpha == b.alpha

-- v / 255 to the nearest whole number
abbrev pub rounded : ℕ → ℕ
rounded v = (v + 127) / 255

-- over has the number 0, erase 1
pub data Rule : Type 0 where
  over : Rule
  erase : Rule

-- a channel of an ink with alpha a, laid on the same channel of a dot
abbrev pub channel : Rule → ℕ → ℕ → ℕ → ℕ
channel over a ink dot = ink + rounded (dot * (255 - a))
channel erase a ink dot = rounded (dot * (255 - a))

-- ink laid on a dot: the rule in every channel, alpha included
abbrev pub laid : Rule → Dot → Dot → Dot
laid rule ink dot = record {
  red = channel rule ink.alpha ink.red dot.red;
  green = channel rule ink.alpha ink.green dot.green;
  blue = channel rule ink.alpha ink.blue dot.blue;
  alpha = channel rule ink.alpha ink.alpha dot.alpha;
}

-- a dot at an opacity
abbrev pub faded : ℕ → Dot → Dot
faded opacity d = record {
  red = rounded (d.red * opacity);
  green = rounded (d.green * opacity);
  blue = rounded (d.blue * opacity);
  alpha = rounded (d.alpha * opacity);
}

-- a colour of a dot as it is seen on paper
abbrev pub on_paper : ℕ → Dot → ℕ
on_paper colour d = colour + 255 - d.alpha
