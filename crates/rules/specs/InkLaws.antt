-- What is proved of inks.
use Rattle.std.specs.Prelude.{◌≡◌, ℕ, ◌≤◌}
use Rattle.rules.specs.Dots.{Dot, Sound, Rule, blank, laid, faded, on_paper}

-- blank ink leaves every dot unaltered, by either rule
abbrev pub BlankKeeps : Type 0
BlankKeeps = (rule : Rule) (d : Dot) → laid rule blank d ≡ d

-- a blank dot is blank at every opacity
abbrev pub BlankFades : Type 0
BlankFades = (opacity : ℕ) → faded opacity blank ≡ blank

-- sound ink laid on a sound dot gives a sound dot
abbrev pub LaidSound : Type 0
LaidSound = (rule : Rule) (ink d : Dot) → Sound ink → Sound d → Sound (laid rule ink d)

-- a sound dot at an opacity is a sound dot
abbrev pub FadedSound : Type 0
FadedSound = (opacity : ℕ) (d : Dot) → opacity ≤ 255 → Sound d → Sound (faded opacity d)

-- on paper each colour of a sound dot is a byte
abbrev pub PaperByte : Type 0
PaperByte = (colour : ℕ) (d : Dot) → Sound d → colour ≤ d.alpha → on_paper colour d ≤ 255
