-- The laws of the inks.
use Rattle.std.proofs.Common.{◌≡◌, ℕ, ◌-◌, ◌*◌, ◌≤◌, ap, ◌∙◌, mul-le-mul_right, zero-mul, arith}
use Rattle.rules.specs.Dots.{Dot, Rule, over, erase, blank, laid, faded, rounded, channel}
use Rattle.rules.specs.InkLaws.{BlankKeeps, BlankFades, LaidSound, FadedSound, PaperByte}

-- one channel under blank ink
same : (rule : Rule) (v : ℕ) → channel rule 0 0 v ≡ v
same over v = omega arith
same erase v = omega arith

pub blank_keeps : BlankKeeps
blank_keeps rule d = λ i. record {
  red = same rule d.red i;
  green = same rule d.green i;
  blue = same rule d.blue i;
  alpha = same rule d.alpha i;
}

pub blank_fades : BlankFades
blank_fades o i = record { red = none i; green = none i; blue = none i; alpha = none i }
  where
    none : rounded (0 * o) ≡ 0
    none = omega (arith, zero-mul o)

-- so a blank layer leaves what is below it unaltered, at every opacity
pub faded_keeps : (o : ℕ) (d : Dot) → laid over (faded o blank) d ≡ d
faded_keeps o d = ap (λ (b : Dot). laid over b d) (blank_fades o) ∙ blank_keeps over d

-- rounding keeps the order
pub less : (a b k : ℕ) → a ≤ b → rounded (a * k) ≤ rounded (b * k)
less a b k h = let p : a * k ≤ b * k = mul-le-mul_right k h in omega arith

-- and does not pass the factor
pub most : (a k : ℕ) → a ≤ 255 → rounded (a * k) ≤ k
most a k h = let p : a * k ≤ 255 * k = mul-le-mul_right k h in omega arith

colour : (rule : Rule) (a s c d : ℕ) → s ≤ a → c ≤ d → channel rule a s c ≤ channel rule a a d
colour over a s c d h k = let p = less c d (255 - a) k in omega arith
colour erase a s c d h k = less c d (255 - a) k

byte : (rule : Rule) (a d : ℕ) → a ≤ 255 → d ≤ 255 → channel rule a a d ≤ 255
byte over a d h k = let p = most d (255 - a) k in omega arith
byte erase a d h k = let p = most d (255 - a) k in omega arith

pub laid_sound : LaidSound
laid_sound rule ink d s t = record {
  red_covered = colour rule ink.alpha ink.red d.red d.alpha s.red_covered t.red_covered;
  green_covered = colour rule ink.alpha ink.green d.green d.alpha s.green_covered t.green_covered;
  blue_covered = colour rule ink.alpha ink.blue d.blue d.alpha s.blue_covered t.blue_covered;
  alpha_byte = byte rule ink.alpha d.alpha s.alpha_byte t.alpha_byte;
}

pub faded_sound : FadedSound
faded_sound o d h s = record {
  red_covered = less d.red d.alpha o s.red_covered;
  green_covered = less d.green d.alpha o s.green_covered;
  blue_covered = less d.blue d.alpha o s.blue_covered;
  alpha_byte = let p = most d.alpha o s.alpha_byte in omega arith;
}

pub paper_byte : PaperByte
paper_byte colour d s h = omega arith
