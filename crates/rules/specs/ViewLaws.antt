-- What is proved of the bytes of views.
use Rattle.std.specs.Prelude.{◌≡◌, ℕ, ◌+◌, ◌-◌, ◌*◌, ◌/◌, ◌<◌, ◌≤◌, List, [], ◌∷◌, length, slice_index_or}
use Rattle.std.specs.List.{AllByRecursion}
use Rattle.rules.specs.Lists.{binary_digit}
use Rattle.rules.specs.Sheets.{Sheet}
use Rattle.rules.specs.Bytes.{Kind, colour, mask, decimal, row_bytes, mask_byte}
use Rattle.rules.specs.DrawLaws.{SoundSheet}

-- the number that a text of digits spells, behind the number v
abbrev pub spelt : ℕ → List ℕ → ℕ
spelt v [] = v
spelt v (c ∷ cs) = spelt (10 * v + (c - 48)) cs

-- a decimal is made of digits, spells its number, and begins with 0 only where it is 0
pub record Decimal (n : ℕ) : Type 0 where
  pub digits : AllByRecursion (λ c. (48 ≤ c) × (c ≤ 57)) (decimal n)
  pub spells : spelt 0 (decimal n) ≡ n
  pub first : slice_index_or (decimal n) 0 48 ≡ 48 → n ≡ 0

abbrev pub DecimalsSpell : Type 0
DecimalsSpell = (n : ℕ) → n < 1000 → Decimal n

-- a colour row has three bytes a dot, a mask row one for eight dots, rounded up
pub record RowLengths : Type 0 where
  pub colours : (w : ℕ) (s : Sheet) (y : ℕ) → length (row_bytes colour w s y) ≡ 3 * w
  pub masks : (w : ℕ) (s : Sheet) (y : ℕ) → length (row_bytes mask w s y) ≡ (w + 7) / 8

-- what a row of a sound sheet holds are bytes
abbrev pub RowsBytes : Type 0
RowsBytes = (kind : Kind) (w : ℕ) (s : Sheet) (y : ℕ) → SoundSheet s → AllByRecursion (λ b. b < 256) (row_bytes kind w s y)

-- bit b of byte k of a mask row, from the highest, tells whether dot 8 × k + b is protected
abbrev pub MaskBits : Type 0
MaskBits = (s : Sheet) (y k b : ℕ) → b < 8 → binary_digit 8 (mask_byte s y k) b ≡ s.protected (8 * k + b) y
