-- How the names are written, and what a word says of its text.
use Rattle.std.specs.Prelude.{◌≡◌, ◌≢◌, ◌≤◌, ℕ, List, Result, MatchResult, codes}
use Rattle.std.specs.Str.Parse.{IsNumeral, digits_value, without_leading_plus}
use Rattle.requests.specs.declared.words.Name.{Name}
use Rattle.requests.specs.declared.words.Name.TheVariants.{Ink, Over, Erase, Fade, On, At}
use Rattle.requests.specs.declared.words.UnknownName.{UnknownName}
use Rattle.requests.specs.declared.words.Word.{Word}
use Rattle.requests.specs.declared.words.Word.TheVariants as words

abbrev pub spelling : Name → List ℕ
spelling Ink = codes "ink"
spelling Over = codes "over"
spelling Erase = codes "erase"
spelling Fade = codes "fade"
spelling On = codes "on"
spelling At = codes "at"

-- the name that a text spells, or that it spells none
abbrev pub Spells : List ℕ → Result Name UnknownName → Type 0
Spells text result = MatchResult result (λ name. spelling name ≡ text) (λ _. (name : Name) → spelling name ≢ text)

-- the name that a text spells, or else the number from 0 to 255 that it writes, or neither; no text says the end
abbrev pub Says : List ℕ → Word → Type 0
Says text (words.Name name) = spelling name ≡ text
Says text (words.Number number) = ((name : Name) → spelling name ≢ text) × IsNumeral 10 (without_leading_plus text) × (number ≡ digits_value 10 (without_leading_plus text))
Says text words.Other = ((name : Name) → spelling name ≢ text) × (IsNumeral 10 (without_leading_plus text) → 256 ≤ digits_value 10 (without_leading_plus text))
Says text words.End = ⊥
