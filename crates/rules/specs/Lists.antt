-- Words on lists, numbers and tests that the other definitions use.
--
--   below n      the numbers 0 to n - 1
--   apart a b    the distance between two numbers
--   distinct     a list without its repetitions
--   Once         nothing stands on a list twice
use Rattle.std.specs.Prelude.{ℕ, zero, suc, ◌+◌, ◌-◌, ◌*◌, ◌/◌, ◌%◌, ◌^◌, Bool, true, false, cond, T, List, [], ◌∷◌, ◌==◌}
use Rattle.std.specs.List.{list_any, range_with_len}

abbrev pub below : ℕ → List ℕ
below n = range_with_len 0 n

abbrev pub apart : ℕ → ℕ → ℕ
apart a b = (a - b) + (b - a)

-- the sum of some numbers
abbrev pub total : List ℕ → ℕ
total [] = 0
total (n ∷ ns) = n + total ns

-- a truth as a binary digit
abbrev pub bit : Bool → ℕ
bit true = 1
bit false = 0

-- the number whose n binary digits are f 0, f 1, .., the first of them the highest
abbrev pub binary : ℕ → (ℕ → Bool) → ℕ
binary zero f = 0
binary (suc n) f = 2 * binary n f + bit (f n)

-- digit b of a number of n binary digits, counted from the highest
abbrev pub binary_digit : ℕ → ℕ → ℕ → Bool
binary_digit n v b = v / 2 ^ (n - 1 - b) % 2 == 1

module _ {A : Type 0} where
  -- by a test of sameness
  abbrev pub distinct : (A → A → Bool) → List A → List A
  distinct same [] = []
  distinct same (x ∷ xs) = cond (list_any (same x) xs) (distinct same xs) (x ∷ distinct same xs)

  -- whether nothing is on the list
  abbrev pub none_of : List A → Bool
  none_of [] = true
  none_of (x ∷ xs) = false

  abbrev pub Once : (A → A → Bool) → List A → Type 0
  Once same [] = Unit {0}
  Once same (x ∷ xs) = (T (list_any (same x) xs) → ⊥) × Once same xs
