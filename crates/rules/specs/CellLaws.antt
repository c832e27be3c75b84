-- What is proved of cells, their words and their indices.
use Rattle.std.specs.Prelude.{◌≡◌, ℕ, ◌+◌, ◌*◌, ◌/◌, ◌%◌, ◌^◌, ◌<◌, ◌≤◌, Bool, false, None, Some}
use Rattle.rules.specs.Dots.{Dot, Sound, blank}
use Rattle.rules.specs.Cells.{dot_word, word_dot, dot_index, dot_column, dot_row, strip_word, word_strip, strip_index, record_word, word_record}

-- a sound dot can be had back from its word of 32 bits, and blank's word is 0
pub record DotsPack : Type 0 where
  pub blank_zero : ◌≡◌ {A = ℕ} (dot_word blank) 0
  pub back : (d : Dot) → Sound d → word_dot (dot_word d) ≡ d
  pub word : (d : Dot) → Sound d → dot_word d < 2 ^ 32

-- a strip can be had back from its word, every word is some strip's, and the word of a strip without protection is 0
pub record StripsPack : Type 0 where
  pub blank_zero : ◌≡◌ {A = ℕ} (strip_word (λ b. false)) 0
  pub back : (strip : ℕ → Bool) (b : ℕ) → b < 32 → word_strip (strip_word strip) b ≡ strip b
  pub word : (strip : ℕ → Bool) → strip_word strip < 2 ^ 32
  pub forth : (w : ℕ) → w < 2 ^ 32 → strip_word (word_strip w) ≡ w

-- a record can be had back from its word, and the word of no record is 0
pub record RecordsPack : Type 0 where
  pub blank_zero : ◌≡◌ {A = ℕ} (record_word None) 0
  pub none_back : word_record (record_word None) ≡ None
  pub back : (opacity : ℕ) → word_record (record_word (Some opacity)) ≡ Some opacity
  pub word : (opacity : ℕ) → opacity ≤ 255 → record_word (Some opacity) < 2 ^ 32

-- the index of a dot and its column and row are inverse to each other
pub record DotsPlaced : Type 0 where
  pub column : (x y : ℕ) → x < 256 → y < 256 → dot_column (dot_index x y) ≡ x
  pub row : (x y : ℕ) → x < 256 → y < 256 → dot_row (dot_index x y) ≡ y
  pub within : (x y : ℕ) → dot_index x y < 16 ^ 4
  pub back : (i : ℕ) → i < 16 ^ 4 → dot_index (dot_column i) (dot_row i) ≡ i

-- so are the index of a strip, with the dot's place in it, and the dot's column and row
pub record StripsPlaced : Type 0 where
  pub column : (x y : ℕ) → x < 256 → 32 * (strip_index x y % 8) + x % 32 ≡ x
  pub row : (x y : ℕ) → x < 256 → strip_index x y / 8 ≡ y
  pub within : (x y : ℕ) → x < 256 → y < 256 → strip_index x y < 16 ^ 3
  pub back : (i b : ℕ) → b < 32 → strip_index (32 * (i % 8) + b) (i / 8) ≡ i
