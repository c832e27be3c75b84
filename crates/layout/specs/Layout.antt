-- The blocks that a list of words and a list of holder cells stand for.
--
--   room ws hs       how many blocks there is room for
--   laid ws hs       the blocks: words 16b to 16b + 15 and cell b are block b's
--   Fits m           holders fit 16 bits, and words 32
--   past ns ws hs    the frame of a store on this memory: the references named ns, and the cells past the blocks
--   Cleared, Claimed   the cells once all blocks are freed, and once a number is put out
use Rattle.std.specs.Prelude.{◌≡◌, ℕ, ◌+◌, ◌*◌, ◌/◌, ◌^◌, ◌<◌, min, Bool, cond, ◌&&◌, ◌≢◌, List, length, drop, Ok, Result, ◌==◌, nat_lt, slice_index}
use Rattle.std.specs.Borrow.{GName}
use Rattle.block.specs.declared.refusals.Refusal.{Refusal}
use Rattle.block.specs.Blocks.{Blocks, Frame, is_free}
use Rattle.block.specs.Calls.{refused_if}

abbrev pub room : List ℕ → List ℕ → ℕ
room ws hs = min (min (length ws / 16) (length hs)) 16384

-- the holders of block b among n
abbrev pub held_in : ℕ → List ℕ → ℕ → ℕ
held_in n hs b = cond (nat_lt b n) (slice_index hs b) 0

-- word i of block b, which reads 0 unless it is out
abbrev pub word_in : ℕ → List ℕ → List ℕ → ℕ → ℕ → ℕ
word_in n ws hs b i = cond (nat_lt 0 (held_in n hs b) && nat_lt i 16) (slice_index ws (16 * b + i)) 0

-- the first n blocks
abbrev pub laid_in : ℕ → List ℕ → List ℕ → Blocks
laid_in n ws hs = record { size = n; holders = held_in n hs; word = word_in n ws hs }

abbrev pub laid : List ℕ → List ℕ → Blocks
laid ws hs = laid_in (room ws hs) ws hs

abbrev pub Fits : Blocks → Type 0
Fits m = ((b : ℕ) → m.holders b < 65536) × ((b i : ℕ) → m.word b i < 2 ^ 32)

abbrev pub past : List GName → List ℕ → List ℕ → Frame
past ns ws hs = record { names = ns; words = drop (16 * room ws hs) ws; holders = drop (room ws hs) hs }

-- where word i of block b lies
abbrev pub place_answer : Blocks → ℕ → ℕ → Result ℕ Refusal
place_answer m b i = refused_if (is_free m b) 2 (refused_if (nat_lt 15 i) 4 (Ok (16 * b + i)))

-- releasing a holder of block b: whether it is free then
abbrev pub release_tells : Blocks → ℕ → Result Bool Refusal
release_tells m b = refused_if (is_free m b) 2 (Ok (m.holders b == 1))

-- the first n holder cells are zeros, the others as before
pub record Cleared (n : ℕ) (hs hs' : List ℕ) : Type 0 where
  pub long : length hs' ≡ length hs
  pub zeros : (k : ℕ) → k < n → slice_index hs' k ≡ 0
  pub others : drop n hs' ≡ drop n hs

-- block b has one holder and zeros for words; all other cells are as before
pub record Claimed (ws hs : List ℕ) (b : ℕ) (ws' hs' : List ℕ) : Type 0 where
  pub words_long : length ws' ≡ length ws
  pub cells_long : length hs' ≡ length hs
  pub held : b < room ws hs → slice_index hs' b ≡ 1
  pub zeros : b < room ws hs → (i : ℕ) → i < 16 → slice_index ws' (16 * b + i) ≡ 0
  pub others_held : (c : ℕ) → c ≢ b → slice_index hs' c ≡ slice_index hs c
  pub others_words : (c i : ℕ) → c ≢ b → i < 16 → slice_index ws' (16 * c + i) ≡ slice_index ws (16 * c + i)
