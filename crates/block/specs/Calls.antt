-- What each call of a block store answers, and what it leaves.
--
--   get_answer, put_answer, keep_answer,      what a call answers: its refusals in their order, then its result
--   release_answer, holders_answer
--   written, kept, released                   the blocks that an accepted call leaves
--   Takes m r n                               `take` answered r, and the blocks m became n
use Rattle.std.specs.Prelude.{◌≡◌, ℕ, ◌+◌, ◌-◌, ◌<◌, Bool, cond, ◌&&◌, Ok, Err, Result, ◌==◌, nat_le, nat_lt}
use Rattle.block.specs.declared.refusals.Refusal.{Refusal}
use Rattle.block.specs.Refusals.{refusal}
use Rattle.block.specs.Blocks.{Blocks, is_free}

-- the refusal with the number n where the test holds, and else the answer
abbrev pub refused_if : {A : Type 0} → Bool → ℕ → Result A Refusal → Result A Refusal
refused_if test n answer = cond test (Err (refusal n)) answer

abbrev pub get_answer : Blocks → ℕ → ℕ → Result ℕ Refusal
get_answer m b i = refused_if (is_free m b) 2 (refused_if (nat_lt 15 i) 4 (Ok (m.word b i)))

abbrev pub put_answer : Blocks → ℕ → ℕ → Result Unit Refusal
put_answer m b i = refused_if (is_free m b) 2 (refused_if (nat_lt 15 i) 4 (Ok tt))

abbrev pub keep_answer : Blocks → ℕ → Result Unit Refusal
keep_answer m b = refused_if (is_free m b) 2 (refused_if (nat_le 65535 (m.holders b)) 3 (Ok tt))

abbrev pub release_answer : Blocks → ℕ → Result Unit Refusal
release_answer m b = refused_if (is_free m b) 2 (Ok tt)

abbrev pub holders_answer : Blocks → ℕ → Result ℕ Refusal
holders_answer m b = refused_if (is_free m b) 2 (Ok (m.holders b))

-- with w as word i of block b
abbrev pub written : Blocks → ℕ → ℕ → ℕ → Blocks
written m b i w = record {
  size = m.size;
  holders = m.holders;
  word = λ c j. cond (c == b && j == i) w (m.word c j);
}

-- with one holder more of block b
abbrev pub kept : Blocks → ℕ → Blocks
kept m b = record {
  size = m.size;
  holders = λ c. cond (c == b) (m.holders b + 1) (m.holders c);
  word = m.word;
}

-- with one holder fewer of block b: at the last its words are gone
abbrev pub released : Blocks → ℕ → Blocks
released m b = record {
  size = m.size;
  holders = λ c. cond (c == b) (m.holders b - 1) (m.holders c);
  word = λ c i. cond (c == b && nat_le (m.holders b) 1) 0 (m.word c i);
}

-- with number b out: one holder, and zeros for words
abbrev pub taken : Blocks → ℕ → Blocks
taken m b = record {
  size = m.size;
  holders = λ c. cond (c == b) 1 (m.holders c);
  word = λ c i. cond (c == b) 0 (m.word c i);
}

-- some free number was picked
pub record Picked (m : Blocks) (b : ℕ) (n : Blocks) : Type 0 where
  pub below : b < m.size
  pub was : m.holders b ≡ 0
  pub is : n ≡ taken m b

-- there was none to pick
pub record Spent (m : Blocks) (e : Refusal) (n : Blocks) : Type 0 where
  pub why : e ≡ refusal 1
  pub none : (b : ℕ) → b < m.size → 0 < m.holders b
  pub is : n ≡ m

abbrev pub Takes : Blocks → Result ℕ Refusal → Blocks → Type 0
Takes m (Ok b) n = Picked m b n
Takes m (Err e) n = Spent m e n
