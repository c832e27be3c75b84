-- What a block store holds, whatever it is kept in.
--
--   Blocks         the blocks of a store: how many there are, how many hold each, what stands in its words
--   is_free m b    whether number b is free
--   sum_to n f     the sum of f over the numbers below n
--   free_count m   how many numbers are free
--   all_free n     n blocks, none of them out
--   Whole m        what holds of the blocks of every store
--   Frame          what a store stands on and no call alters
use Rattle.std.specs.Prelude.{◌≡◌, ℕ, zero, suc, ◌+◌, ◌^◌, ◌<◌, ◌≤◌, Bool, cond, List, ◌==◌}
use Rattle.std.specs.Borrow.{GName}

-- A free block has no holder. Words are numbered from 0.
pub record Blocks : Type 0 where
  pub size : ℕ
  pub holders : ℕ → ℕ
  pub word : ℕ → ℕ → ℕ

abbrev pub is_free : Blocks → ℕ → Bool
is_free m b = m.holders b == 0

-- f 0 + f 1 + ... + f (n - 1)
unfoldable pub sum_to : ℕ → (ℕ → ℕ) → ℕ
sum_to zero f = 0
sum_to (suc n) f = f n + sum_to n f

-- 1 for a number of holders that leaves a block free
abbrev pub spare : ℕ → ℕ
spare h = cond (h == 0) 1 0

unfoldable pub free_count : Blocks → ℕ
free_count m = sum_to m.size (λ b. spare (m.holders b))

abbrev pub all_free : ℕ → Blocks
all_free n = record { size = n; holders = λ _. 0; word = λ _ _. 0 }

-- At most 16,384 numbers, none past them out; up to 65,535 holders; sixteen words of 32 bits, which read 0 while a block is free.
pub record Whole (m : Blocks) : Type 0 where
  pub few : m.size ≤ 16384
  pub beyond : (b : ℕ) → m.size ≤ b → m.holders b ≡ 0
  pub held : (b : ℕ) → m.holders b < 65536
  pub wide : (b i : ℕ) → 16 ≤ i → m.word b i ≡ 0
  pub blank : (b i : ℕ) → m.holders b ≡ 0 → m.word b i ≡ 0
  pub fits : (b i : ℕ) → m.word b i < 2 ^ 32

-- The references that a store holds, by their names, and the cells of the memory behind them that lie past its blocks.
pub record Frame : Type 0 where
  pub names : List GName
  pub words : List ℕ
  pub holders : List ℕ
