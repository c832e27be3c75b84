-- The chain through the free blocks.
--
--   chain ws t n    n numbers, from t on, each followed by what stands in its block's first word
--   Threads os m    the list os has every free number of m once, and no other
use Rattle.std.specs.Prelude.{◌≡◌, ℕ, zero, suc, ◌*◌, ◌<◌, List, [], ◌∷◌, length, ◌≢◌, slice_index}
use Rattle.block.specs.Blocks.{Blocks, free_count}

abbrev pub chain : List ℕ → ℕ → ℕ → List ℕ
chain ws t zero = []
chain ws t (suc n) = t ∷ chain ws (slice_index ws (16 * t)) n

-- each is one of the store's numbers
abbrev pub Inside : List ℕ → Blocks → Type 0
Inside os m = (k : ℕ) → k < length os → slice_index os k < m.size

-- each is free
abbrev pub Unheld : List ℕ → Blocks → Type 0
Unheld os m = (k : ℕ) → k < length os → m.holders (slice_index os k) ≡ 0

-- no two are the same
abbrev pub Apart : List ℕ → Type 0
Apart os = (j k : ℕ) → j < k → k < length os → slice_index os j ≢ slice_index os k

-- and there are as many as are free
pub record Threads (os : List ℕ) (m : Blocks) : Type 0 where
  pub inside : Inside os m
  pub unheld : Unheld os m
  pub apart : Apart os
  pub counted : length os ≡ free_count m
