-- What a change of the blocks leaves of them.
--
--   Fewer m n     no block gets a holder, and those that are still out keep their words
--   Grown m n     a block that is out stays out, and keeps its words
--   Live m k w    every block of the tree w of order k is out
use Rattle.std.specs.Prelude.{◌≡◌, ℕ, zero, suc, ◌<◌, ◌≤◌}
use Rattle.block.specs.Blocks.{Blocks}

pub record Fewer (m n : Blocks) : Type 0 where
  pub size : n.size ≡ m.size
  pub held : (b : ℕ) → n.holders b ≤ m.holders b
  pub same : (b i : ℕ) → 0 < n.holders b → n.word b i ≡ m.word b i

pub record Grown (m n : Blocks) : Type 0 where
  pub size : n.size ≡ m.size
  pub held : (b : ℕ) → m.holders b ≤ n.holders b
  pub same : (b i : ℕ) → 0 < m.holders b → n.word b i ≡ m.word b i

abbrev pub Live : Blocks → ℕ → ℕ → Type 0
Live m zero w = Unit {0}
Live m (suc k) w = (b : ℕ) → w ≡ suc b → (0 < m.holders b) × ((i : ℕ) → Live m k (m.word b i))
