-- Which blocks are reached from outside.
--
--   Reached     a block that is held from outside, or that a reached block points to
use Rattle.std.specs.Prelude.{ℕ, ◌<◌}
use Rattle.block.specs.Blocks.{Blocks}
use Rattle.forest.specs.Balance.{Label, below, leads}

pub data Reached (deep : ℕ → ℕ) (m : Blocks) (label : ℕ → Label) (outside : ℕ → ℕ) : ℕ → Type 0 where
  root : {b : ℕ} → 0 < outside b → Reached deep m label outside b
  step : {b : ℕ} (c i : ℕ) → Reached deep m label outside c → 0 < leads (below deep (label c) i) (m.word c i) b → Reached deep m label outside b
