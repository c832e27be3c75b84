-- A look-up goes one order down.
use Rattle.std.proofs.Common.{◌≡◌, ℕ, suc, ◌-◌, ◌/◌, ◌%◌, ◌^◌, ◌<◌, sym, ap, arith}
use Rattle.block.specs.Blocks.{Blocks}
use Rattle.forest.specs.Trees.{child, lookup}

pub order_down : (o : ℕ) → 0 < o → suc (o - 1) ≡ o
order_down o h = omega arith

pub lookup_down : (m : Blocks) (o p i : ℕ) → 0 < o → lookup m o p i ≡ lookup m (o - 1) (child m p ((i / 16 ^ (o - 1)) % 16)) i
lookup_down m o p i h = ap (λ k. lookup m k p i) (sym (order_down o h))
