use Rattle.std.proofs.Common.{◌≡◌, ℕ, ◌<◌, ◌≤◌}
use Rattle.marks.specs.Map.{mark}
use Rattle.map_store.proofs.store.MapStore.new.Given as goal

abbrev pub invariant-loop-b : goal.invariant-loop-b
invariant-loop-b l =
    ((k : ℕ) → k < l.b → k < 16384 → mark l.map.words k ≡ 0)
    × ((k : ℕ) → l.b ≤ k → k < 16384 → mark l.map.words k ≡ 1)
