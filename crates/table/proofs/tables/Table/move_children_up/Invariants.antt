use Rattle.std.proofs.Common.{◌≡◌, ◌++◌, map, take, drop, option_map}
use Rattle.table.specs.Tables.{moved_up}
use Rattle.table.proofs.tables.Table.move_children_up.Given as goal

abbrev pub invariant-loop-place : goal.invariant-loop-place
invariant-loop-place l =
    l.place-items ≡ map (option_map (moved_up l.number l.parent)) (take l.place-index l.initial.place-items) ++ drop l.place-index l.initial.place-items
