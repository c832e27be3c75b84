use Rattle.std.proofs.Common.{◌≡◌, take}
use Rattle.std.specs.List.{filter}
use Rattle.table.specs.Tables.{but}
use Rattle.table.proofs.orders.Order.strike.Given as goal

abbrev pub invariant-loop-other : goal.invariant-loop-other
invariant-loop-other l = l.kept.made ≡ filter (but l.number) (take l.other-index l.other-items)
