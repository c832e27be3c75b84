use Rattle.std.proofs.Common.{arith, append-nil}
use Rattle.std.proofs.lemmas.Grind.{common_steps}
use Rattle.std.proofs.lemmas.List.Elements.{filter_more}
use Rattle.rules.proofs.Members.{length_filter_le}
use Rattle.table.proofs.orders.Order.strike.Goals as goal

pub loop-other-preserved : goal.loop-other-preserved
loop-other-preserved c = grind (arith, common_steps, filter_more, length_filter_le, append-nil)

pub returns-clause-few : goal.returns-clause-few
returns-clause-few c = grind (arith, common_steps, length_filter_le)
