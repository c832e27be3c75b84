use Rattle.count.proofs.Laws.{never_too_many, all_reached, none_held}
use Rattle.count.proofs.balance_tells.Goals as goal

pub returns : goal.returns
returns c = record { few = never_too_many; reached = all_reached; free = none_held }
