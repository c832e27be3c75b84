use Rattle.count.proofs.Laws.{others_stay, new_beside_old}
use Rattle.count.proofs.snapshots_apart.Goals as goal

pub returns : goal.returns
returns c = record { gone = others_stay; made = new_beside_old }
