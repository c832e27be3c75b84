use Rattle.rules.proofs.Words.{dots_pack, strips_pack, records_pack}
use Rattle.rules.proofs.cells_pack.Goals as goal

pub returns : goal.returns
returns c = record { dots = dots_pack; strips = strips_pack; records = records_pack }
