use Rattle.rules.proofs.Places.{dots_placed, strips_placed}
use Rattle.rules.proofs.cells_placed.Goals as goal

pub returns : goal.returns
returns c = record { dots = dots_placed; strips = strips_placed }
