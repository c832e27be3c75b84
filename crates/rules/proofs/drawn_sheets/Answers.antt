use Rattle.rules.proofs.Draws.{drawn_sound, flat_sound, drawn_inside}
use Rattle.rules.proofs.drawn_sheets.Goals as goal

pub returns : goal.returns
returns c = record { sound = drawn_sound; flat = flat_sound; inside = drawn_inside }
