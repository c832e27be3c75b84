use Rattle.rules.proofs.Inks.{blank_keeps, blank_fades}
use Rattle.rules.proofs.blank_keeps.Goals as goal

pub returns : goal.returns
returns c = record { keeps = blank_keeps; fades = blank_fades }
