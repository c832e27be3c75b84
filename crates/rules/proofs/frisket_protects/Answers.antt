use Rattle.rules.proofs.Draws.{protected_kept}
use Rattle.rules.proofs.frisket_protects.Goals as goal

pub returns : goal.returns
returns c = protected_kept
