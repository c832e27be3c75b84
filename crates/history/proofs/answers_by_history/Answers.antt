use Rattle.history.proofs.Runs.{answers_by_history, refused_keeps}
use Rattle.history.proofs.answers_by_history.Goals as goal

pub returns : goal.returns
returns c = record { before = answers_by_history; refused = refused_keeps }
