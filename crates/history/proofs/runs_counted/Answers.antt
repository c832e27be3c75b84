use Rattle.history.proofs.Runs.{runs_counted}
use Rattle.history.proofs.runs_counted.Goals as goal

pub returns : goal.returns
returns c = runs_counted
