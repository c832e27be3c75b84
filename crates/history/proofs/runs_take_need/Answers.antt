use Rattle.history.proofs.Runs.{runs_take_need}
use Rattle.history.proofs.runs_take_need.Goals as goal

pub returns : goal.returns
returns c = runs_take_need
