use Rattle.rules.proofs.Changes.{changed_means}
use Rattle.rules.proofs.Touched.{touched_means}
use Rattle.rules.proofs.changes_counted.Goals as goal

pub returns : goal.returns
returns c = record { cells = changed_means; stretches = touched_means }
