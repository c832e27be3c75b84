use Rattle.history.proofs.Lasts.{marks_mean, marks_last}
use Rattle.history.proofs.marks_mean.Goals as goal

pub returns : goal.returns
returns c = record { touches = marks_mean; last = marks_last }
