use Rattle.rules.proofs.Lines.{line_ends, line_connects}
use Rattle.rules.proofs.lines_connect.Goals as goal

pub returns : goal.returns
returns c = record { ends = line_ends; steps = line_connects }
