use Rattle.history.proofs.Runs.{runs_sound, runs_made}
use Rattle.history.proofs.runs_sound.Goals as goal

pub returns : goal.returns
returns c = record { sound = runs_sound; made = runs_made }
