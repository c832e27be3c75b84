use Rattle.rules.proofs.Inks.{laid_sound, faded_sound, paper_byte}
use Rattle.rules.proofs.inks_sound.Goals as goal

pub returns : goal.returns
returns c = record { laid = laid_sound; faded = faded_sound; paper = paper_byte }
