use Rattle.block.proofs.Meanings.{numbers_tell, only_named, free_counted, calls_keep_whole}
use Rattle.block.proofs.laws.meaning_stands.Goals as goal

pub returns : goal.returns
returns c = record { numbers = numbers_tell; named = only_named; counted = free_counted; whole = calls_keep_whole }
