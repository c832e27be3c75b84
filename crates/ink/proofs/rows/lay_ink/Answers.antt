use Rattle.std.proofs.Common.{arith}
use Rattle.std.proofs.lemmas.Grind.{common_steps}
use Rattle.std.proofs.lemmas.List.{map-set, get_or-map}
use Rattle.std.proofs.lemmas.List.Edits.{map_over_more}
use Rattle.ink.specs.Meanings.{dot_of}
use Rattle.ink.proofs.rows.lay_ink.Goals as goal

pub loop-dot-preserved : goal.loop-dot-preserved
loop-dot-preserved g c = grind (arith, common_steps, map-set dot_of, get_or-map dot_of, map_over_more (g.R.InkRule.lays c.args.rule.now (dot_of c.args.ink)))
