use Rattle.std.proofs.Common.{◌≡◌, vec_len}
use Rattle.rig.proofs.play.play.Given as goal

abbrev pub invariant-loop-call : goal.invariant-loop-call
invariant-loop-call g l = vec_len l.answers ≡ l.call-index
