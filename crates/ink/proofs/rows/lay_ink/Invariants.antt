use Rattle.std.proofs.Common.{◌≡◌, ◌++◌, map, take, drop}
use Rattle.ink.specs.Meanings.{dot_of, dots_of}
use Rattle.ink.proofs.rows.lay_ink.Given as goal

abbrev pub invariant-loop-dot : goal.invariant-loop-dot
invariant-loop-dot g l =
    let start = dots_of l.initial.dot-items in
    dots_of l.dot-items ≡ map (g.R.InkRule.lays l.rule (dot_of l.ink)) (take l.dot-index start) ++ drop l.dot-index start
