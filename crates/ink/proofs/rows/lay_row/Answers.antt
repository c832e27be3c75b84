use Rattle.std.proofs.Common.{arith, length-set}
use Rattle.ink.specs.Meanings.{dots_of, laid_row}
use Rattle.ink.specs.declared.dot.Dot.{Dot}
use Rattle.ink.proofs.Wholes.{row_more, row_done}
use Rattle.ink.proofs.rows.lay_row.Goals as goal

pub loop-i-preserved : goal.loop-i-preserved
loop-i-preserved g c =
    let s = c.in-Some.ensures.steps in
    record {
      room = omega (arith, length-set {A = Dot});
      whole = row_more _ _ _ c.lay_on.new.dot _ _ c.loop-i.dots _ _ _ (laid_row (g.R.InkRule.lays c.args.rule.now) (dots_of c.args.inks.now) (dots_of c.args.dots.now)) (omega arith) c.lay_on.ensures.after s.0.0 s.0.1 s.0.2 c.loop-i.invariant.whole;
    }

pub returns : goal.returns
returns g c = record { after = row_done _ _ _ _ _ _ c.loop-i.invariant.room (λ more. (c.in-None.ensures.steps more).0.0) c.loop-i.invariant.whole }
