use Rattle.std.proofs.Common.{suc, ◌-◌, sym, refl, ap, ◌∙◌, arith}
use Rattle.std.proofs.lemmas.Option.{MatchOption-at_none, MatchOption-at_some}
use Rattle.block.proofs.Sums.{sum_zero}
use Rattle.forest.proofs.Quiets.{quiet_changes}
use Rattle.forest.proofs.Needs.{count_fits, count_changed, count_same, count_told}
use Rattle.tree.proofs.needs.+count.Goals as goal
use Rattle.tree.proofs.needs.+count.Goals.{in-Some, in_default}

pub returns-then-not-touches : goal.returns-then-not-touches
returns-then-not-touches g t c = quiet_changes _ (g.S.BlockStore.blocks c.args.store.now) c.args.stretch.order c.args.word c.args.stretch.at (c.touches.ensures c.if-not-touches.true)

pub loop-i-init : goal.loop-i-init
loop-i-init g t c = (refl, ap suc (sym (sum_zero _)))

pub returns : goal.returns
returns g t c =
    count_told _ (g.S.BlockStore.blocks c.args.store.now) c.args.word c.args.stretch.at c.args.stretch.order c.loop-i.i c.loop-i.blocks c.if-stretch-eq0.false (omega arith) c.loop-i.invariant.0 c.loop-i.invariant.1

pub overflow_add-blocks : goal.overflow_add-blocks
overflow_add-blocks g t c =
    let s = c.args.stretch.shallow in
    let q = c.part-part.ensures in
    let r = MatchOption-at_some _ _ c.in-Some.of_part c.in-Some.is (rw (q.order, q.at, q.word) at c.count.ensures) in
    omega (arith, count_fits (g.P.Plan.new c.args.plan.now) (g.S.BlockStore.blocks c.args.store.now) c.args.word c.args.stretch.at (c.args.stretch.order - 1) c.loop-i.i (omega arith) c.loop-i-test.true, c.loop-i.invariant.1, r.1, c.unwrap_or.ensures)

pub loop-i-preserved : goal.loop-i-preserved
loop-i-preserved g t c =
    let m = g.S.BlockStore.blocks c.args.store.now in
    let q = c.part-part.ensures in
    let r = rw (q.order, q.at, q.word) at c.count.ensures in
    elim c.match-count.branch [
      | in-Some w ↦
          let d = MatchOption-at_some _ _ w.in-Some.of_part w.in-Some.is r in
          rw w.blocks-is (count_changed _ m c.args.word c.args.stretch.at (c.args.stretch.order - 1) c.loop-i.i _ _ _ (w.unwrap_or.ensures ∙ c.loop-i.invariant.1) d.0 d.1 c.loop-i.invariant.0)
      | in_default w ↦
          rw w.blocks-is (count_same _ m c.args.word c.args.stretch.at (c.args.stretch.order - 1) c.loop-i.i _ _ c.loop-i.invariant.0 c.loop-i.invariant.1 (MatchOption-at_none _ _ w.in_default.is r))
    ]
