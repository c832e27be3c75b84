use Rattle.std.proofs.Common.{sym, ◌∙◌, arith}
use Rattle.std.proofs.lemmas.Option.{MatchOption-at_some}
use Rattle.walk.proofs.Stretches.{walk_clear, walk_blank, walk_more, walk_all}
use Rattle.walk.proofs.walks.+walk_branch.Goals as goal
use Rattle.walk.proofs.walks.+walk_branch.Goals.{in-Some, in_default}

pub returns-then-word-eq0 : goal.returns-then-word-eq0
returns-then-word-eq0 g t c = rw c.if-word-eq0.true (sym (walk_blank (g.R.Region.has c.args.region.now) g.V.Visitor.step (g.S.BlockStore.blocks c.args.store.now) c.args.stretch.order c.args.stretch.at c.args.visitor.now g.V.Visitor.blank))

pub returns-then-not-meets : goal.returns-then-not-meets
returns-then-not-meets g t c = sym (walk_clear (g.R.Region.has c.args.region.now) g.V.Visitor.step (g.S.BlockStore.blocks c.args.store.now) c.args.stretch.order c.args.word c.args.stretch.at c.args.visitor.now (c.meets.ensures c.if-not-meets.true))

pub loop-i-preserved : goal.loop-i-preserved
loop-i-preserved g t c =
    elim c.match-part_at.branch [
      | in-Some w ↦
          let q = MatchOption-at_some _ _ w.in-Some.part w.in-Some.is c.part_at.ensures in
          walk_more (g.R.Region.has c.args.region.now) g.V.Visitor.step (g.S.BlockStore.blocks c.args.store.now) c.args.stretch.order c.args.word c.args.stretch.at c.loop-i.i _ c.args.visitor.now c.loop-i.visitor _ c.if-stretch-eq0.false c.loop-i-test.true q.2.word c.loop-i.invariant (w.visitor-is ∙ rw (q.2.order, q.2.at) at w.walk_branch.ensures)
      | in_default w ↦ absurd (omega arith)
    ]

pub returns : goal.returns
returns g t c = walk_all (g.R.Region.has c.args.region.now) g.V.Visitor.step (g.S.BlockStore.blocks c.args.store.now) c.args.stretch.order c.args.word c.args.stretch.at c.loop-i.i c.args.visitor.now c.loop-i.visitor c.if-stretch-eq0.false (omega arith) c.loop-i.invariant
