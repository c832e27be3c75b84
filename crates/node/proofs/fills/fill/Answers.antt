use Rattle.std.proofs.Common.{refl}
use Rattle.forest.proofs.Fills.{fill_begin, fill_step, fill_holdable}
use Rattle.node.specs.Children.{fresh_at, word_at}
use Rattle.node.proofs.fills.fill.Goals as goal

pub loop-i-init : goal.loop-i-init
loop-i-init g c = fill_begin c.args.order c.in_ok-b.b (word_at c.args.children.now) (fresh_at c.args.children.now) _ _ c.in_ok-b.ensures.after (c.if-not-have_room.ensures.room refl)

pub loop-i-preserved : goal.loop-i-preserved
loop-i-preserved g c =
    let cs = c.args.children.now in
    let inv = c.loop-i.invariant in
    let h = fill_holdable c.args.order c.in_ok-b.b (word_at cs) (fresh_at cs) _ _ c.loop-i.i inv.0 inv.1 c.loop-i-test.true in
    (inv.0, fill_step c.args.order c.in_ok-b.b (word_at cs) (fresh_at cs) _ _ _ _ c.loop-i.i _ inv.1 c.loop-i-test.true (c.hold.ensures h) c.put.ensures.answer (rw c.word.ensures at c.put.ensures.after))
