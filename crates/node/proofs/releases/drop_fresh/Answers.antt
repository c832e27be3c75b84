use Rattle.forest.proofs.Drops.{drop_none, drop_step, drop_all}
use Rattle.node.specs.Children.{fresh_at, word_at}
use Rattle.node.proofs.releases.drop_fresh.Goals as goal

pub loop-child-init : goal.loop-child-init
loop-child-init g c = drop_none c.args.order (word_at c.args.children.now) (fresh_at c.args.children.now) _

pub loop-child-preserved : goal.loop-child-preserved
loop-child-preserved g c = drop_step c.args.order (word_at c.args.children.now) (fresh_at c.args.children.now) _ _ _ c.loop-child.child-index c.loop-child-test.true c.loop-child.invariant c.drop_fresh.ensures

pub returns : goal.returns
returns g c = drop_all c.args.order (word_at c.args.children.now) (fresh_at c.args.children.now) _ _ c.loop-child.child-index c.loop-child-test.false c.loop-child.auto.child-index-end c.loop-child.invariant
