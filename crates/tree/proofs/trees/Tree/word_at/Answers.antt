use Rattle.std.proofs.Common.{ℕ, ◌-◌, ◌/◌, ◌%◌, ◌<◌, sym, ap, ◌∙◌, arith}
use Rattle.forest.specs.Trees.{child, lookup}
use Rattle.forest.proofs.Digits.{power}
use Rattle.forest.proofs.Lookups.{lookup_down}
use Rattle.tree.proofs.trees.Tree.word_at.Goals as goal

pub loop-order-preserved : goal.loop-order-preserved
loop-order-preserved g c =
    let m = g.S.BlockStore.blocks c.args.store.now in
    let k = c.loop-order.order - 1 in
    let h : 0 < c.loop-order.order = omega arith in
    ap (λ (x : ℕ). lookup m k x c.args.index) (rw c.from.ensures at c.child_of-word.ensures) ∙
    ap (λ (x : ℕ). lookup m k (child m c.loop-order.word ((c.args.index / x) % 16)) c.args.index) (power k) ∙
    sym (lookup_down m c.loop-order.order c.loop-order.word c.args.index h) ∙
    c.loop-order.invariant
