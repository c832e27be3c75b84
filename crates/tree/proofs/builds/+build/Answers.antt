use Rattle.std.proofs.Common.{◌-◌, true, false, not, List, refl, ap, ◌∙◌, subst, arith, eq-eqb, ne_eqb, length-set}
use Rattle.std.proofs.lemmas.List.{set-get_or}
use Rattle.forest.specs.Rebuilds.{Dropped}
use Rattle.forest.proofs.Quiets.{done_quiet}
use Rattle.node.specs.declared.children.Child.{Child}
use Rattle.node.specs.declared.children.Child.TheVariants.{Kept}
use Rattle.node.specs.Children.{word_at, fresh_at}
use Rattle.node.proofs.Slots.{fresh_else}
use Rattle.tree.proofs.Parts.{none_fresh, cell_built, built_none, built_next, built_refused, built_same, built_filled, built_blocked}
use Rattle.tree.proofs.builds.+build.Goals as goal

pub returns-then-not-touches : goal.returns-then-not-touches
returns-then-not-touches g t c = λ v. done_quiet (g.P.Plan.new c.args.plan.now) (g.S.BlockStore.blocks c.args.store.now) c.args.stretch.order c.args.word c.args.stretch.at (c.touches.ensures c.if-not-touches.true) v

pub returns-then-new-word : goal.returns-then-new-word
returns-then-new-word g t c = λ v. cell_built _ (g.S.BlockStore.blocks c.args.store.now) c.args.stretch.order c.args.word c.args.stretch.at _ false c.if-stretch-eq0.true c.new_word-new.ensures (ap not (eq-eqb _ _ c.if-new-word.true))

pub returns-else-new-word : goal.returns-else-new-word
returns-else-new-word g t c = λ v. cell_built _ (g.S.BlockStore.blocks c.args.store.now) c.args.stretch.order c.args.word c.args.stretch.at _ true c.if-stretch-eq0.true c.new_word-new.ensures (ap not (ne_eqb _ _ c.if-new-word.false))

pub loop-i-init : goal.loop-i-init
loop-i-init g t c = (refl, (λ j l. none_fresh 16 j), λ v. built_none _ (g.S.BlockStore.blocks c.args.store.now) c.args.stretch.order c.args.word c.args.stretch.at _)

pub loop-i-preserved : goal.loop-i-preserved
loop-i-preserved g t c = (
  simp length-set c.loop-i.invariant.0,
  (λ j l. fresh_else c.loop-i.child-items c.loop-i.i c.in-Ok.built j (omega arith) ∙ c.loop-i.invariant.1 j (omega arith)),
  λ v. built_next _ _ _ _ _ _ c.loop-i.child-items c.loop-i.i c.if-stretch-eq0.false v (c.loop-i.invariant.2 v) _ _ _ _ c.in-Ok.built c.part-part.ensures.order c.part-part.ensures.at c.part-part.ensures.word (omega arith) c.in-Ok.ensures,
)

pub returns-in-Err : goal.returns-in-Err
returns-in-Err g t c = λ v.
    let d = subst (λ (cs : List Child). Dropped (c.args.stretch.order - 1) (word_at cs) (fresh_at cs) (g.S.BlockStore.blocks c.build.new.store) (g.S.BlockStore.blocks c.drop_fresh.new.store)) (set-get_or c.loop-i.child-items c.loop-i.i (Kept 0)) c.drop_fresh.ensures in
    built_refused _ _ _ _ _ _ c.loop-i.child-items c.loop-i.i c.if-stretch-eq0.false v (c.loop-i.invariant.2 v) _ _ _ _ _ c.in-Err.e c.part-part.ensures.order c.part-part.ensures.at c.part-part.ensures.word c.loop-i-test.true c.loop-i.invariant.1 c.in-Err.ensures d

pub returns-then-not-any_fresh : goal.returns-then-not-any_fresh
returns-then-not-any_fresh g t c = λ v. built_same _ _ _ _ _ _ c.loop-i.child-items c.loop-i.i c.if-stretch-eq0.false v (c.loop-i.invariant.2 v) (omega arith) _ c.any_fresh.ensures c.if-not-any_fresh.true

pub returns-in-Ok-fill : goal.returns-in-Ok-fill
returns-in-Ok-fill g t c = λ v. built_filled _ _ _ _ _ _ c.loop-i.child-items c.loop-i.i c.if-stretch-eq0.false v (c.loop-i.invariant.2 v) (omega arith) _ c.any_fresh.ensures _ c.in-Ok-fill.new c.if-not-any_fresh.false (g.S.BlockStore.whole c.fill.new.store) c.in-Ok-fill.ensures

pub returns-in-Err-fill : goal.returns-in-Err-fill
returns-in-Err-fill g t c = λ v. built_blocked _ _ _ _ _ _ c.loop-i.child-items c.loop-i.i c.if-stretch-eq0.false v (c.loop-i.invariant.2 v) (omega arith) _ c.any_fresh.ensures _ _ c.in-Err-fill.e c.if-not-any_fresh.false c.loop-i.invariant.1 c.in-Err-fill.ensures c.drop_fresh-in-Err-fill.ensures
