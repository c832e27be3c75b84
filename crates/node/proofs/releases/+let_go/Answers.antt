use Rattle.std.proofs.Common.{◌≡◌, ℕ, ◌-◌, fold, sym, ap, ◌∙◌, arith}
use Rattle.std.proofs.lemmas.List.{at_drop_all}
use Rattle.std.proofs.lemmas.Bool.{eqb-true, eqb-false}
use Rattle.block.specs.Blocks.{Blocks}
use Rattle.block.specs.Calls.{released}
use Rattle.forest.specs.Trees.{let_go, words}
use Rattle.forest.proofs.Releases.{released_flat, released_null, released_last, released_more, released_leaf, released_anyway}
use Rattle.node.proofs.releases.+let_go.Goals as goal
use Rattle.node.proofs.releases.+let_go.Goals.{else-below-gt0-via-then-below-gt0+else-held_once, else-below-gt0-via-else-below-gt0}

pub returns-in_default : goal.returns-in_default
returns-in_default g t c = let e : c.args.word ≡ 0 = omega (arith, c.in_default.ensures') in rw e (sym (released_null c.args.order _))

pub returns-in_default-2 : goal.returns-in_default-2
returns-in_default-2 g t c = let e : c.args.order ≡ 0 = omega arith in rw e (sym (released_flat _ c.args.word))

pub returns-after-loop-child : goal.returns-after-loop-child
returns-after-loop-child g t c =
    let k = c.in-Some-Some.below in
    let ws = c.words_of-children.result in
    let m = g.S.BlockStore.blocks c.args.store.now in
    let e = at_drop_all (fold (let_go k) (g.S.BlockStore.blocks c.loop-child.store)) ws c.loop-child.child-index (omega arith) in
    let d : c.in-Some-Some.b ≡ c.args.word - 1 = omega (arith, c.in-Some-Some.ensures') in
    let r = released_anyway m _ c.in-Some-Some.b c.release.result (g.S.BlockStore.whole c.args.store.now) c.release.ensures.answer c.release.ensures.after ∙ ap (released m) d in
    let a = ap (λ (n : Blocks). fold (let_go k) n ws) r in
    let b = ap (fold (let_go k) (released m (c.args.word - 1))) c.words_of-children.ensures in
    let o = sym (ap m.holders d) ∙ eqb-true _ _ (sym c.held_once.ensures ∙ c.if-held_once.true) in
    let q : k ≡ c.args.order - 1 = omega (arith, c.in-Some-Some.ensures) in
    sym e ∙ c.loop-child.invariant ∙ a ∙ b ∙ ap (λ (j : ℕ). fold (let_go j) (released m (c.args.word - 1)) (words m c.args.word)) q ∙ sym (released_last c.args.order c.args.word m (omega (arith, c.in-Some-Some.ensures)) (omega (arith, c.in-Some-Some.ensures')) o)

pub returns-else-below-gt0 : goal.returns-else-below-gt0
returns-else-below-gt0 g t c =
    let m = g.S.BlockStore.blocks c.args.store.now in
    let d : c.in-Some-Some.b ≡ c.args.word - 1 = omega (arith, c.in-Some-Some.ensures') in
    let r = released_anyway m _ c.in-Some-Some.b c.release-else-below-gt0.result (g.S.BlockStore.whole c.args.store.now) c.release-else-below-gt0.ensures.answer c.release-else-below-gt0.ensures.after ∙ ap (released m) d in
    r ∙ sym (elim c.else-below-gt0.branch [
      | else-below-gt0-via-then-below-gt0+else-held_once w ↦ released_more c.args.order c.args.word m (omega (arith, c.in-Some-Some.ensures)) (omega (arith, c.in-Some-Some.ensures')) (λ h. eqb-false _ _ (sym w.held_once.ensures ∙ w.if-held_once.false) (ap m.holders d ∙ h))
      | else-below-gt0-via-else-below-gt0 w ↦ let o : c.args.order ≡ 1 = omega (arith, c.in-Some-Some.ensures) in rw o (released_leaf c.args.word m (omega (arith, c.in-Some-Some.ensures')))
    ])
