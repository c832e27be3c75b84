use Rattle.std.proofs.Common.{◌≡◌, ◌-◌, ℕ, get_or, ap, ◌∙◌, arith}
use Rattle.block.specs.Calls.{released}
use Rattle.forest.proofs.Releases.{released_anyway}
use Rattle.rules.specs.Cells.{depth}
use Rattle.root.proofs.Words.{freed_more, freed_all, slot_at}
use Rattle.root.proofs.roots.Root.release.Goals as goal

pub loop-part-preserved : goal.loop-part-preserved
loop-part-preserved g c =
    let s = slot_at c.all-part-items.result c.loop-part.part-index c.part-item.result c.all-part-items.ensures c.loop-part-test.true in
    freed_more depth _ _ _ c.loop-part.part-index _ _ c.words_of-tops.result (ap (λ (v : ℕ). get_or c.words_of-tops.result v 0) (c.slot.ensures ∙ s)) (c.depth.ensures ∙ ap depth s) c.loop-part.invariant c.release-in-loop-part.ensures.after

pub returns : goal.returns
returns g c =
    let m = g.S.BlockStore.blocks c.args.store.now in
    let d : c.in-Some.b ≡ c.args.self.word - 1 = omega (arith, c.in-Some.ensures) in
    let r = released_anyway m _ c.in-Some.b c.release.result (g.S.BlockStore.whole c.args.store.now) c.release.ensures.answer c.release.ensures.after ∙ ap (released m) d in
    freed_all m _ _ c.args.self.word c.loop-part.part-index c.words_of-tops.result (omega (arith, c.in-Some.ensures)) (omega arith) c.words_of-tops.ensures r c.loop-part.invariant
