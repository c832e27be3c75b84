use Rattle.std.proofs.Common.{ℕ, true, ◌∙◌, subst}
use Rattle.std.proofs.lemmas.Result.{err_from_is_err_and}
use Rattle.std.proofs.lemmas.Option.{MatchOption-at_none, MatchOption-at_some}
use Rattle.forest.specs.Promises.{Rebuilt, Released}
use Rattle.root.specs.Parts.{slot}
use Rattle.root.proofs.Words.{slot_low}
use Rattle.root.proofs.Edits.{edit_short, edit_same, here, root_made, root_short}
use Rattle.root.proofs.roots.Root.edit.Goals as goal

pub returns-in_err-new : goal.returns-in_err-new
returns-in_err-new g c =
    let p = err_from_is_err_and c.from_residual.result c.from_residual.ensures.1 in
    rw (p.1, p.2) (λ s. edit_short _ _ _ c.args.self.word (slot c.args.part) c.tree.result.depth c.tree.result.top s c.tree.ensures.depth c.tree.ensures.top _ c.in_err-new.ensures)

pub returns-in_default : goal.returns-in_default
returns-in_default g c = λ s. edit_same _ _ _ c.args.self.word (slot c.args.part) c.tree.result.depth c.tree.result.top s c.tree.ensures.depth c.tree.ensures.top (MatchOption-at_none _ _ c.in_default.is c.in_ok-new.ensures)

pub returns-in-Ok : goal.returns-in-Ok
returns-in-Ok g c = λ s.
    let new = g.P.Plan.new c.args.plan.now in
    let m = g.S.BlockStore.blocks c.args.store.now in
    let u = g.S.BlockStore.blocks c.rebuild.new.store in
    let r = MatchOption-at_some _ _ c.in-Some.new c.in-Some.is c.in_ok-new.ensures in
    let d = here new m u c.args.self.word (slot c.args.part) c.tree.result.depth c.tree.result.top s c.tree.ensures.depth c.tree.ensures.top (λ x y. Rebuilt new m u x y c.in-Some.new.top true) r.1 in
    let f = c.in-Ok.ensures in
    root_made new m u c.args.self.word (slot c.args.part) c.in-Some.new.top s (slot_low c.args.part) d _ c.in-Ok.root.word f.0 f.1 (g.S.BlockStore.whole c.with.new.store)

pub returns-in-Err : goal.returns-in-Err
returns-in-Err g c = λ s.
    let new = g.P.Plan.new c.args.plan.now in
    let m = g.S.BlockStore.blocks c.args.store.now in
    let u = g.S.BlockStore.blocks c.rebuild.new.store in
    let r = MatchOption-at_some _ _ c.in-Some.new c.in-Some.is c.in_ok-new.ensures in
    let d = here new m u c.args.self.word (slot c.args.part) c.tree.result.depth c.tree.result.top s c.tree.ensures.depth c.tree.ensures.top (λ x y. Rebuilt new m u x y c.in-Some.new.top true) r.1 in
    let f = c.in-Err.ensures in
    root_short new m u c.args.self.word (slot c.args.part) c.in-Some.new.top s (slot_low c.args.part) d _ _ c.in-Err.e f.0 f.1 (subst (λ (k : ℕ). Released (g.S.BlockStore.blocks c.with.new.store) (g.S.BlockStore.blocks c.release.new.store) k c.in-Some.new.top) (r.0 ∙ c.tree.ensures.depth) c.release.ensures.stays)
