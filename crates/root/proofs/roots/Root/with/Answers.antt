use Rattle.std.proofs.Common.{◌<◌, arith, rules}
use Rattle.std.proofs.lemmas.Result.{err_from_is_err_and}
use Rattle.root.specs.Parts.{slot}
use Rattle.root.proofs.Words.{kept_made, root_filled, root_blocked, slot_low}
use Rattle.root.proofs.roots.Root.with.Goals as goal

pub returns-in_err-word : goal.returns-in_err-word
returns-in_err-word g c =
    let e = err_from_is_err_and c.from_residual.result c.from_residual.ensures.1 in
    let old = kept_made _ _ _ c.args.self.word c.from_fn-children.result (λ i y q l k. (search rules, search rules)) c.from_fn-children.ensures.items in
    let t : slot c.args.part < 16 = omega (arith, slot_low c.args.part) in
    let f = rw c.slot.ensures at c.in_err-word.ensures in
    rw (e.1, e.2) (f.0, root_blocked _ c.args.self.word (slot c.args.part) c.args.new.top c.from_fn-children.result (g.S.BlockStore.whole c.args.store.now) old t _ f.1)

pub returns : goal.returns
returns g c =
    let old = kept_made _ _ _ c.args.self.word c.from_fn-children.result (λ i y q l k. (search rules, search rules)) c.from_fn-children.ensures.items in
    let t : slot c.args.part < 16 = omega (arith, slot_low c.args.part) in
    let f = rw c.slot.ensures at c.in_ok-word.ensures in
    (f.0, root_filled _ c.args.self.word (slot c.args.part) c.args.new.top c.from_fn-children.result (g.S.BlockStore.whole c.args.store.now) old t _ _ f.1)
