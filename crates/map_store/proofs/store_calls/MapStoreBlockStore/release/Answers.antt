use Rattle.std.proofs.Common.{Ok, sym, ap, ◌∙◌, subst}
use Rattle.block_slab.specs.Held.{held}
use Rattle.layout.proofs.Places.{not_freed}
use Rattle.marks.specs.Map.{Marks}
use Rattle.marks.proofs.Marked.{shared_marks}
use Rattle.map_store.proofs.store_calls.MapStoreBlockStore.release.Goals as goal

pub invariant_of-self-else-branch-clause-marks : goal.invariant_of-self-else-branch-clause-marks
invariant_of-self-else-branch-clause-marks c =
    let s = c.args.self.now in
    let told = c.in_ok-release.ensures in
    let more = not_freed (held s.slab) c.args.b (ap Ok (sym c.if-branch.false) ∙ told.answer) in
    subst (Marks s.map.words) (sym told.after) (shared_marks s.map.words (held s.slab) c.args.b s.marks more)
