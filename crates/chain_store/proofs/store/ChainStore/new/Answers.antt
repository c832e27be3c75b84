use Rattle.std.proofs.Common.{◌≡◌, ℕ, ◌+◌, ◌*◌, ◌<◌, ◌≢◌, List, set, get_or, sym, ap, ◌∙◌, arith, below_more}
use Rattle.std.proofs.lemmas.List.{get_or-set_same, get_or-set_other}
use Rattle.std.proofs.lemmas.Bool.{lt-ltb, cond-true}
use Rattle.std.specs.List.{range_with_len}
use Rattle.block.specs.Blocks.{Blocks, all_free}
use Rattle.block_slab.specs.Held.{held}
use Rattle.layout.specs.Layout.{room}
use Rattle.layout.proofs.Layouts.{room_words}
use Rattle.links.proofs.Makings.{made_order, made_threads}
use Rattle.chain_store.proofs.store.ChainStore.new.Goals as goal

pub loop-b-preserved : goal.loop-b-preserved
loop-b-preserved c =
    let v = c.loop-b.invariant in
    let b = c.loop-b.b in
    let ws : List ℕ = c.loop-b.slab.words.now in
    let n = room c.args.words.now c.args.cells.now in
    let told = c.link.ensures in
    let size : room ws c.loop-b.slab.cells.now ≡ n = ap (λ (m : Blocks). m.size) v.free in
    let below : b < room ws c.loop-b.slab.cells.now = omega (arith, v.size, size) in
    let words : c.link.new.self.words.now ≡ set ws (16 * b) (b + 1) = told.words ∙ cond-true _ (set ws (16 * b) (b + 1)) ws (lt-ltb b _ below) in
    record {
      size = v.size;
      free = told.after (ap (λ (m : Blocks). m.holders b) v.free) ∙ v.free;
      stays = told.stays ∙ v.stays;
      links = λ k l. ap (λ (xs : List ℕ). get_or xs (16 * k) 0) words ∙ below_more _ _ (λ j m. let d : 16 * j ≢ 16 * b = omega arith in get_or-set_other ws (16 * b) (16 * j) (b + 1) 0 d ∙ v.links j m) (get_or-set_same ws (16 * b) (b + 1) 0 (omega (arith, room_words ws c.loop-b.slab.cells.now))) k l;
    }

pub invariant_of-result : goal.invariant_of-result
invariant_of-result c =
    let v = c.loop-b.invariant in
    let n = room c.args.words.now c.args.cells.now in
    record { threads = made_threads (held c.loop-b.slab) c.loop-b.slab.words.now c.size-size.result (v.free ∙ ap all_free (sym v.size)) (λ k l. v.links k (omega arith)) }

pub returns-clause-order : goal.returns-clause-order
returns-clause-order c =
    let v = c.loop-b.invariant in
    let n = room c.args.words.now c.args.cells.now in
    made_order (held c.loop-b.slab) c.loop-b.slab.words.now c.size-size.result (v.free ∙ ap all_free (sym v.size)) (λ k l. v.links k (omega arith)) ∙ ap (range_with_len 0) v.size
