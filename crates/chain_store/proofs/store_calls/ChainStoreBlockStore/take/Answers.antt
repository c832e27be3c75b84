use Rattle.std.proofs.Common.{◌≡◌, ℕ, ◌+◌, ◌*◌, cond, ltb, List, get_or, sym, ◌∙◌, ap₂, arith}
use Rattle.block.proofs.Counts.{none_left}
use Rattle.layout.specs.Layout.{room}
use Rattle.chain_store.specs.Order.{held}
use Rattle.chain_store.proofs.Stores.{free_counted, popped_store}
use Rattle.chain_store.proofs.store_calls.ChainStoreBlockStore.take.Goals as goal

pub returns-in_err-self-clause-after : goal.returns-in_err-self-clause-after
returns-in_err-self-clause-after c =
    let s = c.args.self.now in
    let none : s.free ≡ 0 = grind arith in
    grind (arith, none_left (held s) (sym (free_counted s) ∙ none))

pub invariant_of-self : goal.invariant_of-self
invariant_of-self c =
    let s = c.args.self.now in
    let n = c.in_ok-self.field-0 in
    let more : s.free ≡ n + 1 = grind arith in
    let next : c.linked-self.result ≡ cond (ltb s.top (held s).size) (get_or s.slab.words.now (16 * s.top) 0) 0 =
    c.linked-self.ensures ∙ ap₂ (λ (vs gs : List ℕ). cond (ltb s.top (room vs gs)) (get_or vs (16 * s.top) 0) 0) c.view.ensures.words c.view.ensures.cells in
    record { threads = (popped_store s c.linked-self.result n c.claim.new.self more next c.claim.ensures.after c.claim.ensures.cells).threads }

pub returns : goal.returns
returns c =
    let s = c.args.self.now in
    let n = c.in_ok-self.field-0 in
    let more : s.free ≡ n + 1 = grind arith in
    let next : c.linked-self.result ≡ cond (ltb s.top (held s).size) (get_or s.slab.words.now (16 * s.top) 0) 0 =
    c.linked-self.ensures ∙ ap₂ (λ (vs gs : List ℕ). cond (ltb s.top (room vs gs)) (get_or vs (16 * s.top) 0) 0) c.view.ensures.words c.view.ensures.cells in
    let p = popped_store s c.linked-self.result n c.claim.new.self more next c.claim.ensures.after c.claim.ensures.cells in
    record {
      after = record { below = p.below; was = p.was; is = p.after };
      stays = c.claim.ensures.stays;
      order = p.popped;
    }
