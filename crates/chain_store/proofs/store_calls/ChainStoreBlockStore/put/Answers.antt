use Rattle.std.proofs.Common.{◌≡◌, ℕ, List, sym, ap, ◌∙◌, subst}
use Rattle.block_slab.specs.Held as slabs
use Rattle.links.specs.Chain.{chain, Threads}
use Rattle.chain_store.specs.Order.{held, order}
use Rattle.chain_store.proofs.Stores.{written_threads, put_chain}
use Rattle.chain_store.proofs.store_calls.ChainStoreBlockStore.put.Goals as goal

pub invariant_of-self : goal.invariant_of-self
invariant_of-self c =
    let s = c.args.self.now in
    let told = c.put.ensures in
    let ws = s.slab.words.now in
    let ws' = c.put.new.self.words.now in
    let same : chain ws' s.top s.free ≡ order s =
    ap (λ (x : List ℕ). chain x s.top s.free) told.words
    ∙ put_chain ws s.top s.free (held s) c.args.b c.args.i c.args.w c.put.result told.answer s.threads.unheld in
    record {
      threads = subst (λ (os : List ℕ). Threads os (slabs.held c.put.new.self)) (sym same)
          (subst (Threads (order s)) (sym told.after) (written_threads (order s) (held s) c.args.b c.args.i c.args.w c.put.result s.threads));
    }

pub returns-clause-order : goal.returns-clause-order
returns-clause-order c =
    let s = c.args.self.now in
    let told = c.put.ensures in
    ap (λ (x : List ℕ). chain x s.top s.free) told.words
    ∙ put_chain s.slab.words.now s.top s.free (held s) c.args.b c.args.i c.args.w c.put.result told.answer s.threads.unheld
