use Rattle.std.proofs.Common.{ℕ, List, sym, subst}
use Rattle.block_slab.specs.Held as slabs
use Rattle.links.specs.Chain.{chain, Threads}
use Rattle.chain_store.specs.Order.{held, order}
use Rattle.chain_store.proofs.Stores.{kept_threads}
use Rattle.chain_store.proofs.store_calls.ChainStoreBlockStore.keep.Goals as goal

pub invariant_of-self : goal.invariant_of-self
invariant_of-self c =
    let s = c.args.self.now in
    let told = c.keep.ensures in
    record {
      threads = subst (λ (ws : List ℕ). Threads (chain ws s.top s.free) (slabs.held c.keep.new.self)) (sym told.words)
          (subst (Threads (order s)) (sym told.after) (kept_threads (order s) (held s) c.args.b c.keep.result told.answer s.threads));
    }
