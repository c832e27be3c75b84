use Rattle.std.proofs.Common.{ℕ, List, ◌∷◌, Ok, sym, ap, ◌∙◌, subst, arith}
use Rattle.std.proofs.lemmas.Bool.{eq-eqb, cond-true}
use Rattle.block.proofs.Counts.{count_most}
use Rattle.block_slab.specs.Held as slabs
use Rattle.layout.proofs.Places.{freed, not_freed}
use Rattle.links.specs.Chain.{chain, Threads}
use Rattle.chain_store.specs.Order.{held, order}
use Rattle.links.proofs.Threading.{listed_released}
use Rattle.chain_store.proofs.Stores.{free_counted, freed_store}
use Rattle.chain_store.proofs.store_calls.ChainStoreBlockStore.release.Goals as goal

pub overflow_add-self : goal.overflow_add-self
overflow_add-self c = let s = c.args.self.now in omega (arith, free_counted s, count_most (held s))

pub invariant_of-self-then-branch : goal.invariant_of-self-then-branch
invariant_of-self-then-branch c =
    let s = c.args.self.now in
    let b = c.args.b in
    let told = c.in_ok-release.ensures in
    let link = c.link.ensures in
    let last = freed (held s) b (ap Ok (sym c.if-branch.true) ∙ told.answer) in
    record { threads = (freed_store s b c.release.new.self c.link.new.self last told.after told.words link.after link.words).threads }

pub invariant_of-self-else-branch : goal.invariant_of-self-else-branch
invariant_of-self-else-branch c =
    let s = c.args.self.now in
    let b = c.args.b in
    let told = c.in_ok-release.ensures in
    let more = not_freed (held s) b (ap Ok (sym c.if-branch.false) ∙ told.answer) in
    record {
      threads = subst (λ (ws : List ℕ). Threads (chain ws s.top s.free) (slabs.held c.release.new.self)) (sym told.words)
          (subst (Threads (order s)) (sym told.after) (listed_released (order s) (held s) b more s.threads));
    }

pub returns-then-branch-clause-order : goal.returns-then-branch-clause-order
returns-then-branch-clause-order c =
    let s = c.args.self.now in
    let b = c.args.b in
    let told = c.in_ok-release.ensures in
    let link = c.link.ensures in
    let last = freed (held s) b (ap Ok (sym c.if-branch.true) ∙ told.answer) in
    let f = freed_store s b c.release.new.self c.link.new.self last told.after told.words link.after link.words in
    f.pushed ∙ sym (cond-true _ (b ∷ order s) (order s) (eq-eqb ((held s).holders b) 1 last))
