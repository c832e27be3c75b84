use Rattle.std.proofs.Common.{◌≡◌, ℕ, ◌<◌, get_or, replicate, refl, arith}
use Rattle.std.proofs.lemmas.List.{get_or-replicate}
use Rattle.layout.proofs.Makings.{laid_free, free_fits}
use Rattle.ring_store.proofs.store.RingStore.new.Goals as goal

zeros : (k : ℕ) → k < 128 → ◌≡◌ {A = ℕ} (get_or (replicate 128 0) k 0) 0
zeros k l = get_or-replicate 128 k 0 0 l

pub invariant_of-result : goal.invariant_of-result
invariant_of-result c = record { full = refl; all = refl; near = omega arith; fits = free_fits (replicate 2048 0) (replicate 128 0) (replicate 128 0) refl zeros }

pub returns-clause-after : goal.returns-clause-after
returns-clause-after c = laid_free (replicate 2048 0) (replicate 128 0) (replicate 128 0) refl zeros
