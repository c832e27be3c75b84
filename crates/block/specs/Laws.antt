-- What is true of the meaning of a store.
--
--   NumbersTell       a refusal is told by its number
--   OnlyNamed         no call alters a block that it does not name or pick
--   FreeCounted       `take` leaves one number fewer free, the last `release` one more, other calls as many; none is left exactly when all are out
--   CallsKeepWhole   what holds of every store still holds after each call
use Rattle.std.specs.Prelude.{◌≡◌, ℕ, ◌+◌, ◌^◌, ◌<◌, ◌≢◌}
use Rattle.block.specs.declared.refusals.Refusal.{Refusal}
use Rattle.block.specs.Refusals.{number, refusal}
use Rattle.block.specs.Blocks.{Blocks, Whole, free_count}
use Rattle.block.specs.Calls.{written, kept, released, taken}

abbrev pub NumbersTell : Type 0
NumbersTell = (e : Refusal) → refusal (number e) ≡ e

-- the block c is in n what it is in m
pub record SameAt (m n : Blocks) (c : ℕ) : Type 0 where
  pub holders : n.holders c ≡ m.holders c
  pub words : (i : ℕ) → n.word c i ≡ m.word c i

pub record OnlyNamed : Type 0 where
  pub put : (m : Blocks) (b i w c : ℕ) → c ≢ b → SameAt m (written m b i w) c
  pub keep : (m : Blocks) (b c : ℕ) → c ≢ b → SameAt m (kept m b) c
  pub release : (m : Blocks) (b c : ℕ) → c ≢ b → SameAt m (released m b) c
  pub take : (m : Blocks) (b c : ℕ) → c ≢ b → SameAt m (taken m b) c

pub record FreeCounted : Type 0 where
  pub put : (m : Blocks) (b i w : ℕ) → free_count (written m b i w) ≡ free_count m
  pub keep : (m : Blocks) (b : ℕ) → 0 < m.holders b → free_count (kept m b) ≡ free_count m
  pub release : (m : Blocks) (b : ℕ) → 1 < m.holders b → free_count (released m b) ≡ free_count m
  pub last : (m : Blocks) (b : ℕ) → b < m.size → m.holders b ≡ 1 → free_count (released m b) ≡ free_count m + 1
  pub take : (m : Blocks) (b : ℕ) → b < m.size → m.holders b ≡ 0 → free_count (taken m b) + 1 ≡ free_count m
  pub none : (m : Blocks) → free_count m ≡ 0 → (b : ℕ) → b < m.size → 0 < m.holders b
  pub all_out : (m : Blocks) → ((b : ℕ) → b < m.size → 0 < m.holders b) → free_count m ≡ 0

pub record CallsKeepWhole : Type 0 where
  pub put : (m : Blocks) (b i w : ℕ) → Whole m → 0 < m.holders b → i < 16 → w < 2 ^ 32 → Whole (written m b i w)
  pub keep : (m : Blocks) (b : ℕ) → Whole m → 0 < m.holders b → m.holders b < 65535 → Whole (kept m b)
  pub release : (m : Blocks) (b : ℕ) → Whole m → Whole (released m b)
  pub take : (m : Blocks) (b : ℕ) → Whole m → b < m.size → Whole (taken m b)
