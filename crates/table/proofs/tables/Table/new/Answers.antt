use Rattle.std.proofs.Common.{◌≡◌, ℕ, zero, suc, None, get_or, replicate, refl}
use Rattle.table.proofs.tables.Table.new.Goals as goal

same_everywhere : {X : Type 0} (n s : ℕ) (v : X) → get_or (replicate n v) s v ≡ v
same_everywhere zero s v = refl
same_everywhere (suc n) zero v = refl
same_everywhere (suc n) (suc s) v = same_everywhere n s v

pub returns-clause-snapshots : goal.returns-clause-snapshots
returns-clause-snapshots c = λ s. same_everywhere 64 s None
