-- Holders and words still fit their cells after a call.
use Rattle.std.proofs.Common.{ℕ, ◌^◌, ◌<◌, arith}
use Rattle.std.proofs.lemmas.Bool.Decides.{nat_tests}
use Rattle.block.specs.Blocks.{Blocks}
use Rattle.block.specs.Calls.{written, kept, released, taken}
use Rattle.layout.specs.Layout.{Fits}

pub fits_written : (m : Blocks) (b i w : ℕ) → w < 2 ^ 32 → Fits m → Fits (written m b i w)
fits_written m b i w l f = (f.0, λ c j. let x = f.1 c j in grind (arith, nat_tests))

pub fits_kept : (m : Blocks) (b : ℕ) → m.holders b < 65535 → Fits m → Fits (kept m b)
fits_kept m b l f = ((λ c. let x = f.0 c in grind (arith, nat_tests)), f.1)

pub fits_released : (m : Blocks) (b : ℕ) → Fits m → Fits (released m b)
fits_released m b f = ((λ c. let x = f.0 c in let y = f.0 b in grind (arith, nat_tests)), λ c j. let x = f.1 c j in grind (arith, nat_tests))

pub fits_taken : (m : Blocks) (b : ℕ) → Fits m → Fits (taken m b)
fits_taken m b f = ((λ c. let x = f.0 c in grind (arith, nat_tests)), λ c j. let x = f.1 c j in grind (arith, nat_tests))
