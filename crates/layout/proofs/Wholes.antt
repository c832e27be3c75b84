-- Blocks laid in memory are those of a store.
use Rattle.std.proofs.Common.{ℕ, List, arith}
use Rattle.std.proofs.lemmas.Bool.Decides.{nat_tests}
use Rattle.block.specs.Blocks.{Whole}
use Rattle.layout.specs.Layout.{laid, Fits}

pub laid_whole : (ws hs : List ℕ) → Fits (laid ws hs) → Whole (laid ws hs)
laid_whole ws hs f = record {
  few = omega arith;
  beyond = λ b l. grind (arith, nat_tests);
  held = f.0;
  wide = λ b i l. grind (arith, nat_tests);
  blank = λ b i e. grind (arith, nat_tests);
  fits = f.1;
}
