-- What holds of every store still holds after a call.
use Rattle.std.proofs.Common.{◌≡◌, ℕ, ◌^◌, ◌<◌, ap, inl, inr, arith}
use Rattle.std.proofs.lemmas.Bool.Decides.{nat_tests}
use Rattle.std.proofs.lemmas.Bool.{cases_lt, cases_eq}
use Rattle.block.specs.Blocks.{Blocks, Whole}
use Rattle.block.specs.Calls.{written, kept, released, taken}

-- what is out lies below the size
pub out_below : (m : Blocks) (b : ℕ) → Whole m → 0 < m.holders b → b < m.size
out_below m b v l = elim (cases_lt b m.size) [ inl h ↦ h | inr h ↦ absurd (omega (arith, v.beyond b h)) ]

pub written_whole : (m : Blocks) (b i w : ℕ) → Whole m → 0 < m.holders b → i < 16 → w < 2 ^ 32 → Whole (written m b i w)
written_whole m b i w v h l f = record {
  few = v.few;
  beyond = v.beyond;
  held = v.held;
  wide = λ c j k. let x = v.wide c j k in grind (arith, nat_tests);
  blank = λ c j e.
      elim (cases_eq c b) [
        | inl y ↦ let t = ap m.holders y in absurd (omega arith)
        | inr d ↦ let x = v.blank c j e in grind (arith, nat_tests)
      ];
  fits = λ c j. let x = v.fits c j in grind (arith, nat_tests);
}

pub kept_whole : (m : Blocks) (b : ℕ) → Whole m → 0 < m.holders b → m.holders b < 65535 → Whole (kept m b)
kept_whole m b v h l = record {
  few = v.few;
  beyond = λ c k. let x = v.beyond c k in let y = out_below m b v h in grind (arith, nat_tests);
  held = λ c. let x = v.held c in grind (arith, nat_tests);
  wide = v.wide;
  blank = λ c j e.
      elim (cases_eq c b) [
        | inl y ↦ absurd (let z : ◌≡◌ {A = ℕ} 0 1 = grind (arith, nat_tests) in omega arith)
        | inr d ↦ v.blank c j (grind (arith, nat_tests))
      ];
  fits = v.fits;
}

pub released_whole : (m : Blocks) (b : ℕ) → Whole m → Whole (released m b)
released_whole m b v = record {
  few = v.few;
  beyond = λ c k.
      elim (cases_eq c b) [
        | inl y ↦ let x = v.beyond c k in let t = ap m.holders y in grind (arith, nat_tests)
        | inr d ↦ let x = v.beyond c k in grind (arith, nat_tests)
      ];
  held = λ c. let x = v.held c in let y = v.held b in grind (arith, nat_tests);
  wide = λ c j k. let x = v.wide c j k in grind (arith, nat_tests);
  blank = λ c j e.
      elim (cases_eq c b) [
        | inl y ↦ grind (arith, nat_tests)
        | inr d ↦ let u : m.holders c ≡ 0 = grind (arith, nat_tests) in let x = v.blank c j u in grind (arith, nat_tests)
      ];
  fits = λ c j. let x = v.fits c j in grind (arith, nat_tests);
}

pub taken_whole : (m : Blocks) (b : ℕ) → Whole m → b < m.size → Whole (taken m b)
taken_whole m b v l = record {
  few = v.few;
  beyond = λ c k. let x = v.beyond c k in grind (arith, nat_tests);
  held = λ c. let x = v.held c in grind (arith, nat_tests);
  wide = λ c j k. let x = v.wide c j k in grind (arith, nat_tests);
  blank = λ c j e.
      elim (cases_eq c b) [
        | inl y ↦ grind (arith, nat_tests)
        | inr d ↦ let u : m.holders c ≡ 0 = grind (arith, nat_tests) in let x = v.blank c j u in grind (arith, nat_tests)
      ];
  fits = λ c j. let x = v.fits c j in grind (arith, nat_tests);
}
