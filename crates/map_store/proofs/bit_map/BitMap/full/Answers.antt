use Rattle.std.proofs.Common.{ℕ, ◌/◌, ◌^◌, ◌<◌, get_or, replicate, refl, inl, inr, arith}
use Rattle.std.proofs.lemmas.Bool.{cases_lt}
use Rattle.std.proofs.lemmas.List.{get_or-replicate, get_or_past, length-replicate}
use Rattle.marks.proofs.Marked.{word_full}
use Rattle.map_store.proofs.bit_map.BitMap.full.Goals as goal

wide : (k : ℕ) → get_or (replicate 512 4294967295) k 0 < 2 ^ 32
wide k =
    elim (cases_lt k 512) [
      | inl l ↦ omega (arith, get_or-replicate {A = ℕ} 512 k 4294967295 0 l)
      | inr l ↦ let e = get_or_past {X = ℕ} (replicate 512 4294967295) k 0 (omega (arith, length-replicate {A = ℕ} 512 4294967295)) in omega arith
    ]

pub invariant_of-result : goal.invariant_of-result
invariant_of-result c = record { long = refl; wide = wide }

pub returns : goal.returns
returns c k l = word_full (replicate 512 4294967295) (k / 32) k (get_or-replicate 512 (k / 32) 4294967295 0 (omega arith)) refl
