-- The list of the free numbers, after each call.
use Rattle.std.proofs.Common.{◌≡◌, ℕ, zero, suc, ◌<◌, ◌≢◌, List, ◌∷◌, length, get_or, sym, refl, ap, ◌∙◌, arith}
use Rattle.std.specs.List.{range_with_len}
use Rattle.std.proofs.lemmas.List.FromFn.{length-range_with_len, get_or-range_with_len}
use Rattle.std.proofs.lemmas.Bool.Decides.{nat_tests}
use Rattle.block.specs.Blocks.{Blocks, all_free}
use Rattle.block.specs.Calls.{written, kept, released, taken}
use Rattle.block.proofs.Counts.{count_written, count_kept, count_released, count_freed, count_taken, count_all_free}
use Rattle.links.specs.Chain.{Inside, Unheld, Apart, Threads}

-- a block that is out is not among them
pub not_listed : (os : List ℕ) (m : Blocks) (b : ℕ) → Unheld os m → 0 < m.holders b → (k : ℕ) → k < length os → get_or os k 0 ≢ b
not_listed os m b u h k l e = let x = u k l in let y = ap m.holders e in omega arith

pub listed_written : (os : List ℕ) (m : Blocks) (b i w : ℕ) → Threads os m → Threads os (written m b i w)
listed_written os m b i w t = record { inside = t.inside; unheld = t.unheld; apart = t.apart; counted = t.counted ∙ sym (count_written m b i w) }

pub listed_kept : (os : List ℕ) (m : Blocks) (b : ℕ) → 0 < m.holders b → Threads os m → Threads os (kept m b)
listed_kept os m b h t = record {
  inside = t.inside;
  unheld = λ k l. let d = not_listed os m b t.unheld h k l in let x = t.unheld k l in grind (arith, nat_tests);
  apart = t.apart;
  counted = t.counted ∙ sym (count_kept m b h);
}

pub listed_released : (os : List ℕ) (m : Blocks) (b : ℕ) → 1 < m.holders b → Threads os m → Threads os (released m b)
listed_released os m b h t = record {
  inside = t.inside;
  unheld = λ k l. let d = not_listed os m b t.unheld (omega arith) k l in let x = t.unheld k l in grind (arith, nat_tests);
  apart = t.apart;
  counted = t.counted ∙ sym (count_released m b h);
}

-- the block freed comes first
pub listed_freed : (os : List ℕ) (m : Blocks) (b : ℕ) → b < m.size → m.holders b ≡ 1 → Threads os m → Threads (b ∷ os) (released m b)
listed_freed os m b s h t = record {
  inside = ins;
  unheld = unh;
  apart = apt;
  counted = omega (arith, t.counted, count_freed m b s h);
}
  where
    out : 0 < m.holders b
    out = omega arith

    ins : Inside (b ∷ os) m
    ins zero l = s
    ins (suc k) l = t.inside k (omega arith)

    unh : Unheld (b ∷ os) (released m b)
    unh zero l = grind (arith, nat_tests)
    unh (suc k) l = let d = not_listed os m b t.unheld out k (omega arith) in let x = t.unheld k (omega arith) in grind (arith, nat_tests)

    apt : Apart (b ∷ os)
    apt zero zero l f e = omega arith
    apt zero (suc k) l f e = not_listed os m b t.unheld out k (omega arith) (sym e)
    apt (suc j) zero l f e = omega arith
    apt (suc j) (suc k) l f e = t.apart j k (omega arith) (omega arith) e

-- the first is taken
pub listed_taken : (os : List ℕ) (m : Blocks) (b : ℕ) → Threads (b ∷ os) m → Threads os (taken m b)
listed_taken os m b t = record {
  inside = λ k l. t.inside (suc k) (omega arith);
  unheld = λ k l. let d = t.apart 0 (suc k) (omega arith) (omega arith) in let x = t.unheld (suc k) (omega arith) in unh k d x;
  apart = λ j k l f e. t.apart (suc j) (suc k) (omega arith) (omega arith) e;
  counted = omega (arith, t.counted, count_taken m b (t.inside 0 (omega arith)) (t.unheld 0 (omega arith)));
}
  where
    unh : (k : ℕ) → (b ≡ get_or os k 0 → ⊥) → m.holders (get_or os k 0) ≡ 0 → (taken m b).holders (get_or os k 0) ≡ 0
    unh k d x = grind (arith, nat_tests)

-- all numbers in their order
pub listed_free : (n : ℕ) → Threads (range_with_len 0 n) (all_free n)
listed_free n = record {
  inside = λ k l. let x = get_or-range_with_len 0 n k 0 (omega (arith, length-range_with_len 0 n)) in omega (arith, x, length-range_with_len 0 n);
  unheld = λ k l. refl;
  apart = λ j k l f q.
      let x = get_or-range_with_len 0 n j 0 (omega (arith, length-range_with_len 0 n)) in
      let y = get_or-range_with_len 0 n k 0 (omega (arith, length-range_with_len 0 n)) in omega (arith, x, y, q);
  counted = length-range_with_len 0 n ∙ sym (count_all_free n);
}
