-- A new store: all blocks free, each linked to the next.
use Rattle.std.proofs.Common.{◌≡◌, ℕ, ◌+◌, ◌*◌, ◌<◌, List, get_or, sym, subst, arith}
use Rattle.std.specs.List.{range_with_len}
use Rattle.block.specs.Blocks.{Blocks, all_free}
use Rattle.links.specs.Chain.{chain, Threads}
use Rattle.links.proofs.Links.{chain_counting}
use Rattle.links.proofs.Threading.{listed_free}

-- the blocks m, of which there are n, are free, and ws has their links
module _ (m : Blocks) (ws : List ℕ) (n : ℕ) (free : m ≡ all_free n) (links : (k : ℕ) → k < n → get_or ws (16 * k) 0 ≡ k + 1) where
  pub made_order : chain ws 0 n ≡ range_with_len 0 n
  made_order = chain_counting ws 0 n (λ k _ l. links k (omega arith))

  pub made_threads : Threads (chain ws 0 n) m
  made_threads =
      subst (λ (os : List ℕ). Threads os m) (sym made_order)
      (subst (Threads (range_with_len 0 n)) (sym free) (listed_free n))
