-- The balance of holders: each block that is out stands at one position, and has as many holders as there are pointers to it.
--
--   hit w b          1 where the word w leads to the block b
--   hold k w b       the same of a word of order k: at order 0 it is a cell's, and leads nowhere
--   Label            a position: a snapshot's root, or a stretch of one of its trees
--   below            the position that slot i of a block leads to
--   leads            1 where a word at a position leads to the block b
--   from             how many pointers to the block b there are in the block c
--   Points           what a word at a position leads to stands at that position
--   Balanced         the balance: `outside b` is how many pointers to b there are outside the store
use Rattle.std.specs.Prelude.{◌≡◌, ℕ, zero, suc, ◌+◌, ◌*◌, ◌<◌, cond, ◌==◌}
use Rattle.block.specs.Blocks.{Blocks, Whole, sum_to}

abbrev pub hit : ℕ → ℕ → ℕ
hit w b = cond (w == suc b) 1 0

abbrev pub hold : ℕ → ℕ → ℕ → ℕ
hold zero w b = 0
hold (suc k) w b = hit w b

-- `node t k q`: in the tree t, the stretch of order k whose indices have the quotient q by 16 ^ k
pub data Label : Type 0 where
  root : Label
  node : ℕ → ℕ → ℕ → Label

-- `deep t` is the depth of the tree t
abbrev pub below : (ℕ → ℕ) → Label → ℕ → Label
below deep root i = node i (deep i) 0
below deep (node t zero q) i = node t zero q
below deep (node t (suc k) q) i = node t k (q * 16 + i)

abbrev pub leads : Label → ℕ → ℕ → ℕ
leads root w b = hit w b
leads (node t k q) w b = hold k w b

-- `label c` is the position of the block c
unfoldable pub from : (ℕ → ℕ) → Blocks → (ℕ → Label) → ℕ → ℕ → ℕ
from deep m label b c = sum_to 16 (λ i. leads (below deep (label c) i) (m.word c i) b)

abbrev pub Points : (ℕ → Label) → Label → ℕ → Type 0
Points label l w = (b : ℕ) → 0 < leads l w b → label b ≡ l

pub record Balanced (deep : ℕ → ℕ) (m : Blocks) (label : ℕ → Label) (outside : ℕ → ℕ) : Type 0 where
  pub whole : Whole m
  pub counted : (b : ℕ) → m.holders b ≡ outside b + sum_to m.size (from deep m label b)
  pub ordered : (c i : ℕ) → Points label (below deep (label c) i) (m.word c i)
