-- What rebuilding a tree and letting one go promise. The tree is the word p of order k; m is before and n after.
--
--   Rebuilt      the tree q is what the plan makes of the tree p
--   Refused      there are too few blocks, and nothing is altered
--   Released     one holder of the tree was let go
use Rattle.std.specs.Prelude.{◌≡◌, ℕ, ◌+◌, ◌^◌, ◌<◌, Bool, false, List, length}
use Rattle.block.specs.Blocks.{Blocks, free_count}
use Rattle.block.specs.declared.refusals.Refusal.{Refusal}
use Rattle.block.specs.declared.refusals.Refusal.TheVariants.{NoneFree}
use Rattle.forest.specs.Trees.{look, lookup}
use Rattle.forest.specs.Balance.{hold, Label, node, Points, Balanced}
use Rattle.forest.specs.Frames.{Live, Fewer, Grown}
use Rattle.forest.specs.Plans.{needed}
use Rattle.forest.specs.Rebuilds.{Moves, Shape}

-- `fresh` says whether q is a new tree; else it is p itself
pub record Rebuilt (new : ℕ → ℕ → ℕ) (m n : Blocks) (k p q : ℕ) (fresh : Bool) : Type 0 where
  -- every cell is the plan's new word of the old one
  pub cells : (i : ℕ) → i < 16 ^ k → lookup n k q i ≡ new i (lookup m k p i)
  -- every old tree looks up as before
  pub old : (j r : ℕ) → Live m j r → (ds : List ℕ) → length ds ≡ j → look n r ds ≡ look m r ds
  -- exactly so many blocks fewer are left
  pub spent : free_count n + needed new m k p 0 ≡ free_count m
  -- where no cell changes nothing is altered
  pub unchanged : fresh ≡ false → (n ≡ m) × (q ≡ p)
  pub balance : Moves m n k p 0 q fresh
  pub grown : Grown m n
  pub live : Live n k q
  -- stretch by stretch: a fresh block exactly where a cell changes, the old one elsewhere
  pub shape : Shape new m n k p 0 q

-- of a balanced store, in which each block has fewer than 49,000 pointers from outside: the refusal is for want of blocks, and nothing else
pub record Refused (new : ℕ → ℕ → ℕ) (m n : Blocks) (k p : ℕ) (e : Refusal) : Type 0 where
  pub restored : (deep : ℕ → ℕ) (t : ℕ) (label : ℕ → Label) (outside : ℕ → ℕ) → Balanced deep m label outside → Points label (node t k 0) p → n ≡ m
  pub short : (deep : ℕ → ℕ) (t : ℕ) (label : ℕ → Label) (outside : ℕ → ℕ) → Balanced deep m label outside → Points label (node t k 0) p → ((b : ℕ) → outside b < 49000) → (e ≡ NoneFree) × (free_count m < needed new m k p 0)

pub record Released (m n : Blocks) (k p : ℕ) : Type 0 where
  pub fewer : Fewer m n
  -- the pointer to the tree is gone from outside, and the store is balanced without it
  pub balance : (deep : ℕ → ℕ) (t a : ℕ) (label : ℕ → Label) (outside : ℕ → ℕ) → Balanced deep m label (λ c. hold k p c + outside c) → Points label (node t k a) p → Balanced deep n label outside
