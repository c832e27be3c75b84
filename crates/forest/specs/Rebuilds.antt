-- What the steps of a rebuild promise one another. A stretch a of order k has the word p before and q after; m is before and n after.
--
--   number a ds    the number with the digits ds behind a
--   Reads          each cell of q is the plan's new word of that of p
--   Stay           the positions of the blocks that are out stay
--   Moves          the balance goes over, with the caller as the one holder of q where it is fresh
--   Shape          stretch by stretch: a block that was free where a cell changes, and the old one elsewhere
--   Done           the stretch was rebuilt
--   Counted        it took as many blocks as are needed
--   Undone         it was begun and let go again
--   Why            why it was refused
--   Dropped        the fresh ones of sixteen stretches were let go
use Rattle.std.specs.Prelude.{◌≡◌, ℕ, zero, suc, ◌+◌, ◌*◌, ◌<◌, ◌≤◌, Bool, true, false, cond, List, [], ◌∷◌, length}
use Rattle.std.specs.List.{AllByRecursion}
use Rattle.block.specs.Blocks.{Blocks, sum_to, free_count}
use Rattle.block.specs.declared.refusals.Refusal.{Refusal}
use Rattle.block.specs.declared.refusals.Refusal.TheVariants.{NoneFree, NotOut, TooMany, NoWord}
use Rattle.forest.specs.Trees.{look, child}
use Rattle.forest.specs.Balance.{hold, Label, node, Points, Balanced}
use Rattle.forest.specs.Frames.{Fewer, Grown, Live}
use Rattle.forest.specs.Plans.{changes, needed}

abbrev pub number : ℕ → List ℕ → ℕ
number a [] = a
number a (d ∷ ds) = number (a * 16 + d) ds

abbrev pub Reads : (ℕ → ℕ → ℕ) → Blocks → Blocks → ℕ → ℕ → ℕ → ℕ → Type 0
Reads new m n k p a q = (ds : List ℕ) → length ds ≡ k → AllByRecursion (λ (d : ℕ). d < 16) ds → look n q ds ≡ new (number a ds) (look m p ds)

abbrev pub Stay : Blocks → (ℕ → Label) → (ℕ → Label) → Type 0
Stay m label other = (c : ℕ) → 0 < m.holders c → other c ≡ label c

abbrev pub Moves : Blocks → Blocks → ℕ → ℕ → ℕ → ℕ → Bool → Type 0
Moves m n k p a q fresh = (deep : ℕ → ℕ) (t : ℕ) (label : ℕ → Label) (outside : ℕ → ℕ) → Balanced deep m label outside → Points label (node t k a) p → (other : ℕ → Label) × Balanced deep n other (λ c. cond fresh (hold k q c) 0 + outside c) × Points other (node t k a) q × Stay m label other

abbrev pub Shape : (ℕ → ℕ → ℕ) → Blocks → Blocks → ℕ → ℕ → ℕ → ℕ → Type 0
Shape new m n zero p a q = Unit {0}
Shape new m n (suc k) p a q = (changes new m (suc k) p a ≡ false → q ≡ p) × (changes new m (suc k) p a ≡ true → (b : ℕ) × (q ≡ suc b) × (m.holders b ≡ 0)) × ((i : ℕ) → i < 16 → Shape new m n k (child m p i) (a * 16 + i) (child n q i))

pub record Done (new : ℕ → ℕ → ℕ) (m n : Blocks) (k p a q : ℕ) (fresh : Bool) : Type 0 where
  pub same : fresh ≡ false → (n ≡ m) × (q ≡ p)
  pub grown : Grown m n
  pub live : Live n k q
  pub reads : Reads new m n k p a q
  pub balance : Moves m n k p a q fresh

pub record Counted (new : ℕ → ℕ → ℕ) (m n : Blocks) (k p a q : ℕ) (fresh : Bool) : Type 0 where
  pub marks : fresh ≡ changes new m k p a
  pub spent : free_count n + needed new m k p a ≡ free_count m
  pub shape : Shape new m n k p a q

-- as much is held from outside as before, and what is still out has its words
pub record Undone (m n : Blocks) (k p a : ℕ) : Type 0 where
  pub size : n.size ≡ m.size
  pub same : (b i : ℕ) → 0 < m.holders b → 0 < n.holders b → n.word b i ≡ m.word b i
  pub balance : (deep : ℕ → ℕ) (t : ℕ) (label : ℕ → Label) (outside : ℕ → ℕ) → Balanced deep m label outside → Points label (node t k a) p → (other : ℕ → Label) × Balanced deep n other outside × Stay m label other

abbrev pub Why : Refusal → (ℕ → ℕ → ℕ) → Blocks → ℕ → ℕ → ℕ → Type 0
Why NoneFree new m k p a = free_count m < needed new m k p a
Why TooMany new m k p a = (deep : ℕ → ℕ) (t : ℕ) (label : ℕ → Label) (outside : ℕ → ℕ) → Balanced deep m label outside → Points label (node t k a) p → (c : ℕ) × (65520 ≤ outside c + 16 * k + m.size)
Why NotOut new m k p a = ⊥
Why NoWord new m k p a = ⊥

pub record Dropped (k : ℕ) (words : ℕ → ℕ) (fresh : ℕ → Bool) (m n : Blocks) : Type 0 where
  pub fewer : Fewer m n
  pub balance : (deep : ℕ → ℕ) (t a : ℕ) (label : ℕ → Label) (outside : ℕ → ℕ) → Balanced deep m label (λ c. sum_to 16 (λ j. cond (fresh j) (hold k (words j) c) 0) + outside c) → ((j : ℕ) → j < 16 → fresh j ≡ true → Points label (node t k (a * 16 + j)) (words j)) → Balanced deep n label outside
