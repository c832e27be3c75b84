-- What is true of balanced stores and of tables of snapshots on them.
--
--   NeverTooMany      no block has more holders than pointers from outside and blocks, and in a table of snapshots no more than there are blocks;
--                       so no `keep` is refused for too many
--   AllReached         every block that is out is reached from outside
--   AllFree            where nothing is held from outside, every block is free
--   NeedCounted        a need is the number of stretches, of every order from 1 on, that hold a cell which gets another word
--   OthersStay         letting one snapshot go leaves every other's words, cells and table
--   NewBesideOld      a new snapshot leaves every other's words and cells; it has fresh blocks where a cell changed, and shares the rest
--   BlocksCounted      as many blocks are out as there are snapshots and different words at each stretch
--   CountTheorem       as many blocks are out as the snapshots' last edits say
--   RoomTold           an edit finds its blocks just where the count after it is at most the size
use Rattle.std.specs.Prelude.{◌≡◌, ℕ, suc, ◌+◌, ◌-◌, ◌*◌, ◌^◌, ◌<◌, ◌≤◌, Bool, false, ◌≢◌, ◌↔◌, Ok}
use Rattle.block.specs.Blocks.{Blocks, Whole, sum_to, free_count}
use Rattle.block.specs.Calls.{keep_answer}
use Rattle.forest.specs.Trees.{child, lookup}
use Rattle.forest.specs.Balance.{Label, node, Balanced}
use Rattle.forest.specs.Reach.{Reached}
use Rattle.forest.specs.Plans.{any_to, differs, needed}
use Rattle.forest.specs.Fills.{Filled}
use Rattle.forest.specs.Promises.{Rebuilt}
use Rattle.count.specs.Uses.{used}
use Rattle.count.specs.Paths.{path, Stands}
use Rattle.count.specs.Tally.{bit, live, distinct, all_stretches, Last, tally, Tied}
use Rattle.count.specs.Steps.{put, changed_by, edited, Later, Renewed, gone}

pub record NeverTooMany : Type 0 where
  pub few : (deep : ℕ → ℕ) (m : Blocks) (label : ℕ → Label) (outside : ℕ → ℕ) → Balanced deep m label outside → (b : ℕ) → m.holders b ≤ outside b + m.size
  pub table : (deep : ℕ → ℕ) (n : ℕ) (m : Blocks) (label : ℕ → Label) (roots : ℕ → ℕ) → Stands deep n m label roots → (b : ℕ) → m.holders b ≤ m.size
  pub keeps : (deep : ℕ → ℕ) (m : Blocks) (label : ℕ → Label) (outside : ℕ → ℕ) → Balanced deep m label outside → (b : ℕ) → outside b < 49000 → 0 < m.holders b → keep_answer m b ≡ Ok tt

abbrev pub AllReached : Type 0
AllReached = (deep : ℕ → ℕ) (m : Blocks) (label : ℕ → Label) (outside : ℕ → ℕ) → Balanced deep m label outside → (b : ℕ) → 0 < m.holders b → Reached deep m label outside b

abbrev pub AllFree : Type 0
AllFree = (deep : ℕ → ℕ) (m : Blocks) (label : ℕ → Label) (outside : ℕ → ℕ) → Balanced deep m label outside → ((b : ℕ) → outside b ≡ 0) → (b : ℕ) → m.holders b ≡ 0

-- order i + 1, quotient q, and c from the first to the last cell of that stretch
abbrev pub NeedCounted : Type 0
NeedCounted = (new : ℕ → ℕ → ℕ) (m : Blocks) (k p : ℕ) → needed new m k p 0 ≡ sum_to k (λ i. sum_to (16 ^ (k - suc i)) (λ q. bit (any_to (16 ^ suc i) (λ c. differs new (q * 16 ^ suc i + c) (lookup m k p (q * 16 ^ suc i + c))))))

pub record OthersStay : Type 0 where
  pub paths : (deep : ℕ → ℕ) (n : ℕ) (m : Blocks) (label : ℕ → Label) (roots : ℕ → ℕ) → Stands deep n m label roots → (x b : ℕ) → x < n → roots x ≡ suc b → (s : ℕ) → s < n → s ≢ x → (l : Label) → path deep (gone deep m b 16) (roots s) l ≡ path deep m (roots s) l
  pub stands : (deep : ℕ → ℕ) (n : ℕ) (m : Blocks) (label : ℕ → Label) (roots : ℕ → ℕ) → Stands deep n m label roots → (x b : ℕ) → x < n → roots x ≡ suc b → Stands deep n (gone deep m b 16) label (put x 0 roots)

-- the snapshot x is made from the snapshot h by a plan for the tree t: from m the tree q was built, which left u, and then the root block b, which left o
pub record Newly (deep : ℕ → ℕ) (n : ℕ) (m u o : Blocks) (label : ℕ → Label) (roots : ℕ → ℕ) (new : ℕ → ℕ → ℕ) (h x t q b : ℕ) (fresh : Bool) : Type 0 where
  pub stands : Stands deep n m label roots
  pub head : h < n
  pub place : x < n
  pub vacant : roots x ≡ 0
  pub tree : t < 16
  pub some : 0 < deep t
  pub rebuilt : Rebuilt new m u (deep t) (child m (roots h) t) q fresh
  pub filled : Filled u o 1 b (put t q (child m (roots h))) (put t fresh (λ _. false))
  pub whole : Whole o

pub record NewBesideOld : Type 0 where
  pub paths : (deep : ℕ → ℕ) (n : ℕ) (m u o : Blocks) (label : ℕ → Label) (roots : ℕ → ℕ) (new : ℕ → ℕ → ℕ) (h x t q b : ℕ) (fresh : Bool) → Newly deep n m u o label roots new h x t q b fresh → (s : ℕ) → s < n → (l : Label) → path deep o (roots s) l ≡ path deep m (roots s) l
  pub stands : (deep : ℕ → ℕ) (n : ℕ) (m u o : Blocks) (label : ℕ → Label) (roots : ℕ → ℕ) (new : ℕ → ℕ → ℕ) (h x t q b : ℕ) (fresh : Bool) → Newly deep n m u o label roots new h x t q b fresh → (other : ℕ → Label) × Stands deep n o other (put x (suc b) roots)
  pub shares : (deep : ℕ → ℕ) (n : ℕ) (m u o : Blocks) (label : ℕ → Label) (roots : ℕ → ℕ) (new : ℕ → ℕ → ℕ) (h x t q b : ℕ) (fresh : Bool) → Newly deep n m u o label roots new h x t q b fresh → Renewed deep m o (roots h) (suc b) (changed_by deep new m (roots h) t)

abbrev pub BlocksCounted : Type 0
BlocksCounted = (deep : ℕ → ℕ) (n : ℕ) (m : Blocks) (label : ℕ → Label) (roots : ℕ → ℕ) → Stands deep n m label roots → used m ≡ live n roots + all_stretches deep (λ t k q. distinct n (λ s. path deep m (roots s) (node t (suc k) q)))

abbrev pub CountTheorem : Type 0
CountTheorem = (deep : ℕ → ℕ) (n : ℕ) (m : Blocks) (label : ℕ → Label) (roots : ℕ → ℕ) → Stands deep n m label roots → (last : Last) → Tied deep n m roots last → used m ≡ tally deep n roots last

abbrev pub RoomTold : Type 0
RoomTold = (deep : ℕ → ℕ) (n : ℕ) (m : Blocks) (label : ℕ → Label) (roots : ℕ → ℕ) (last : Last) (x h t r place : ℕ) (new : ℕ → ℕ → ℕ) → Stands deep n m label roots → Tied deep n m roots last → x < n → h < n → t < 16 → roots x ≡ 0 → r ≢ 0 → Later n last place → (suc (needed new m (deep t) (child m (roots h) t) 0) ≤ free_count m) ↔ (tally deep n (put x r roots) (edited last x h (changed_by deep new m (roots h) t) place) ≤ m.size)
