-- The block of a snapshot at a position, and tables of snapshots.
--
--   down m w j q    the word of the stretch q that lies j orders below the stretch with the word w; 0 if there is none
--   path            the word of a snapshot at a position: p leads to the snapshot's root block
--   held_by         how many snapshots of a table have the block b for their root
--   Stands          a table of n places stands on the blocks m: `roots s` is 0 where there is no snapshot s, or else leads to its root block
use Rattle.std.specs.Prelude.{◌≡◌, ℕ, zero, suc, ◌-◌, ◌/◌, ◌%◌, ◌<◌, ◌≢◌}
use Rattle.block.specs.Blocks.{Blocks, sum_to}
use Rattle.forest.specs.Trees.{child}
use Rattle.forest.specs.Balance.{hit, Label, root, node, Points, Balanced}

abbrev pub down : Blocks → ℕ → ℕ → ℕ → ℕ
down m w zero zero = w
down m w zero (suc q) = 0
down m w (suc j) q = child m (down m w j (q / 16)) (q % 16)

-- at order 0 it is the cell's word
abbrev pub path : (ℕ → ℕ) → Blocks → ℕ → Label → ℕ
path deep m p root = p
path deep m p (node t k q) = down m (child m p t) (deep t - k) q

abbrev pub held_by : ℕ → (ℕ → ℕ) → ℕ → ℕ
held_by n roots b = sum_to n (λ s. hit (roots s) b)

pub record Stands (deep : ℕ → ℕ) (n : ℕ) (m : Blocks) (label : ℕ → Label) (roots : ℕ → ℕ) : Type 0 where
  -- outside the store there are the snapshots' pointers to their roots, and no others
  pub balance : Balanced deep m label (held_by n roots)
  pub rooted : (s : ℕ) → s < n → Points label root (roots s)
  -- a root block has no word where there is no tree
  pub bare : (s j : ℕ) → s < n → deep j ≡ 0 → child m (roots s) j ≡ 0
  -- no two snapshots have one root block
  pub apart : (s r : ℕ) → s < n → r < n → roots s ≡ roots r → roots s ≢ 0 → s ≡ r
