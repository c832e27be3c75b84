-- The blocks of a store show the cells of some snapshots, and are shared just where the last edits are the same.
--
--   cells s t i       the word of the cell at the index i of the tree t, on the snapshot s
--   Shows             a table of snapshots stands on the blocks, holds those cells, and shares blocks just where the last edits are
--   renewed_cells     the cells of a snapshot after a plan for one of its trees
--   alters            whether such a plan changes a cell of a stretch
--   stretch           a stretch, by its tree, its order and its quotient
--   last_edits        the last edits of a history's live snapshots
use Rattle.std.specs.Prelude.{◌≡◌, ℕ, ◌+◌, ◌*◌, ◌^◌, ◌<◌, Bool, false, cond, ◌==◌}
use Rattle.block.specs.Blocks.{Blocks}
use Rattle.forest.specs.Balance.{Label, node}
use Rattle.forest.specs.Plans.{any_to, differs}
use Rattle.count.specs.Paths.{path, Stands}
use Rattle.count.specs.Tally.{Last, Tied}
use Rattle.rules.specs.Stretches.{Stretch}
use Rattle.history.specs.Histories.{History}
use Rattle.history.specs.Counts.{last_of}

-- of n snapshots, the root block of each by its word; `deep t` is the depth of the tree t
pub record Shows (deep : ℕ → ℕ) (n : ℕ) (m : Blocks) (roots : ℕ → ℕ) (cells : ℕ → ℕ → ℕ → ℕ) (last : Last) : Type 0 where
  pub label : ℕ → Label
  pub stands : Stands deep n m label roots
  pub ties : Tied deep n m roots last
  pub reads : (s t i : ℕ) → s < n → t < 16 → 0 < deep t → i < 16 ^ deep t → path deep m (roots s) (node t 0 i) ≡ cells s t i

-- `new` is the plan
abbrev pub renewed_cells : ℕ → (ℕ → ℕ → ℕ) → (ℕ → ℕ → ℕ) → ℕ → ℕ → ℕ
renewed_cells tree new cells t i = cond (t == tree) (new i (cells t i)) (cells t i)

-- the stretch of the tree t, of the order k, with the quotient q
abbrev pub alters : ℕ → (ℕ → ℕ → ℕ) → (ℕ → ℕ → ℕ) → ℕ → ℕ → ℕ → Bool
alters tree new cells t k q = cond (t == tree) (any_to (16 ^ k) (λ i. differs new (q * 16 ^ k + i) (cells t (q * 16 ^ k + i)))) false

abbrev pub stretch : ℕ → ℕ → ℕ → Stretch
stretch t k q = record { tree = t; order = k; quotient = q }

abbrev pub last_edits : History → Last
last_edits h s t k q = last_of h s (stretch t k q)
