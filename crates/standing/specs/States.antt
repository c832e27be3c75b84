-- What a canvas holds, whatever its store is.
--
--   State      the blocks of its store, its table of snapshots, the order of making, the sheet's size and the head
--   root_word  the word that leads to the root block of a snapshot; 0 where there is none
--   root_of    that of the snapshot with a number
--   cell_of    the word of a cell of a snapshot, as its tree holds it in the blocks' words
--   verdict    the numbers of the first ground of refusal that holds, or none
--   stopped    the numbers by which a call was refused, or none
use Rattle.std.specs.Prelude.{ℕ, List, Some, None, Ok, Err, Option, Result}
use Rattle.block.specs.Blocks.{Blocks}
use Rattle.rules.specs.Cells.{depth}
use Rattle.rules.specs.Refusals.{Ground, first, numbers}
use Rattle.forest.specs.Trees.{child, lookup}
use Rattle.calls.specs.Refusals.{numbers_of}
use Rattle.calls.specs.declared.refusals.Refusal.{Refusal}
use Rattle.calls.specs.declared.shapes.Size.{Size}
use Rattle.table.specs.Tables.{at}
use Rattle.table.specs.declared.records.Snapshot.{Snapshot}

pub record State : Type 0 where
  pub blocks : Blocks
  pub snapshots : List (Option Snapshot)
  -- the numbers of the live snapshots, the one made first at the front
  pub made : List ℕ
  -- none before start
  pub size : Option Size
  pub head : ℕ

abbrev pub root_word : Option Snapshot → ℕ
root_word None = 0
root_word (Some p) = p.root.word

abbrev pub root_of : List (Option Snapshot) → ℕ → ℕ
root_of ss s = root_word (at ss s)

-- of the snapshot s, at the index i of the tree t
abbrev pub cell_of : State → ℕ → ℕ → ℕ → ℕ
cell_of c s t i = lookup c.blocks (depth t) (child c.blocks (root_of c.snapshots s) t) i

abbrev pub verdict : List Ground → Option (List ℕ)
verdict gs = elim (first gs) [ None ↦ None | Some r ↦ Some (numbers r) ]

abbrev pub stopped : {A : Type 0} → Result A Refusal → Option (List ℕ)
stopped (Ok x) = None
stopped (Err e) = Some (numbers_of e)
