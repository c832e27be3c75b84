-- A canvas stands for a history.
--
--   Sized      the size that a canvas has is the history's, and it has none before start
--   Ordered    snapshots stand on a list in the order in which they were made
--   Inked      every edit of a line has a sound ink, or an opacity that is a byte
--   Kept       what a canvas holds after i calls over n blocks stands for a history
use Rattle.std.specs.Prelude.{◌≡◌, ℕ, ◌<◌, true, false, not, List, [], ◌∷◌, map, length, Some, None, Option, ◌==◌}
use Rattle.std.specs.List.{AllByRecursion}
use Rattle.rules.specs.Cells.{depth}
use Rattle.rules.specs.Sheets.{word_of}
use Rattle.rules.specs.DrawLaws.{SoundEdit}
use Rattle.history.specs.Histories.{Entry, Snapshot, History, started, is_live, sheet_of, last_place}
use Rattle.history.specs.Laws.{SoundHistory}
use Rattle.root.specs.Sheets.{places}
use Rattle.bridge.specs.Shows.{Shows, last_edits}
use Rattle.calls.specs.declared.shapes.Size.{Size}
use Rattle.table.specs.Tables.{parent_at}
use Rattle.standing.specs.States.{State, root_of}

abbrev pub Sized : Option Size → History → Type 0
Sized None h = started h ≡ false
Sized (Some z) h = (started h ≡ true) × (z.width ≡ h.width) × (z.height ≡ h.height)

-- the place of a snapshot's last edit is that of its making
abbrev pub Ordered : List Snapshot → Type 0
Ordered [] = Unit {0}
Ordered (p ∷ ps) = AllByRecursion (λ q. last_place p.line < last_place q.line) ps × Ordered ps

abbrev pub Inked : List Entry → Type 0
Inked es = AllByRecursion (λ e. SoundEdit e.edit) es

pub record Kept (n i : ℕ) (c : State) (h : History) : Type 0 where
  pub whole : c.blocks.size ≡ n
  pub full : length c.snapshots ≡ 64
  -- every cell of every snapshot is that of its line drawn in order, and blocks are shared just where the last edit is the same
  pub shows : Shows depth places c.blocks (root_of c.snapshots) (λ s. word_of (sheet_of s h)) (last_edits h)
  -- a number has a root block just where it is live
  pub live : (s : ℕ) → s < places → (root_of c.snapshots s == 0) ≡ not (is_live s h)
  pub parents : AllByRecursion (λ p. parent_at c.snapshots p.number ≡ p.parent) h.live
  pub made : c.made ≡ map (λ p. p.number) h.live
  pub size : Sized c.size h
  pub head : c.head ≡ h.head
  pub sound : SoundHistory n i h
  pub ordered : Ordered h.live
  pub inked : AllByRecursion (λ p. Inked p.line) h.live
