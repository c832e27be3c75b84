-- Histories: what the calls so far come to. No machine keeps one.
--
--   history    the sheet's size, the head, and the live snapshots
--   live       made, and not forgotten
--   snapshot   a number, a parent, and a line
--   line       the edits, in order, that a snapshot's sheet was drawn by
--   entry      an edit of a line, with its place among the calls: equal edits at two places are two
--   place      how many calls came before
--   head       the snapshot that the next edit works on
--   child      a snapshot stands under its parent; the child made latest has the last edit with the highest place
use Rattle.std.specs.Prelude.{ℕ, Bool, false, cond, not, List, [], ◌∷◌, map, ◌==◌, nat_eq, nat_lt, Option, None, Some}
use Rattle.std.specs.List.{filter, list_any}
use Rattle.rules.specs.Lists.{none_of}
use Rattle.rules.specs.Sheets.{Sheet, Edit, drawn}

pub record Entry : Type 0 where
  pub place : ℕ
  pub edit : Edit

-- only snapshot 0 has no parent
pub record Snapshot : Type 0 where
  pub number : ℕ
  pub parent : Option ℕ
  pub line : List Entry

-- before start no snapshot is live, and the other fields mean nothing
pub record History : Type 0 where
  pub width : ℕ
  pub height : ℕ
  pub head : ℕ
  pub live : List Snapshot

-- the history before any call
abbrev pub empty : History
empty = record { width = 0; height = 0; head = 0; live = [] }

abbrev pub started : History → Bool
started h = not (none_of h.live)

-- whether a number is that of a live snapshot
abbrev pub is_live : ℕ → History → Bool
is_live s h = list_any (λ p. nat_eq p.number s) h.live

-- snapshot 0, as it is made: a blank sheet
abbrev pub first_snapshot : Snapshot
first_snapshot = record { number = 0; parent = None; line = [] }

-- the snapshot with a number on a list, or else another
abbrev pub find : Snapshot → ℕ → List Snapshot → Snapshot
find other s [] = other
find other s (p ∷ ps) = cond (p.number == s) p (find other s ps)

-- the live snapshot with a number
abbrev pub snapshot : ℕ → History → Snapshot
snapshot s h = find first_snapshot s h.live

-- its line
abbrev pub line_of : ℕ → History → List Entry
line_of s h = (snapshot s h).line

-- a line drawn in order on a blank sheet
abbrev pub shown : ℕ → ℕ → List Entry → Sheet
shown w h es = drawn w h (map (λ e. e.edit) es)

-- the sheet of a live snapshot
abbrev pub sheet_of : ℕ → History → Sheet
sheet_of s h = shown h.width h.height (line_of s h)

-- the place of the last edit of a line
abbrev pub last_place : List Entry → ℕ
last_place [] = 0
last_place (e ∷ []) = e.place
last_place (e ∷ (f ∷ es)) = last_place (f ∷ es)

-- whether a snapshot stands under the one with a number
abbrev pub stands_under : ℕ → Snapshot → Bool
stands_under s p = elim p.parent [ None ↦ false | Some q ↦ nat_eq q s ]

-- of p and some others the one made latest
abbrev pub latest_from : Snapshot → List Snapshot → Snapshot
latest_from p [] = p
latest_from p (q ∷ qs) = latest_from (cond (nat_lt (last_place p.line) (last_place q.line)) q p) qs

-- of some snapshots the number of the one made latest, or none
abbrev pub latest : List Snapshot → Option ℕ
latest [] = None
latest (p ∷ ps) = Some (latest_from p ps).number

-- the snapshots that stand under the head, and the one of them made latest
abbrev pub children : History → List Snapshot
children h = filter (stands_under h.head) h.live

abbrev pub latest_child : History → Option ℕ
latest_child h = latest (children h)
