-- What a table of snapshots says.
--
--   at ss s          the snapshot with the number s, if the table has one
--   parent_at ss s   the number of the one that it stands under
--   under            whether a snapshot stands under the one with a number
--   moved_up         a snapshot, moved under another parent if it stands under s
--   but s            whether a number is another than s
--   last_under       the last number on a list whose snapshot stands under the one with the number s
use Rattle.std.specs.Prelude.{ℕ, Bool, false, cond, not, List, [], ◌∷◌, Some, None, Option, ◌==◌, slice_index_or}
use Rattle.std.specs.Option.{option_or}
use Rattle.table.specs.declared.records.Snapshot.{Snapshot}

abbrev pub at : List (Option Snapshot) → ℕ → Option Snapshot
at ss s = slice_index_or ss s None

abbrev pub parent_of : Option Snapshot → Option ℕ
parent_of None = None
parent_of (Some p) = p.parent

abbrev pub parent_at : List (Option Snapshot) → ℕ → Option ℕ
parent_at ss s = parent_of (at ss s)

abbrev pub is_number : ℕ → Option ℕ → Bool
is_number s None = false
is_number s (Some p) = p == s

abbrev pub under : ℕ → Snapshot → Bool
under s p = is_number s p.parent

abbrev pub moved_up : ℕ → Option ℕ → Snapshot → Snapshot
moved_up s up p = record { root = p.root; parent = cond (under s p) up p.parent }

abbrev pub but : ℕ → ℕ → Bool
but s q = not (q == s)

abbrev pub last_under : List (Option Snapshot) → ℕ → List ℕ → Option ℕ
last_under ss s [] = None
last_under ss s (q ∷ qs) = option_or (last_under ss s qs) (cond (is_number s (parent_at ss q)) (Some q) None)
