-- Views: a header, then rows, each read from the snapshot that has the number when the row is called for.
--
--   view   the number, the sheet's size when it was opened, the kind, and how many rows were given
--   room   the length of the buffer that a header or a row is written to
use Rattle.std.specs.Prelude.{ℕ, suc, not, ◌&&◌, List, [], ◌∷◌, ◌++◌, length, ◌==◌, nat_le, nat_lt, Option, None, Some}
use Rattle.rules.specs.Bytes.{Kind, header, row_bytes}
use Rattle.rules.specs.Refusals.{Refusal, bad_size, nowhere, short_buffer, Ground, first}
use Rattle.history.specs.Histories.{History, sheet_of}
use Rattle.history.specs.Calls.{of_snapshot}

pub record View : Type 0 where
  pub number : ℕ
  pub width : ℕ
  pub height : ℕ
  pub kind : Kind
  pub rows : ℕ

-- a view as it is opened on a history
abbrev pub opened : ℕ → Kind → History → View
opened s kind h = record { number = s; width = h.width; height = h.height; kind = kind; rows = 0 }

-- the bytes of the header
abbrev pub header_of : View → List ℕ
header_of v = header v.kind v.width v.height

-- why a header is refused, or none; opening is refused as a question about the snapshot is
abbrev pub header_refusal : ℕ → View → Option Refusal
header_refusal room v = first ((nat_lt room (length (header_of v)), short_buffer) ∷ [])

-- the bytes of the next row
abbrev pub next_row : View → History → List ℕ
next_row v h = row_bytes v.kind v.width (sheet_of v.number h) v.rows

-- what the next row is refused for, in order
abbrev pub row_grounds : ℕ → View → History → List Ground
row_grounds room v h =
    of_snapshot v.number h
    ++ ((not (v.width == h.width && v.height == h.height), bad_size) ∷ (nat_le v.height v.rows, nowhere) ∷ (nat_lt room (length (next_row v h)), short_buffer) ∷ [])

abbrev pub row_refusal : ℕ → View → History → Option Refusal
row_refusal room v h = first (row_grounds room v h)

-- the view after a row was called for: one row more was given, or it is as it was
abbrev pub after_row : ℕ → View → History → View
after_row room v h = elim (row_refusal room v h) [
  | None ↦ record { number = v.number; width = v.width; height = v.height; kind = v.kind; rows = suc v.rows }
  | Some r ↦ v
]

-- what closing tells: the rows given; it refuses nothing
abbrev pub closed : View → ℕ
closed v = v.rows
