-- How many blocks a history has out.
--
--   last edit   of a stretch on a line: the last edit of the line that changed a cell of the stretch
--   mark        a stretch with the place of its last edit on some line
--   count       the live snapshots, and the marks of all live lines, each once
--   left        what the count leaves of the store's blocks
use Rattle.std.specs.Prelude.{ℕ, zero, suc, ◌+◌, ◌-◌, Bool, cond, not, ◌&&◌, List, [], ◌∷◌, ◌++◌, map, length, ◌==◌}
use Rattle.std.specs.List.{filter, flat_map, list_any}
use Rattle.rules.specs.Lists.{distinct}
use Rattle.rules.specs.Sheets.{Sheet, draw, blank_sheet}
use Rattle.rules.specs.Stretches.{Stretch, same_stretch, touched, touches}
use Rattle.history.specs.Histories.{Entry, History, line_of}

-- a later place, or else this edit's if it touches the stretch, or else none
abbrev pub or_this : Bool → ℕ → ℕ → ℕ
or_this touched place zero = cond touched (suc place) 0
or_this touched place (suc later) = suc later

-- the last of some edits, drawn in order on a sheet, that touches a stretch: its place plus 1, or 0 where none does
abbrev pub last_from : ℕ → ℕ → Sheet → List Entry → Stretch → ℕ
last_from w h s [] q = 0
last_from w h s (e ∷ es) q = or_this (touches w h e.edit s q) e.place (last_from w h (draw w h e.edit s) es q)

-- the last edit of a stretch on the line of a live snapshot
abbrev pub last_of : History → ℕ → Stretch → ℕ
last_of h s q = last_from h.width h.height blank_sheet (line_of s h) q

pub record Mark : Type 0 where
  pub stretch : Stretch
  pub place : ℕ

abbrev pub same_mark : Mark → Mark → Bool
same_mark a b = same_stretch a.stretch b.stretch && a.place == b.place

abbrev pub mark : ℕ → Stretch → Mark
mark place q = record { stretch = q; place = place }

-- the stretches that edits touch, drawn in order on a sheet
abbrev pub touched_by : ℕ → ℕ → List Entry → Sheet → List Stretch
touched_by w h [] s = []
touched_by w h (e ∷ es) s = touched w h e.edit s ++ touched_by w h es (draw w h e.edit s)

-- the marks of edits drawn in order on a sheet: what each touches and no later one does
abbrev pub marks : ℕ → ℕ → List Entry → Sheet → List Mark
marks w h [] s = []
marks w h (e ∷ es) s =
    let next = draw w h e.edit s in
    let later = touched_by w h es next in
    map (mark e.place) (filter (λ q. not (list_any (same_stretch q) later)) (touched w h e.edit s)) ++ marks w h es next

-- the marks of all live lines, each once
abbrev pub all_marks : History → List Mark
all_marks h = distinct same_mark (flat_map (λ p. marks h.width h.height p.line blank_sheet) h.live)

abbrev pub count : History → ℕ
count h = length h.live + length (all_marks h)

-- of n blocks
abbrev pub left_of : ℕ → History → ℕ
left_of n h = n - count h
