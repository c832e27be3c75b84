-- Small runs and views: each call beside its answer, and each view beside its bytes.
--
--   broad    a black pen of side 3
--   rubber   an opaque pen of side 1 that erases
use Rattle.std.specs.Prelude.{ℕ, ◌≡◌, true, false, List, [], ◌∷◌, map, replicate, None, Some}
use Rattle.rules.specs.Dots.{over, erase, blank}
use Rattle.rules.specs.Pens.{Pen, first_pen, black}
use Rattle.rules.specs.Sheets.{stroke, fill, frisket, layer}
use Rattle.rules.specs.Bytes.{colour, mask, header, row_bytes, written}
use Rattle.history.specs.Histories.{sheet_of}
use Rattle.history.specs.Calls.{Call, start, edit, undo, redo, go, forget, ask_head, ask_left, ask_parent, ask_dot, ask_flat, ask_protected, ask_record, ask_inked, ask_box, open_view, Answer, done, refused, number, number_or_none, dot, truth, rectangle, view}
use Rattle.history.specs.Runs.{run, answers}
use Rattle.worked.specs.Table.{short_stroke}

-- over n blocks the calls of a table are answered as it says
abbrev pub Answered : ℕ → List (Call × Answer) → Type 0
Answered n table = answers n (map (λ r. r.0) table) ≡ map (λ r. r.1) table

abbrev pub broad : Pen
broad = record { ink = black; side = 3; rule = over }

abbrev pub rubber : Pen
rubber = record { ink = black; side = 1; rule = erase }

-- nine blocks suffice for start, a layer and the short stroke; eight do not
abbrev pub Nine : Type 0
Nine = Answered 9 ((start 6 1, done) ∷ (edit 1 (layer 0 255), done) ∷ (edit 2 short_stroke, done) ∷ (ask_left, number 0) ∷ [])

abbrev pub Eight : Type 0
Eight =
    Answered 8
    ((start 6 1, done) ∷ (edit 1 (layer 0 255), done) ∷ (edit 2 short_stroke, refused (20 ∷ 1 ∷ [])) ∷ (ask_left, number 5) ∷ (ask_head, number 1) ∷ [])

-- refusals, in their order
abbrev pub Refusals : Type 0
Refusals =
    Answered 100
    ((ask_head, refused (10 ∷ []))
    ∷ (start 0 5, refused (12 ∷ []))
    ∷ (start 257 5, refused (12 ∷ []))
    ∷ (start 3 3, done)
    ∷ (start 3 3, refused (11 ∷ []))
    ∷ (edit 0 short_stroke, refused (14 ∷ []))
    ∷ (edit 64 short_stroke, refused (14 ∷ []))
    ∷ (edit 1 short_stroke, refused (16 ∷ []))
    ∷ (edit 1 (layer 8 0), refused (16 ∷ []))
    ∷ (edit 63 (layer 0 200), done)
    ∷ (edit 63 (layer 8 0), refused (14 ∷ []))
    ∷ (edit 2 (layer 0 200), refused (19 ∷ []))
    ∷ (edit 2 (stroke 0 first_pen []), refused (17 ∷ []))
    ∷ (edit 2 (stroke 0 first_pen ((3, 0) ∷ [])), refused (17 ∷ []))
    ∷ (edit 2 (stroke 0 first_pen (replicate 65 (0, 0))), refused (17 ∷ []))
    ∷ (edit 2 (stroke 0 first_pen (replicate 64 (0, 0))), done)
    ∷ (edit 3 (stroke 0 first_pen ((0, 0) ∷ [])), refused (19 ∷ []))
    ∷ (edit 3 (fill 1 first_pen (0, 0)), refused (16 ∷ []))
    ∷ (edit 3 (fill 0 first_pen (0, 3)), refused (17 ∷ []))
    ∷ (edit 3 (frisket true (0, 0) (0, 3)), refused (17 ∷ []))
    ∷ (edit 3 (frisket false (0, 0) (2, 2)), refused (19 ∷ []))
    ∷ (redo, refused (21 ∷ []))
    ∷ (forget 2, refused (21 ∷ []))
    ∷ (forget 0, refused (21 ∷ []))
    ∷ (forget 9, refused (15 ∷ []))
    ∷ (go 9, refused (15 ∷ []))
    ∷ (undo, done)
    ∷ (undo, done)
    ∷ (undo, refused (21 ∷ []))
    ∷ (ask_dot 2 1 (9, 9), refused (16 ∷ []))
    ∷ (ask_dot 2 0 (9, 9), refused (17 ∷ []))
    ∷ (ask_record 0 0, refused (16 ∷ []))
    ∷ (ask_record 63 0, number_or_none (Some 200))
    ∷ (open_view 9 mask, refused (15 ∷ []))
    ∷ (open_view 2 mask, view 2 3 3 mask)
    ∷ [])

-- redo goes to the child made latest, not to the one visited last; forgetting moves children up
abbrev pub Redone : Type 0
Redone =
    Answered 100
    ((start 4 4, done)
    ∷ (edit 1 (layer 0 255), done)
    ∷ (edit 2 (frisket true (0, 0) (0, 0)), done)
    ∷ (undo, done)
    ∷ (edit 3 (frisket true (1, 1) (0, 0)), done)
    ∷ (go 2, done)
    ∷ (undo, done)
    ∷ (redo, done)
    ∷ (ask_head, number 3)
    ∷ (go 0, done)
    ∷ (forget 1, done)
    ∷ (ask_parent 2, number_or_none (Some 0))
    ∷ (ask_parent 3, number_or_none (Some 0))
    ∷ (ask_parent 0, number_or_none None)
    ∷ (redo, done)
    ∷ (ask_head, number 3)
    ∷ (ask_protected 3 (1, 1), truth true)
    ∷ (ask_protected 2 (1, 1), truth false)
    ∷ [])

-- a fill stays inside a ring, or outside it; boxes, flat dots, and ink rubbed out
abbrev pub Fills : Type 0
Fills =
    Answered 100
    ((start 5 5, done)
    ∷ (edit 1 (layer 0 255), done)
    ∷ (ask_box 1 0, rectangle None)
    ∷ (edit 2 (stroke 0 first_pen ((1, 1) ∷ (3, 1) ∷ (3, 3) ∷ (1, 3) ∷ (1, 1) ∷ [])), done)
    ∷ (ask_inked 2, number 8)
    ∷ (ask_box 2 0, rectangle (Some ((1, 1), (3, 3))))
    ∷ (edit 3 (fill 0 broad (2, 2)), done)
    ∷ (ask_inked 3, number 9)
    ∷ (go 2, done)
    ∷ (edit 4 (fill 0 broad (0, 0)), done)
    ∷ (ask_inked 4, number 24)
    ∷ (ask_box 4 0, rectangle (Some ((0, 0), (4, 4))))
    ∷ (ask_dot 4 0 (2, 2), dot blank)
    ∷ (ask_flat 4 (0, 0), dot black)
    ∷ (go 1, done)
    ∷ (edit 5 (stroke 0 broad ((0, 0) ∷ [])), done)
    ∷ (ask_inked 5, number 4)
    ∷ (edit 6 (stroke 0 rubber ((1, 1) ∷ [])), done)
    ∷ (ask_inked 6, number 3)
    ∷ [])

-- a mask of two dots, and its header; a colour header; a mask row of nine dots with the last two protected; a blank
-- dot on paper; and what a longer buffer holds behind it
abbrev pub Bytes : Type 0
Bytes =
    (header mask 2 1 ∷ row_bytes mask 2 (sheet_of 0 (run 9 ((start 2 1) ∷ []))) 0
    ∷ header colour 256 10
    ∷ row_bytes mask 9 (sheet_of 1 (run 9 (start 9 1 ∷ edit 1 (frisket true (7, 0) (8, 0)) ∷ []))) 0
    ∷ row_bytes colour 1 (sheet_of 0 (run 9 (start 1 1 ∷ []))) 0
    ∷ written (255 ∷ 255 ∷ 255 ∷ []) (1 ∷ 2 ∷ 3 ∷ 4 ∷ 5 ∷ [])
    ∷ [])
    ≡ (80 ∷ 52 ∷ 10 ∷ 50 ∷ 32 ∷ 49 ∷ 10 ∷ []) ∷ (0 ∷ [])
    ∷ (80 ∷ 54 ∷ 10 ∷ 50 ∷ 53 ∷ 54 ∷ 32 ∷ 49 ∷ 48 ∷ 10 ∷ 50 ∷ 53 ∷ 53 ∷ 10 ∷ [])
    ∷ (1 ∷ 128 ∷ [])
    ∷ (255 ∷ 255 ∷ 255 ∷ [])
    ∷ (255 ∷ 255 ∷ 255 ∷ 4 ∷ 5 ∷ [])
    ∷ []
