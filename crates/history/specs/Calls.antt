-- The calls: what each is refused for, in order, what it is answered, and what it does.
--
--   call      start, an edit, a move of the head, forget, or a question
--   grounds   the refusals of a call, in the order in which they are tried
--   answer    what a call returns: done, what was asked, or the numbers of the first ground that holds
--   step      the history after a call: unaltered where it is refused
use Rattle.std.specs.Prelude.{ℕ, Bool, true, false, cond, not, ◌&&◌, ◌||◌, List, [], ◌∷◌, ◌++◌, map, length, ◌==◌, nat_le, nat_lt, Option, None, Some}
use Rattle.std.specs.List.{filter, list_any}
use Rattle.rules.specs.Lists.{none_of}
use Rattle.rules.specs.Dots.{Dot}
use Rattle.rules.specs.Lines.{Point, on_sheet}
use Rattle.rules.specs.Sheets.{Sheet, Edit, stroke, fill, frisket, layer, changed}
use Rattle.rules.specs.Stretches.{need}
use Rattle.rules.specs.Pictures.{flat_dot, inked_count, box}
use Rattle.rules.specs.Bytes.{Kind}
use Rattle.rules.specs.Refusals.{Refusal, not_started, already_started, bad_size, store_in_use, bad_number, not_live, bad_layer, bad_points, no_change, no_blocks, nowhere, numbers, Ground, first}
use Rattle.history.specs.Histories.{Snapshot, History, started, is_live, first_snapshot, snapshot, line_of, sheet_of, stands_under, children, latest_child}
use Rattle.history.specs.Counts.{count, left_of}

-- an edit comes with the number for the snapshot that it makes; questions come last
pub data Call : Type 0 where
  start : (width height : ℕ) → Call
  edit : (number : ℕ) → Edit → Call
  undo : Call
  redo : Call
  go : (number : ℕ) → Call
  forget : (number : ℕ) → Call
  ask_size : Call
  ask_head : Call
  ask_left : Call
  ask_parent : (number : ℕ) → Call
  ask_dot : (number layer : ℕ) (p : Point) → Call
  ask_flat : (number : ℕ) (p : Point) → Call
  ask_protected : (number : ℕ) (p : Point) → Call
  ask_record : (number layer : ℕ) → Call
  ask_inked : (number : ℕ) → Call
  ask_box : (number layer : ℕ) → Call
  open_view : (number : ℕ) (kind : Kind) → Call

pub data Answer : Type 0 where
  done : Answer
  refused : List ℕ → Answer
  size : (width height : ℕ) → Answer
  number : ℕ → Answer
  number_or_none : Option ℕ → Answer
  dot : Dot → Answer
  truth : Bool → Answer
  rectangle : Option (Point × Point) → Answer
  view : (number width height : ℕ) (kind : Kind) → Answer

-- whether a width or a height is 1 to 256
abbrev pub good_length : ℕ → Bool
good_length n = nat_le 1 n && nat_le n 256

-- whether a number cannot be given to a new snapshot: it is 0, above 63, or live
abbrev pub number_taken : ℕ → History → Bool
number_taken s h = s == 0 || nat_lt 63 s || is_live s h

abbrev pub has_record : Sheet → ℕ → Bool
has_record s l = elim (s.opacity l) [ None ↦ false | Some o ↦ true ]

-- whether there is no such layer on a snapshot: it is above 7, or has no record
abbrev pub layer_missing : ℕ → ℕ → History → Bool
layer_missing s l h = nat_lt 7 l || not (has_record (sheet_of s h) l)

-- whether a point is outside the sheet
abbrev pub outside : History → Point → Bool
outside h p = not (on_sheet h.width h.height p)

-- whether the points of a stroke are none, more than 64, or not all on the sheet
abbrev pub points_wrong : List Point → History → Bool
points_wrong ps h = none_of ps || nat_lt 64 (length ps) || list_any (outside h) ps

-- whether an edit would change no cell of the head's sheet
abbrev pub changes_nothing : Edit → History → Bool
changes_nothing e h = none_of (changed h.width h.height e (sheet_of h.head h))

-- how many blocks an edit of the head needs
abbrev pub need_of : Edit → History → ℕ
need_of e h = need h.width h.height e (sheet_of h.head h)

-- whether that is more than is left of n
abbrev pub needs_more : ℕ → Edit → History → Bool
needs_more n e h = nat_lt (left_of n h) (need_of e h)

-- the grounds of an edit that lie in its layer and its points; a layer's record may be its first
abbrev pub edit_grounds : Edit → History → List Ground
edit_grounds (stroke l pen ps) h = (layer_missing h.head l h, bad_layer) ∷ (points_wrong ps h, bad_points) ∷ []
edit_grounds (fill l pen p) h = (layer_missing h.head l h, bad_layer) ∷ (outside h p, bad_points) ∷ []
edit_grounds (frisket protects a b) h = (outside h a || outside h b, bad_points) ∷ []
edit_grounds (layer l o) h = (nat_lt 7 l, bad_layer) ∷ []

-- the grounds of what is asked of a snapshot, of a layer of it and of a dot
abbrev pub of_snapshot : ℕ → History → List Ground
of_snapshot s h = (not (started h), not_started) ∷ (not (is_live s h), not_live) ∷ []

abbrev pub of_layer : ℕ → ℕ → History → Ground
of_layer s l h = (layer_missing s l h, bad_layer)

abbrev pub of_dot : Point → History → Ground
of_dot p h = (outside h p, bad_points)

-- what a call over n blocks is refused for, in order
abbrev pub grounds : ℕ → Call → History → List Ground
grounds n (start w t) h =
    (started h, already_started) ∷ (not (good_length w && good_length t), bad_size) ∷ (nat_lt 0 (count h), store_in_use) ∷ ((left_of n h == 0), no_blocks) ∷ []
grounds n (edit s e) h =
    ((not (started h), not_started) ∷ (number_taken s h, bad_number) ∷ []) ++ edit_grounds e h
    ++ ((changes_nothing e h, no_change) ∷ (needs_more n e h, no_blocks) ∷ [])
grounds n undo h = (not (started h), not_started) ∷ ((h.head == 0), nowhere) ∷ []
grounds n redo h = (not (started h), not_started) ∷ (none_of (children h), nowhere) ∷ []
grounds n (go s) h = of_snapshot s h
grounds n (forget s) h = of_snapshot s h ++ ((s == 0 || (s == h.head), nowhere) ∷ [])
grounds n ask_size h = (not (started h), not_started) ∷ []
grounds n ask_head h = (not (started h), not_started) ∷ []
grounds n ask_left h = (not (started h), not_started) ∷ []
grounds n (ask_parent s) h = of_snapshot s h
grounds n (ask_dot s l p) h = of_snapshot s h ++ (of_layer s l h ∷ of_dot p h ∷ [])
grounds n (ask_flat s p) h = of_snapshot s h ++ (of_dot p h ∷ [])
grounds n (ask_protected s p) h = of_snapshot s h ++ (of_dot p h ∷ [])
grounds n (ask_record s l) h = of_snapshot s h ++ (of_layer s l h ∷ [])
grounds n (ask_inked s) h = of_snapshot s h
grounds n (ask_box s l) h = of_snapshot s h ++ (of_layer s l h ∷ [])
grounds n (open_view s kind) h = of_snapshot s h

-- why a call is refused, or none
abbrev pub refusal : ℕ → Call → History → Option Refusal
refusal n c h = first (grounds n c h)

-- what a call that is not refused is answered; of a record that is the opacity
abbrev pub reply : ℕ → Call → History → Answer
reply n (start w t) h = done
reply n (edit s e) h = done
reply n undo h = done
reply n redo h = done
reply n (go s) h = done
reply n (forget s) h = done
reply n ask_size h = size h.width h.height
reply n ask_head h = number h.head
reply n ask_left h = number (left_of n h)
reply n (ask_parent s) h = number_or_none (snapshot s h).parent
reply n (ask_dot s l p) h = dot ((sheet_of s h).dot l p.0 p.1)
reply n (ask_flat s p) h = dot (flat_dot (sheet_of s h) p.0 p.1)
reply n (ask_protected s p) h = truth ((sheet_of s h).protected p.0 p.1)
reply n (ask_record s l) h = number_or_none ((sheet_of s h).opacity l)
reply n (ask_inked s) h = number (inked_count h.width h.height (sheet_of s h))
reply n (ask_box s l) h = rectangle (box h.width h.height (sheet_of s h) l)
reply n (open_view s kind) h = view s h.width h.height kind

-- what a call is answered
abbrev pub answer : ℕ → Call → History → Answer
answer n c h = elim (refusal n c h) [ None ↦ reply n c h | Some r ↦ refused (numbers r) ]

-- the history with another head
abbrev pub at_head : ℕ → History → History
at_head s h = record { width = h.width; height = h.height; head = s; live = h.live }

-- the head, or the number that is given
abbrev pub or_head : Option ℕ → History → ℕ
or_head None h = h.head
or_head (Some s) h = s

-- the snapshot that an edit at a place makes: it stands under the head, and its line is the head's with the edit added
abbrev pub made : ℕ → ℕ → Edit → History → Snapshot
made place s e h = record { number = s; parent = Some h.head; line = line_of h.head h ++ (record { place = place; edit = e } ∷ []) }

-- the history after an edit: the snapshot made becomes the head
abbrev pub edited : ℕ → ℕ → Edit → History → History
edited place s e h = record { width = h.width; height = h.height; head = s; live = h.live ++ (made place s e h ∷ []) }

-- a snapshot, moved under q if it stands under s
abbrev pub moved_up : ℕ → Option ℕ → Snapshot → Snapshot
moved_up s q p = cond (stands_under s p) (record { number = p.number; parent = q; line = p.line }) p

-- the history without snapshot s: its children stand under its parent, and their lines stay whole
abbrev pub forgotten : ℕ → History → History
forgotten s h = record {
  width = h.width;
  height = h.height;
  head = h.head;
  live = map (moved_up s (snapshot s h).parent) (filter (λ p. not (p.number == s)) h.live);
}

-- what a call that is not refused does, at its place among the calls; a question does nothing
abbrev pub carried_out : ℕ → Call → History → History
carried_out i (start w t) h = record { width = w; height = t; head = 0; live = first_snapshot ∷ [] }
carried_out i (edit s e) h = edited i s e h
carried_out i undo h = at_head (or_head (snapshot h.head h).parent h) h
carried_out i redo h = at_head (or_head (latest_child h) h) h
carried_out i (go s) h = at_head s h
carried_out i (forget s) h = forgotten s h
carried_out i ask_size h = h
carried_out i ask_head h = h
carried_out i ask_left h = h
carried_out i (ask_parent s) h = h
carried_out i (ask_dot s l p) h = h
carried_out i (ask_flat s p) h = h
carried_out i (ask_protected s p) h = h
carried_out i (ask_record s l) h = h
carried_out i (ask_inked s) h = h
carried_out i (ask_box s l) h = h
carried_out i (open_view s kind) h = h

-- what a call at a place does over n blocks
abbrev pub step : ℕ → ℕ → Call → History → History
step n i c h = elim (refusal n c h) [ None ↦ carried_out i c h | Some r ↦ h ]
