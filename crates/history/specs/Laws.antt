-- What is proved of histories and of runs.
use Rattle.std.specs.Prelude.{◌≡◌, ℕ, suc, ◌+◌, ◌<◌, ◌≤◌, T, ◌↔◌, List, [], ◌∷◌, ◌++◌, map, length, ◌==◌, ◌≢◌, nat_eq, None, Some}
use Rattle.std.specs.List.{AllByRecursion, list_any}
use Rattle.rules.specs.Lists.{Once}
use Rattle.rules.specs.Sheets.{Edit, blank_sheet}
use Rattle.rules.specs.Stretches.{Stretch, Proper}
use Rattle.rules.specs.DrawLaws.{Layered, Touches}
use Rattle.rules.specs.Refusals.{Refusal}
use Rattle.history.specs.Histories.{Entry, Snapshot, History, started, is_live, line_of, shown, last_place}
use Rattle.history.specs.Counts.{Mark, mark, same_mark, marks, all_marks, last_from, count, left_of}
use Rattle.history.specs.Calls.{Call, edit, Answer, answer, need_of, refusal, edited, step}
use Rattle.history.specs.Runs.{run, answers}
use Rattle.history.specs.Views.{View, header_of, header_refusal, next_row, row_refusal, after_row}

-- THE LAST EDIT OF A STRETCH

-- the edit stands on the line, changes a cell of the stretch, and no later edit of the line does
pub record LastTouch (w h : ℕ) (line : List Entry) (q : Stretch) (e : Entry) : Type 0 where
  pub before : List Entry
  pub later : List Entry
  pub stands : line ≡ before ++ (e ∷ later)
  pub touches : Touches w h e.edit (shown w h before) q
  pub last : (b a : List Entry) (f : Entry) → later ≡ b ++ (f ∷ a) → Touches w h f.edit (shown w h (before ++ (e ∷ b))) q → ⊥

-- every edit of the line names a layer from 0 to 7, or none
abbrev pub LineLayered : List Entry → Type 0
LineLayered es = AllByRecursion (λ e. Layered e.edit) es

-- every edit of the line was made before the call at place i
abbrev pub LineBefore : ℕ → List Entry → Type 0
LineBefore i es = AllByRecursion (λ e. e.place < i) es

-- the stretch of a mark is a proper one, and the edit at its place is the last of the line that changed a cell of it
pub record Marks (w h : ℕ) (line : List Entry) (m : Mark) : Type 0 where
  pub proper : Proper m.stretch
  pub entry : Entry
  pub place : m.place ≡ entry.place
  pub last : LastTouch w h line m.stretch entry

-- the marks of a line are exactly the last touches
abbrev pub MarksMean : Type 0
MarksMean = (w h : ℕ) (line : List Entry) (m : Mark) → w ≤ 256 → h ≤ 256 → LineLayered line
    → Marks w h line m ↔ T (list_any (same_mark m) (marks w h line blank_sheet))

-- a place is marked at a stretch exactly where it is that of the last edit
abbrev pub MarksLast : Type 0
MarksLast = (w h : ℕ) (line : List Entry) (q : Stretch) (p : ℕ) → list_any (same_mark (mark p q)) (marks w h line blank_sheet) ≡ (last_from w h blank_sheet line q == suc p)

-- WHAT HOLDS OF EVERY RUN

-- only snapshot 0 has no parent, and its line is empty; every other stands under a live one that was made before it
abbrev pub StandsWell : History → Snapshot → Type 0
StandsWell h p = elim p.parent [
  | None ↦ (p.number ≡ 0) × (p.line ≡ [])
  | Some q ↦ (p.number ≢ 0) × T (is_live q h) × (last_place (line_of q h) < last_place p.line)
]

-- a live snapshot after i calls
pub record SoundSnapshot (i : ℕ) (h : History) (p : Snapshot) : Type 0 where
  pub low : p.number ≤ 63
  pub before : LineBefore i p.line
  pub layered : LineLayered p.line
  pub stands : StandsWell h p

-- a history after i calls over n blocks
pub record SoundHistory (n i : ℕ) (h : History) : Type 0 where
  pub snapshots : AllByRecursion (SoundSnapshot i h) h.live
  -- no two live snapshots have one number
  pub once : Once nat_eq (map (λ p. p.number) h.live)
  pub begun : T (started h) → 1 ≤ i
  pub root : T (started h) → T (is_live 0 h)
  pub head : T (started h) → T (is_live h.head h)
  pub wide : h.width ≤ 256
  pub tall : h.height ≤ 256
  pub sized : T (started h) → (1 ≤ h.width) × (1 ≤ h.height)
  -- the count never passes the store's size
  pub fits : count h ≤ n

abbrev pub RunsSound : Type 0
RunsSound = (n : ℕ) (cs : List Call) → SoundHistory n (length cs) (run n cs)

-- the marks that are counted are those of the live lines, each once
pub record Counted (h : History) : Type 0 where
  pub once : Once same_mark (all_marks h)
  pub means : (m : Mark) → ((s : ℕ) × T (is_live s h) × Marks h.width h.height (line_of s h) m) ↔ T (list_any (same_mark m) (all_marks h))

abbrev pub RunsCounted : Type 0
RunsCounted = (n : ℕ) (cs : List Call) → Counted (run n cs)

-- an entry is the edit among the calls that was made at its place
pub record Made (cs : List Call) (e : Entry) : Type 0 where
  pub before : List Call
  pub number : ℕ
  pub later : List Call
  pub stands : cs ≡ before ++ (edit number e.edit ∷ later)
  pub place : e.place ≡ length before

abbrev pub RunsMade : Type 0
RunsMade = (n : ℕ) (cs : List Call) → AllByRecursion (λ p. AllByRecursion (Made cs) p.line) (run n cs).live

-- THE NEED

-- an edit of the head raises the count by exactly its need
abbrev pub TakesNeed : Type 0
TakesNeed = (h : History) (i s : ℕ) (e : Edit) → AllByRecursion (λ p. LineBefore i p.line) h.live → T (is_live h.head h)
    → count (edited i s e h) ≡ count h + need_of e h

-- over every run an accepted edit takes exactly its need of the blocks that are left
abbrev pub RunsTakeNeed : Type 0
RunsTakeNeed = (n : ℕ) (cs : List Call) (s : ℕ) (e : Edit) → refusal n (edit s e) (run n cs) ≡ None
    → left_of n (run n cs) ≡ left_of n (run n (cs ++ (edit s e ∷ []))) + need_of e (run n cs)

-- ANSWERS

-- each answer of a run is the one that the history of the calls before it gives
abbrev pub AnswersByHistory : Type 0
AnswersByHistory = (n : ℕ) (before : List Call) (c : Call) (rest : List Call)
    → (more : List Answer) × (answers n (before ++ (c ∷ rest)) ≡ answers n before ++ (answer n c (run n before) ∷ more))

-- a refused call leaves the history unaltered
abbrev pub RefusedKeeps : Type 0
RefusedKeeps = (n i : ℕ) (c : Call) (h : History) (r : Refusal) → refusal n c h ≡ Some r → step n i c h ≡ h

-- VIEWS

-- a header or a row that is not refused fits its buffer, and a row is one of the view's; a refused row leaves the view as it was
pub record ViewsFit : Type 0 where
  pub headers : (room : ℕ) (v : View) → header_refusal room v ≡ None → length (header_of v) ≤ room
  pub rows : (room : ℕ) (v : View) (h : History) → row_refusal room v h ≡ None → (length (next_row v h) ≤ room) × (v.rows < v.height)
  pub refused : (room : ℕ) (v : View) (h : History) (r : Refusal) → row_refusal room v h ≡ Some r → after_row room v h ≡ v
