-- What is proved of edits and of drawn sheets.
use Rattle.std.specs.Prelude.{◌≡◌, ℕ, ◌/◌, ◌^◌, ◌<◌, ◌≤◌, Bool, false, not, T, ◌↔◌, List, [], ◌≢◌, nat_eq, Option, None, Some}
use Rattle.std.specs.List.{AllByRecursion, list_any}
use Rattle.rules.specs.Pictures.{inked, box, flat_dot}
use Rattle.rules.specs.Dots.{Sound, blank}
use Rattle.rules.specs.Cells.{depth}
use Rattle.rules.specs.Lines.{Point, on_sheet}
use Rattle.rules.specs.Pens.{Pen}
use Rattle.rules.specs.Sheets.{Sheet, Edit, stroke, fill, frisket, layer, draw, drawn, fills_through, word_of, tree_of, changed}
use Rattle.rules.specs.Stretches.{Stretch, Proper, touches}
use Rattle.rules.specs.Reach.{Reach, reached, listed}

-- the rounds of a fill find what is reached by steps, and nothing else
abbrev pub RoundsReach : Type 0
RoundsReach = (w h : ℕ) (through : ℕ → ℕ → Bool) (p : Point)
    → ((x y : ℕ) → T (through x y) → T (on_sheet w h (x, y)))
    → (x y : ℕ) → Reach through p.0 p.1 x y ↔ T (listed (reached w h through p) x y)

-- a fill sets the pen's ink on the dots that are reached, and alters no other dot of any layer
pub record Filled (w h : ℕ) (s : Sheet) (l : ℕ) (pen : Pen) (p : Point) : Type 0 where
  pub set : (x y : ℕ) → Reach (fills_through w h s l p) p.0 p.1 x y → (draw w h (fill l pen p) s).dot l x y ≡ pen.ink
  pub kept : (x y : ℕ) → (Reach (fills_through w h s l p) p.0 p.1 x y → ⊥) → (draw w h (fill l pen p) s).dot l x y ≡ s.dot l x y
  pub others : (k x y : ℕ) → (k ≢ l) → (draw w h (fill l pen p) s).dot k x y ≡ s.dot k x y

abbrev pub FillReaches : Type 0
FillReaches = (w h : ℕ) (s : Sheet) (l : ℕ) (pen : Pen) (p : Point) → Filled w h s l pen p

-- no edit alters a protected dot
abbrev pub ProtectedKept : Type 0
ProtectedKept = (w h : ℕ) (e : Edit) (s : Sheet) (l x y : ℕ) → T (s.protected x y) → (draw w h e s).dot l x y ≡ s.dot l x y

-- an edit whose ink is sound, or whose opacity is a byte
abbrev pub SoundEdit : Edit → Type 0
SoundEdit (stroke l pen ps) = Sound pen.ink
SoundEdit (fill l pen p) = Sound pen.ink
SoundEdit (frisket protects a b) = Unit {0}
SoundEdit (layer l o) = o ≤ 255

-- an opacity, if there is one, is a byte
abbrev pub ByteOrNone : Option ℕ → Type 0
ByteOrNone None = Unit {0}
ByteOrNone (Some o) = o ≤ 255

-- no dot has a colour above its alpha, layers or flat, and alphas and opacities are bytes
pub record SoundSheet (s : Sheet) : Type 0 where
  pub dots : (l x y : ℕ) → Sound (s.dot l x y)
  pub opacities : (l : ℕ) → ByteOrNone (s.opacity l)

-- drawing sound edits gives a sound sheet
abbrev pub DrawnSound : Type 0
DrawnSound = (w h : ℕ) (es : List Edit) → AllByRecursion SoundEdit es → SoundSheet (drawn w h es)

-- and a sound sheet has sound flat dots
abbrev pub FlatSound : Type 0
FlatSound = (s : Sheet) → SoundSheet s → (x y : ℕ) → Sound (flat_dot s x y)

-- off the sheet nothing is inked and nothing protected
pub record OffSheet (w h : ℕ) (s : Sheet) : Type 0 where
  pub dots : (l x y : ℕ) → T (not (on_sheet w h (x, y))) → s.dot l x y ≡ blank
  pub frisket : (x y : ℕ) → T (not (on_sheet w h (x, y))) → s.protected x y ≡ false

abbrev pub DrawnInside : Type 0
DrawnInside = (w h : ℕ) (es : List Edit) → OffSheet w h (drawn w h es)

-- an edit that names a layer from 0 to 7, or none
abbrev pub Layered : Edit → Type 0
Layered (stroke l pen ps) = l < 8
Layered (fill l pen p) = l < 8
Layered (frisket protects a b) = Unit {0}
Layered (layer l o) = l < 8

-- the word of a cell differs after an edit
abbrev pub Differs : ℕ → ℕ → Edit → Sheet → ℕ → ℕ → Type 0
Differs w h e s tree i = word_of s tree i ≡ word_of (draw w h e s) tree i → ⊥

-- of all cells of all ten trees, those whose word differs are the listed cells of the edit's own tree
abbrev pub ChangedMeans : Type 0
ChangedMeans = (w h : ℕ) (e : Edit) (s : Sheet) → Layered e → OffSheet w h s → (tree i : ℕ) → tree < 10 → i < 16 ^ depth tree
    → Differs w h e s tree i ↔ ((tree ≡ tree_of e) × T (list_any (nat_eq i) (changed w h e s)))

-- an edit changes a cell of the stretch
pub record Touches (w h : ℕ) (e : Edit) (s : Sheet) (q : Stretch) : Type 0 where
  pub cell : ℕ
  pub within : cell < 16 ^ depth q.tree
  pub held : q.quotient ≡ cell / 16 ^ q.order
  pub differs : Differs w h e s q.tree cell

-- the stretches that are counted are the proper ones of which the edit changes a cell
abbrev pub TouchedMeans : Type 0
TouchedMeans = (w h : ℕ) (e : Edit) (s : Sheet) (q : Stretch) → w ≤ 256 → h ≤ 256 → Layered e → OffSheet w h s
    → (Proper q × Touches w h e s q) ↔ T (touches w h e s q)

-- the corner c is not past the point, and the point not past the corner d
abbrev pub Between : Point → Point → Point → Type 0
Between c d p = (c.0 ≤ p.0) × (c.1 ≤ p.1) × (p.0 ≤ d.0) × (p.1 ≤ d.1)

-- a box holds all the points, every rectangle that does holds the box, and there is none only where there is no point
abbrev pub Boxed : List Point → Option (Point × Point) → Type 0
Boxed ps None = ps ≡ []
Boxed ps (Some b) = AllByRecursion (Between b.0 b.1) ps × ((c d : Point) → AllByRecursion (Between c d) ps → Between c d b.0 × Between c d b.1)

abbrev pub BoxSmallest : Type 0
BoxSmallest = (w h : ℕ) (s : Sheet) (l : ℕ) → Boxed (inked w h s l) (box w h s l)
