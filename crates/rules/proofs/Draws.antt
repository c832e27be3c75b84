-- What drawing keeps.
use Rattle.std.proofs.Common.{◌≡◌, ℕ, Bool, true, false, cond, not, ◌&&◌, T, eqb, List, [], ◌∷◌, refl, arith, T_not, Option, None, Some}
use Rattle.std.specs.List.{AllByRecursion, list_any}
use Rattle.std.proofs.lemmas.Bool.{ne_eqb}
use Rattle.std.proofs.Math.Dec.{eqb_refl}
use Rattle.rules.specs.Dots.{Dot, Sound, blank, over, laid, faded, same_dot}
use Rattle.rules.specs.Lines.{Point, on_sheet, covers, in_rectangle, in_square, trail}
use Rattle.rules.specs.Lists.{below}
use Rattle.rules.specs.Pictures.{seen_through, layers_over}
use Rattle.rules.specs.Reach.{Reach, reached, listed}
use Rattle.rules.specs.Sheets.{Sheet, Edit, stroke, fill, frisket, layer, draw, drawn_on, blank_sheet, fills_through}
use Rattle.rules.specs.DrawLaws.{FillReaches, ProtectedKept, SoundEdit, ByteOrNone, SoundSheet, DrawnSound, FlatSound, OffSheet, DrawnInside}
use Rattle.rules.proofs.Tests.{and_left, and_right, is_true, is_false}
use Rattle.rules.proofs.Inks.{laid_sound, faded_sound}
use Rattle.rules.proofs.Floods.{rounds_reach}

through_inside : (w h : ℕ) (s : Sheet) (l : ℕ) (p : Point) (x y : ℕ) → T (fills_through w h s l p x y) → T (on_sheet w h (x, y))
through_inside w h s l p x y t = and_left (on_sheet w h (x, y)) (not (s.protected x y)) (and_left (on_sheet w h (x, y) && not (s.protected x y)) (same_dot (s.dot l x y) (s.dot l p.0 p.1)) t)

pub fill_reaches : FillReaches
fill_reaches w h s l pen p =
    let found = reached w h (fills_through w h s l p) p in
    let agrees = rounds_reach w h (fills_through w h s l p) p (through_inside w h s l p) in
    record {
      set = λ x y r. rw (is_true (eqb l l) (eqb_refl l), is_true (listed found x y) ((agrees x y).0 r));
      kept = λ x y no. rw (is_true (eqb l l) (eqb_refl l), is_false (listed found x y) (λ t. no ((agrees x y).1 t)));
      others = λ k x y ne. rw (ne_eqb k l ne);
    }

reach_through : {through : ℕ → ℕ → Bool} {a b x y : ℕ} → Reach through a b x y → T (through x y)
reach_through (Reach.here t) = t
reach_through (Reach.right r t) = t
reach_through (Reach.left r t) = t
reach_through (Reach.down r t) = t
reach_through (Reach.up r t) = t

none_listed : (a b : Bool) → (T b → ⊥) → (a && b) ≡ false
none_listed true b n = is_false b n
none_listed false b n = refl

no_stroke : (a b c : Bool) → T b → (a && (not b && c)) ≡ false
no_stroke true true c t = refl
no_stroke true false c t = absurd t
no_stroke false b c t = refl

through_free : (w h : ℕ) (s : Sheet) (l : ℕ) (p : Point) (x y : ℕ) → T (fills_through w h s l p x y) → T (not (s.protected x y))
through_free w h s l p x y t = and_right (on_sheet w h (x, y)) (not (s.protected x y)) (and_left (on_sheet w h (x, y) && not (s.protected x y)) (same_dot (s.dot l x y) (s.dot l p.0 p.1)) t)

pub protected_kept : ProtectedKept
protected_kept w h (stroke k pen ps) s l x y t = rw (no_stroke (eqb l k) (s.protected x y) (covers w h pen.side ps x y) t)
protected_kept w h (fill k pen p) s l x y t =
    rw (none_listed (eqb l k) (listed (reached w h (fills_through w h s k p) p) x y)
    (λ u. T_not (s.protected x y) (through_free w h s k p x y (reach_through ((rounds_reach w h (fills_through w h s k p) p (through_inside w h s k p) x y).1 u))) t))
protected_kept w h (frisket protects a b) s l x y t = refl
protected_kept w h (layer k o) s l x y t = refl

-- what holds of two values holds of the one that a test picks
pick : {A : Type 0} (P : A → Type 0) (b : Bool) (d e : A) → P d → P e → P (cond b d e)
pick P true d e p q = p
pick P false d e p q = q

dots_sound : (w h : ℕ) (e : Edit) (s : Sheet) → SoundEdit e → ((l x y : ℕ) → Sound (s.dot l x y)) → (l x y : ℕ) → Sound ((draw w h e s).dot l x y)
dots_sound w h (stroke k pen ps) s g old l x y =
    pick Sound (eqb l k && (not (s.protected x y) && covers w h pen.side ps x y)) (laid pen.rule pen.ink (s.dot l x y)) (s.dot l x y) (laid_sound pen.rule pen.ink (s.dot l x y) g (old l x y)) (old l x y)
dots_sound w h (fill k pen p) s g old l x y =
    pick Sound (eqb l k && listed (reached w h (fills_through w h s k p) p) x y) pen.ink (s.dot l x y) g (old l x y)
dots_sound w h (frisket protects a b) s g old l x y = old l x y
dots_sound w h (layer k o) s g old l x y = old l x y

opacities_bytes : (w h : ℕ) (e : Edit) (s : Sheet) → SoundEdit e → ((l : ℕ) → ByteOrNone (s.opacity l)) → (l : ℕ) → ByteOrNone ((draw w h e s).opacity l)
opacities_bytes w h (stroke k pen ps) s g old l = old l
opacities_bytes w h (fill k pen p) s g old l = old l
opacities_bytes w h (frisket protects a b) s g old l = old l
opacities_bytes w h (layer k o) s g old l = pick ByteOrNone (eqb l k) (Some o) (s.opacity l) g (old l)

pub draw_sound : (w h : ℕ) (e : Edit) (s : Sheet) → SoundEdit e → SoundSheet s → SoundSheet (draw w h e s)
draw_sound w h e s g old = record { dots = dots_sound w h e s g old.dots; opacities = opacities_bytes w h e s g old.opacities }

all_sound : (w h : ℕ) (es : List Edit) (s : Sheet) → AllByRecursion SoundEdit es → SoundSheet s → SoundSheet (drawn_on w h s es)
all_sound w h [] s g old = old
all_sound w h (e ∷ es) s g old = all_sound w h es (draw w h e s) g.1 (draw_sound w h e s g.0 old)

blank_sound : Sound blank
blank_sound = record { red_covered = omega arith; green_covered = omega arith; blue_covered = omega arith; alpha_byte = omega arith }

pub drawn_sound : DrawnSound
drawn_sound w h es g = all_sound w h es blank_sheet g (record { dots = λ l x y. blank_sound; opacities = λ l. tt })

seen_sound : (o : Option ℕ) (d under : Dot) → ByteOrNone o → Sound d → Sound under → Sound (seen_through o d under)
seen_sound None d under h s t = t
seen_sound (Some o) d under h s t = laid_sound over (faded o d) under (faded_sound o d h s) t

layers_sound : (s : Sheet) → SoundSheet s → (x y : ℕ) (under : Dot) (ls : List ℕ) → Sound under → Sound (layers_over s x y under ls)
layers_sound s k x y under [] t = t
layers_sound s k x y under (l ∷ ls) t =
    layers_sound s k x y (seen_through (s.opacity l) (s.dot l x y) under) ls (seen_sound (s.opacity l) (s.dot l x y) under (k.opacities l) (k.dots l x y) t)

pub flat_sound : FlatSound
flat_sound s k x y = layers_sound s k x y blank (below 8) blank_sound

-- a test that fails off the sheet
off : (b c : Bool) → T (not b) → (b && c) ≡ false
off true c t = absurd t
off false c t = refl

no_ink : (a c b d : Bool) → T (not b) → (a && (c && (b && d))) ≡ false
no_ink true true b d t = off b d t
no_ink true false b d t = refl
no_ink false c b d t = refl

pub draw_inside : (w h : ℕ) (e : Edit) (s : Sheet) → OffSheet w h s → OffSheet w h (draw w h e s)
draw_inside w h (stroke k pen ps) s o = record {
  dots = λ l x y t. rw (no_ink (eqb l k) (not (s.protected x y)) (on_sheet w h (x, y)) (list_any (in_square pen.side x y) (trail ps)) t) (o.dots l x y t);
  frisket = o.frisket;
}
draw_inside w h (fill k pen p) s o = record {
  dots = λ l x y t.
      rw (none_listed (eqb l k) (listed (reached w h (fills_through w h s k p) p) x y)
      (λ u. T_not (on_sheet w h (x, y)) t (through_inside w h s k p x y (reach_through ((rounds_reach w h (fills_through w h s k p) p (through_inside w h s k p) x y).1 u))))) (o.dots l x y t);
  frisket = o.frisket;
}
draw_inside w h (frisket protects a b) s o = record {
  dots = o.dots;
  frisket = λ x y t. rw (off (on_sheet w h (x, y)) (in_rectangle a b x y) t) (o.frisket x y t);
}
draw_inside w h (layer k o') s o = record { dots = o.dots; frisket = o.frisket }

pub all_inside : (w h : ℕ) (es : List Edit) (s : Sheet) → OffSheet w h s → OffSheet w h (drawn_on w h s es)
all_inside w h [] s o = o
all_inside w h (e ∷ es) s o = all_inside w h es (draw w h e s) (draw_inside w h e s o)

pub drawn_inside : DrawnInside
drawn_inside w h es = all_inside w h es blank_sheet (record { dots = λ l x y t. refl; frisket = λ x y t. refl })
