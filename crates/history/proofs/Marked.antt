-- Marks, and the marks of one edit.
use Rattle.std.proofs.Common.{◌≡◌, ℕ, T, eqb, List, [], ◌∷◌, map, ⊎_elim, eqb→eq}
use Rattle.std.proofs.Math.Dec.{eqb_refl}
use Rattle.std.specs.List.{list_any}
use Rattle.std.proofs.Math.Facts.{yes_and}
use Rattle.rules.specs.Lists.{Once}
use Rattle.rules.specs.Stretches.{Stretch, same_stretch}
use Rattle.rules.proofs.Tests.{and_left, and_right, or_left, or_right, or_either}
use Rattle.rules.proofs.Onces.{In}
use Rattle.rules.proofs.Touched.{stretch_self, stretch_tells}
use Rattle.history.specs.Counts.{Mark, same_mark, mark}

pub mark_self : (a : Mark) → T (same_mark a a)
mark_self a = yes_and (same_stretch a.stretch a.stretch) (eqb a.place a.place) (stretch_self a.stretch) (eqb_refl a.place)

pub mark_tells : (a b : Mark) → T (same_mark a b) → a ≡ b
mark_tells a b t =
    let p = stretch_tells a.stretch b.stretch (and_left (same_stretch a.stretch b.stretch) (eqb a.place b.place) t) in
    let q = eqb→eq a.place b.place (and_right (same_stretch a.stretch b.stretch) (eqb a.place b.place) t) in
    λ i. record { stretch = p i; place = q i }

pub from_marked : (i : ℕ) (m : Mark) (qs : List Stretch) → In same_mark m (map (mark i) qs) → (m.place ≡ i) × In same_stretch m.stretch qs
from_marked i m [] t = absurd t
from_marked i m (q ∷ qs) t =
    ⊎_elim
    (λ u. (eqb→eq m.place i (and_right (same_stretch m.stretch q) (eqb m.place i) u), or_left (same_stretch m.stretch q) (list_any (same_stretch m.stretch) qs) (and_left (same_stretch m.stretch q) (eqb m.place i) u)))
    (λ u. let r = from_marked i m qs u in (r.0, or_right (same_stretch m.stretch q) (list_any (same_stretch m.stretch) qs) r.1))
    (or_either (same_mark m (mark i q)) (list_any (same_mark m) (map (mark i) qs)) t)

pub to_marked : (i : ℕ) (m : Mark) (qs : List Stretch) → m.place ≡ i → In same_stretch m.stretch qs → In same_mark m (map (mark i) qs)
to_marked i m [] e t = t
to_marked i m (q ∷ qs) e t =
    ⊎_elim
    (λ u. or_left (same_mark m (mark i q)) (list_any (same_mark m) (map (mark i) qs)) (yes_and (same_stretch m.stretch q) (eqb m.place i) u (rw e (eqb_refl i))))
    (λ u. or_right (same_mark m (mark i q)) (list_any (same_mark m) (map (mark i) qs)) (to_marked i m qs e u))
    (or_either (same_stretch m.stretch q) (list_any (same_stretch m.stretch) qs) t)

pub marked_once : (i : ℕ) (qs : List Stretch) → Once same_stretch qs → Once same_mark (map (mark i) qs)
marked_once i [] o = tt
marked_once i (q ∷ qs) o = ((λ t. o.0 (from_marked i (mark i q) qs t).1), marked_once i qs o.1)
