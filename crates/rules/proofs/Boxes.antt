-- A layer's box is the smallest rectangle round its inked dots.
use Rattle.std.proofs.Common.{◌≤◌, List, [], ◌∷◌, refl, arith}
use Rattle.std.specs.List.{AllByRecursion}
use Rattle.rules.specs.Lines.{Point}
use Rattle.rules.specs.Pictures.{wider, widened, box_of, inked}
use Rattle.rules.specs.DrawLaws.{Between, Boxed, BoxSmallest}

grows : (b : Point × Point) (qs : List Point) (p : Point) → Between b.0 b.1 p → Between (widened b qs).0 (widened b qs).1 p
grows b [] p t = t
grows b (q ∷ qs) p t =
    grows (wider b q) qs p ((let a = t.0 in omega arith), (let a = t.1 in omega arith), (let a = t.2 in omega arith), (let a = t.3 in omega arith))

round : (b : Point × Point) (qs : List Point) → b.0.0 ≤ b.1.0 → b.0.1 ≤ b.1.1 → AllByRecursion (Between (widened b qs).0 (widened b qs).1) qs
round b [] l m = tt
round b (q ∷ qs) l m = (grows (wider b q) qs q (omega arith, omega arith, omega arith, omega arith), round (wider b q) qs (omega arith) (omega arith))

least : (b : Point × Point) (qs : List Point) (c d : Point) → Between c d b.0 → Between c d b.1 → AllByRecursion (Between c d) qs → Between c d (widened b qs).0 × Between c d (widened b qs).1
least b [] c d t u r = (t, u)
least b (q ∷ qs) c d t u r =
    let k = r.0 in
    least (wider b q) qs c d
    ((let a = t.0 in let e = k.0 in omega arith), (let a = t.1 in let e = k.1 in omega arith), (let a = t.2 in omega arith), (let a = t.3 in omega arith))
    ((let a = u.0 in omega arith), (let a = u.1 in omega arith), (let a = u.2 in let e = k.2 in omega arith), (let a = u.3 in let e = k.3 in omega arith))
    r.1

boxed : (ps : List Point) → Boxed ps (box_of ps)
boxed [] = refl
boxed (p ∷ ps) = (
  (grows (p, p) ps p (omega arith, omega arith, omega arith, omega arith), round (p, p) ps (omega arith) (omega arith)),
  λ c d r. least (p, p) ps c d r.0 r.0 r.1,
)

pub box_smallest : BoxSmallest
box_smallest w h s l = boxed (inked w h s l)
