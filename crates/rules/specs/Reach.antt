-- What a fill reaches.
--
--   Reach     from a start by steps up, down, left and right, through dots that pass a test, the start included
--   reached   the same by computation: in rounds, each of which adds what is one step further
use Rattle.std.specs.Prelude.{ℕ, zero, suc, ◌+◌, ◌*◌, Bool, ◌&&◌, ◌||◌, T, List, map, ◌==◌, nat_eq}
use Rattle.std.specs.List.{filter, flat_map, list_any}
use Rattle.rules.specs.Lists.{below, apart}
use Rattle.rules.specs.Lines.{Point}

-- (x, y) is reached from (a, b); a start that does not pass the test reaches nothing
pub data Reach (through : ℕ → ℕ → Bool) (a b : ℕ) : ℕ → ℕ → Type 0 where
  here : T (through a b) → Reach through a b a b
  right : {x y : ℕ} → Reach through a b x y → T (through (suc x) y) → Reach through a b (suc x) y
  left : {x y : ℕ} → Reach through a b (suc x) y → T (through x y) → Reach through a b x y
  down : {x y : ℕ} → Reach through a b x y → T (through x (suc y)) → Reach through a b x (suc y)
  up : {x y : ℕ} → Reach through a b x (suc y) → T (through x y) → Reach through a b x y

-- whether (x, y) is on the list
abbrev pub listed : List Point → ℕ → ℕ → Bool
listed ps x y = list_any (λ p. (p.0 == x) && p.1 == y) ps

-- whether (x, y) is one step from a point on the list
abbrev pub beside : List Point → ℕ → ℕ → Bool
beside ps x y = list_any (λ p. nat_eq (apart p.0 x + apart p.1 y) 1) ps

-- the points of a sheet, row by row
abbrev pub points_on : ℕ → ℕ → List Point
points_on w h = flat_map (λ y. map (λ x. (x, y)) (below w)) (below h)

-- the start alone, if it passes
abbrev pub first_round : ℕ → ℕ → (ℕ → ℕ → Bool) → Point → List Point
first_round w h through p = filter (λ q. (q.0 == p.0) && q.1 == p.1 && through q.0 q.1) (points_on w h)

-- what was reached, and what passes and is one step further
abbrev pub next_round : ℕ → ℕ → (ℕ → ℕ → Bool) → List Point → List Point
next_round w h through old = filter (λ q. listed old q.0 q.1 || (through q.0 q.1 && beside old q.0 q.1)) (points_on w h)

abbrev pub rounds : ℕ → ℕ → (ℕ → ℕ → Bool) → Point → ℕ → List Point
rounds w h through p zero = first_round w h through p
rounds w h through p (suc n) = next_round w h through (rounds w h through p n)

-- no more rounds are wanted than the sheet has dots
abbrev pub reached : ℕ → ℕ → (ℕ → ℕ → Bool) → Point → List Point
reached w h through p = rounds w h through p (w * h)
