-- Why a call is turned down, and by which numbers that is told.
--
--   refusal   one of the grounds below
--   numbers   the refusal's own number, and behind it that of the layer below where one was its cause
--   ground    a test, and the refusal that is given where it passes
use Rattle.std.specs.Prelude.{ℕ, Bool, cond, List, [], ◌∷◌, Option, None, Some}

pub data Refusal : Type 0 where
  not_started : Refusal
  already_started : Refusal
  bad_size : Refusal
  store_in_use : Refusal
  bad_number : Refusal
  not_live : Refusal
  bad_layer : Refusal
  bad_points : Refusal
  bad_pen : Refusal
  no_change : Refusal
  no_blocks : Refusal
  nowhere : Refusal
  short_buffer : Refusal

-- want of blocks carries the number by which the store refuses to take one
abbrev pub numbers : Refusal → List ℕ
numbers not_started = 10 ∷ []
numbers already_started = 11 ∷ []
numbers bad_size = 12 ∷ []
numbers store_in_use = 13 ∷ []
numbers bad_number = 14 ∷ []
numbers not_live = 15 ∷ []
numbers bad_layer = 16 ∷ []
numbers bad_points = 17 ∷ []
numbers bad_pen = 18 ∷ []
numbers no_change = 19 ∷ []
numbers no_blocks = 20 ∷ 1 ∷ []
numbers nowhere = 21 ∷ []
numbers short_buffer = 22 ∷ []

abbrev pub Ground : Type 0
Ground = Bool × Refusal

-- the first ground, in order, whose test passes
abbrev pub first : List Ground → Option Refusal
first [] = None
first (g ∷ gs) = cond g.0 (Some g.1) (first gs)
