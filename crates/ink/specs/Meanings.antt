-- What the types of the code mean, in the words of the rules.
--
--   channels_of   four numbers as a dot of the rules, sound or not
--   dot_of        a dot
--   rule_of       a rule by its name
--   pen_of        a pen
--   Laying        what a rule gives of an ink and a dot
--   KeepsBlank   the blank law: blank ink leaves every dot unaltered
--   dots_of       a row of dots
--   laid_row      a row of inks laid on a row of dots, place by place; where the inks end, the dots stay
--   MakesDot      what is made of four numbers: the dot that they are, or the refusal where a colour is above alpha
--   MakesRule     what is made of a number: the rule that it numbers, or the refusal above 1
--   fault_of      what is wrong with a pen that cannot be made: the side before the rule, the rule before the colour
use Rattle.std.specs.Prelude.{◌≡◌, ℕ, ◌<◌, ◌≤◌, true, false, cond, not, List, [], ◌∷◌, map, nat_lt, Result, MatchResult, Option, None, Some}
use Rattle.rules.specs.Dots as dots
use Rattle.rules.specs.Pens as pens
use Rattle.rules.specs.Refusals.{bad_pen, numbers}
use Rattle.ink.specs.declared.dot.Channels.{Channels}
use Rattle.ink.specs.declared.dot.Dot.{Dot}
use Rattle.ink.specs.declared.pen.Pen.{Pen}
use Rattle.ink.specs.declared.refusal.PenRefusal as refusal
use Rattle.ink.specs.declared.refusal.PenRefusal.TheVariants as refusals
use Rattle.ink.specs.declared.rule.Rule as rule
use Rattle.ink.specs.declared.rule.Rule.TheVariants.{Over, Erase}

abbrev pub channels_of : Channels → dots.Dot
channels_of c = record { red = c.red; green = c.green; blue = c.blue; alpha = c.alpha }

abbrev pub dot_of : Dot → dots.Dot
dot_of d = record { red = d.red; green = d.green; blue = d.blue; alpha = d.alpha }

abbrev pub Laying : Type 0
Laying = dots.Dot → dots.Dot → dots.Dot

abbrev pub KeepsBlank : Laying → Type 0
KeepsBlank lays = (d : dots.Dot) → lays dots.blank d ≡ d

abbrev pub dots_of : List Dot → List dots.Dot
dots_of ds = map dot_of ds

abbrev pub laid_row : Laying → List dots.Dot → List dots.Dot → List dots.Dot
laid_row lays [] ds = ds
laid_row lays (s ∷ ss) [] = []
laid_row lays (s ∷ ss) (d ∷ ds) = lays s d ∷ laid_row lays ss ds

abbrev pub rule_of : rule.Rule → dots.Rule
rule_of Over = dots.over
rule_of Erase = dots.erase

abbrev pub pen_of : Pen → pens.Pen
pen_of p = record { ink = dot_of p.ink; side = p.side; rule = rule_of p.rule }

abbrev pub MakesDot : Channels → Result Dot refusal.PenRefusal → Type 0
MakesDot c result =
    MatchResult result (λ d. (dot_of d ≡ channels_of c) × (pens.good_ink (channels_of c) ≡ true))
    (λ e. (e ≡ refusals.Colour) × (pens.good_ink (channels_of c) ≡ false))

abbrev pub MakesRule : ℕ → Result rule.Rule refusal.PenRefusal → Type 0
MakesRule number result =
    MatchResult result (λ rule. (rule_of rule ≡ pens.rule_numbered number) × (number ≤ 1)) (λ e. (e ≡ refusals.Rule number) × (1 < number))

abbrev pub fault_of : Channels → ℕ → ℕ → Option refusal.PenRefusal
fault_of c side number =
    cond (not (pens.good_side side)) (Some (refusals.Side side))
    (cond (nat_lt 1 number) (Some (refusals.Rule number)) (cond (pens.good_ink (channels_of c)) None (Some refusals.Colour)))

-- all of them are told by one number
abbrev pub numbers_of : refusal.PenRefusal → List ℕ
numbers_of (refusals.Side side) = numbers bad_pen
numbers_of (refusals.Rule number) = numbers bad_pen
numbers_of refusals.Colour = numbers bad_pen
