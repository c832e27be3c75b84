-- What a call that is not refused tells: each of its grounds fails.
use Rattle.std.proofs.Common.{◌≡◌, ℕ, ◌<◌, Bool, true, false, cond, not, ◌||◌, T, ltb, List, [], ◌∷◌, ◌++◌, refl, subst, arith, ltb-false, None, Some}
use Rattle.rules.specs.Sheets.{Edit, stroke, fill, frisket, layer}
use Rattle.rules.specs.DrawLaws.{Layered}
use Rattle.rules.specs.Refusals.{Ground, first}
use Rattle.history.specs.Histories.{History, sheet_of}
use Rattle.history.specs.Calls.{edit_grounds, layer_missing, has_record}

-- every ground fails
abbrev pub Fail : List Ground → Type 0
Fail [] = Unit {0}
Fail (g ∷ gs) = (g.0 ≡ false) × Fail gs

pub fail : (gs : List Ground) → first gs ≡ None → Fail gs
fail [] e = tt
fail (g ∷ gs) e = go (fail gs) g.0 e
  where
    go : (first gs ≡ None → Fail gs) → (b : Bool) → cond b (Some g.1) (first gs) ≡ None → (b ≡ false) × Fail gs
    go ih true e = cc
    go ih false e = (refl, ih e)

pub fail_front : (gs hs : List Ground) → Fail (gs ++ hs) → Fail gs
fail_front [] hs f = tt
fail_front (g ∷ gs) hs f = (f.0, fail_front gs hs f.1)

pub fail_back : (gs hs : List Ground) → Fail (gs ++ hs) → Fail hs
fail_back [] hs f = f
fail_back (g ∷ gs) hs f = fail_back gs hs f.1

pub not_false : (b : Bool) → not b ≡ false → T b
not_false true e = tt
not_false false e = cc

pub or_false_left : (a b : Bool) → (a || b) ≡ false → a ≡ false
or_false_left true b e = cc
or_false_left false b e = refl

pub or_false_right : (a b : Bool) → (a || b) ≡ false → b ≡ false
or_false_right true b e = absurd (subst T e tt)
or_false_right false b e = e

layer_below : (l : ℕ) → ltb 7 l ≡ false → l < 8
layer_below l e = let p = ltb-false 7 l e in omega arith

there_below : (s l : ℕ) (h : History) → layer_missing s l h ≡ false → l < 8
there_below s l h e = layer_below l (or_false_left (ltb 7 l) (not (has_record (sheet_of s h) l)) e)

-- an edit that is not refused names a layer from 0 to 7, or none
pub grounds_layered : (e : Edit) (h : History) → Fail (edit_grounds e h) → Layered e
grounds_layered (stroke l pen ps) h f = there_below h.head l h f.0
grounds_layered (fill l pen p) h f = there_below h.head l h f.0
grounds_layered (frisket protects a b) h f = tt
grounds_layered (layer l o) h f = layer_below l f.0
