-- A row of inks laid place by place: what is done so far, and what is left to do, is the whole row.
use Rattle.std.proofs.Common.{◌≡◌, ℕ, zero, suc, ◌+◌, ◌<◌, ◌≤◌, List, [], ◌∷◌, ◌++◌, length, get_or, set, take, drop, refl, sym, ap, ◌∙◌, add-one, arith}
use Rattle.std.proofs.lemmas.List.{take-append-drop}
use Rattle.rules.specs.Dots as dots
use Rattle.ink.specs.declared.dot.Dot.{Dot}
use Rattle.ink.specs.Meanings.{Laying, dot_of, dots_of, laid_row}

abbrev pub row_at : Laying → List Dot → List Dot → ℕ → List dots.Dot
row_at lays inks now i = take i (dots_of now) ++ laid_row lays (dots_of inks) (drop i (dots_of now))

row_suc : (lays : Laying) (ink old new : Dot) (inks now : List Dot) (i : ℕ) → i < length now → dot_of new ≡ lays (dot_of ink) (dot_of (get_or now i old)) →
    row_at lays inks (set now i new) (suc i) ≡ row_at lays (ink ∷ inks) now i
row_suc lays ink old new inks [] i l e = absurd (omega arith)
row_suc lays ink old new inks (d ∷ now) zero l e = ap (λ (v : dots.Dot). v ∷ laid_row lays (dots_of inks) (dots_of now)) e
row_suc lays ink old new inks (d ∷ now) (suc i) l e = ap {B = List dots.Dot} (λ r. dot_of d ∷ r) (row_suc lays ink old new inks now i (omega arith) e)

-- one place more
pub row_more : (lays : Laying) (ink old new : Dot) (inks left now : List Dot) (i at next : ℕ) (all : List dots.Dot) → i < length now →
    dot_of new ≡ lays (dot_of ink) (dot_of (get_or now i old)) → left ≡ ink ∷ inks → i ≡ at → next ≡ at + 1 →
    row_at lays left now at ≡ all → row_at lays inks (set now i new) next ≡ all
row_more lays ink old new inks left now i at next all l e r p s w = rw (s, ← p, add-one) (row_suc lays ink old new inks now i l e) ∙ (rw (r, ← p) at w)

row_full : (lays : Laying) (inks now : List Dot) (i : ℕ) → length now ≤ i → row_at lays inks now i ≡ dots_of now
row_full lays [] [] zero l = refl
row_full lays [] [] (suc i) l = refl
row_full lays (ink ∷ inks) [] zero l = refl
row_full lays (ink ∷ inks) [] (suc i) l = refl
row_full lays inks (d ∷ now) zero l = absurd (omega arith)
row_full lays inks (d ∷ now) (suc i) l = ap {B = List dots.Dot} (λ r. dot_of d ∷ r) (row_full lays inks now i (omega arith))

row_inked : (lays : Laying) (inks now : List Dot) (i : ℕ) → length inks ≡ 0 → row_at lays inks now i ≡ dots_of now
row_inked lays [] now i e = take-append-drop i (dots_of now)
row_inked lays (ink ∷ inks) now i e = absurd (omega arith)

-- no ink is left, or no dot
pub row_done : (lays : Laying) (inks now : List Dot) (i n : ℕ) (all : List dots.Dot) → i + n ≡ length now → (0 < n → length inks ≡ 0) →
    row_at lays inks now i ≡ all → dots_of now ≡ all
row_done lays inks now i zero all e h w = sym (row_full lays inks now i (omega arith)) ∙ w
row_done lays inks now i (suc n) all e h w = sym (row_inked lays inks now i (h (omega arith))) ∙ w
