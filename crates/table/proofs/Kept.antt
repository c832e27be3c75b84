-- The last on a list that passes a test.
use Rattle.std.proofs.Common.{◌≡◌, ℕ, Bool, List, [], ◌∷◌, find, reverse, Option, refl, sym, ap, ◌∙◌}
use Rattle.std.proofs.lemmas.List.{reverse-append}
use Rattle.std.proofs.lemmas.List.Folds.{find-append}
use Rattle.std.specs.Option.{option_or}
use Rattle.table.specs.Tables.{is_number, parent_at, last_under}
use Rattle.table.specs.declared.records.Snapshot.{Snapshot}

-- whether the snapshot with the number q stands under the one with the number s
abbrev pub stands : List (Option Snapshot) → ℕ → ℕ → Bool
stands ss s q = is_number s (parent_at ss q)

pub last_is_find : (ss : List (Option Snapshot)) (s : ℕ) (qs : List ℕ) → last_under ss s qs ≡ find (stands ss s) (reverse qs)
last_is_find ss s [] = refl
last_is_find ss s (q ∷ qs) =
    ap (λ o. option_or o (find (stands ss s) (q ∷ []))) (last_is_find ss s qs)
    ∙ sym (ap (find (stands ss s)) (reverse-append (q ∷ []) qs) ∙ find-append (stands ss s) (reverse qs) (q ∷ []))
