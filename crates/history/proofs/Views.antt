-- Headers and rows that are not refused fit.
use Rattle.std.proofs.Common.{suc, not, ◌&&◌, eqb, ltb, leb, [], ◌∷◌, length, ap, ltb-false, leb-false, Option, None, Some}
use Rattle.rules.specs.Refusals.{Refusal, bad_size, nowhere, short_buffer}
use Rattle.history.specs.Calls.{of_snapshot}
use Rattle.history.specs.Views.{View, header_of, next_row, row_grounds}
use Rattle.history.specs.Laws.{ViewsFit}
use Rattle.history.proofs.Grounds.{fail, fail_back}

pub views_fit : ViewsFit
views_fit = record {
  headers = λ room v e. ltb-false room (length (header_of v)) (fail ((ltb room (length (header_of v)), short_buffer) ∷ []) e).0;
  rows = λ room v h e.
      let ends = (not (eqb v.width h.width && eqb v.height h.height), bad_size) ∷ (leb v.height v.rows, nowhere) ∷ (ltb room (length (next_row v h)), short_buffer) ∷ [] in
      let f = fail_back (of_snapshot v.number h) ends (fail (row_grounds room v h) e) in
      (ltb-false room (length (next_row v h)) f.1.1.0, leb-false v.height v.rows f.1.0);
  refused = λ room v h r e. ap (λ (o : Option Refusal). elim o as (λ _. View) [ None ↦ record { number = v.number; width = v.width; height = v.height; kind = v.kind; rows = suc v.rows } | Some q ↦ v ]) e;
}
