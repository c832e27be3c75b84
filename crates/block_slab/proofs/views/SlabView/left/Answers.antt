use Rattle.std.proofs.Common.{◌≡◌, ◌≤◌, ◌^◌, ℕ, get_or, take, sum, map, sym, ap, ◌∙◌, rules, arith, length-take-le}
use Rattle.std.proofs.lemmas.Bool.Decides.{nat_tests}
use Rattle.std.proofs.iter.runs.Made.{chains}
use Rattle.std.proofs.lemmas.Iterator.{YieldsList-from_slice}
use Rattle.std.proofs.lemmas.Iterator.Adapters.{fits_from_length, at_most_from_yields_List}
use Rattle.std.proofs.lemmas.List.Sums.{sum-map}
use Rattle.std.specs.List.{sum_by}
use Rattle.block.specs.Blocks.{spare, free_count}
use Rattle.block.proofs.Sums.{sum_same, sum_taken}
use Rattle.layout.specs.Layout.{room, held_in}
use Rattle.layout.proofs.Layouts.{room_cells}
use Rattle.block_slab.proofs.views.SlabView.left.Goals as goal

pub sum-requires-clause-fits : goal.sum-requires-clause-fits
sum-requires-clause-fits c =
    let ws = c.args.self.now.words.now in
    let hs = c.args.self.now.cells.now in
    let few : room ws hs ≤ 16384 = omega arith in
    let cells = room_cells ws hs in
    fits_from_length _ _ 16384 (2 ^ 32) (at_most_from_yields_List (YieldsList-from_slice (take c.size.result hs) cc) (omega (arith, c.size.ensures, few, cells, length-take-le c.size.result hs (omega (arith, c.size.ensures, cells))))) c.map.ensures.closure (omega arith) (λ x r q k. search rules)

pub returns : goal.returns
unfolding free_count
returns c =
    let ws = c.args.self.now.words.now in
    let hs = c.args.self.now.cells.now in
    let counted : c.sum.result ≡ sum (map spare (take c.size.result hs)) = search (rules, chains) in
    counted ∙ sum-map spare (take c.size.result hs)
    ∙ ap (λ (n : ℕ). sum_by spare (take n hs)) c.size.ensures
    ∙ sum_taken spare hs (room ws hs) (room_cells ws hs)
    ∙ sum_same (room ws hs) _ _ (λ b l. let h : held_in (room ws hs) hs b ≡ get_or hs b 0 = grind (arith, nat_tests) in ap spare (sym h))
