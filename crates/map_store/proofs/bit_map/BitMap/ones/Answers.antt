use Rattle.std.proofs.Common.{◌≡◌, ◌^◌, sum, map, ◌∙◌, rules, arith}
use lib.Count.{ones}
use Rattle.std.proofs.iter.runs.Made.{chains}
use Rattle.std.proofs.lemmas.Iterator.{YieldsList-from_slice}
use Rattle.std.proofs.lemmas.Iterator.Adapters.{fits_from_length, at_most_from_yields_List}
use Rattle.std.proofs.lemmas.List.Sums.{sum-map}
use Rattle.marks.proofs.Marked.{ones_summed, ones_most}
use Rattle.map_store.proofs.bit_map.BitMap.ones.Goals as goal

pub sum-requires-clause-fits : goal.sum-requires-clause-fits
sum-requires-clause-fits c =
    fits_from_length _ _ 512 (2 ^ 32) (at_most_from_yields_List (YieldsList-from_slice c.args.self.now.words cc) (omega arith)) c.map.ensures.closure (omega arith) (λ x r q k. search rules)

pub returns : goal.returns
returns c =
    let ws = c.args.self.now.words in
    let counted : c.sum.result ≡ sum (map ones ws) = search (rules, chains) in
    let value = counted ∙ sum-map ones ws ∙ ones_summed ws c.args.self.now.long c.args.self.now.wide in
    record { value = value; most = omega (arith, value, ones_most ws) }
