use Rattle.std.proofs.Common.{rules, tests, sym, ◌∙◌}
use Rattle.std.proofs.lemmas.Iterator.Search.{find_from_yields_List}
use Rattle.std.proofs.lemmas.Iterator.Adapters.{YieldsList-from_rev_slice, option_map_id}
use Rattle.std.proofs.lemmas.Iterator.Consumers.{YieldsList-from_copied}
use Rattle.table.proofs.Kept.{stands, last_is_find}
use Rattle.table.proofs.tables.Table.last_child.Goals as goal

pub returns : goal.returns
returns c =
    let places = c.args.self.now.snapshots in
    let made = c.args.self.now.order.made in
    let found = find_from_yields_List (stands places c.args.number) _ _ c.find.result c.find.ensures.ran (YieldsList-from_copied (YieldsList-from_rev_slice made (cc))) (λ x b q k. search (rules, tests)) in
    record { value = sym (option_map_id c.find.result) ∙ found ∙ sym (last_is_find places c.args.number made) }
