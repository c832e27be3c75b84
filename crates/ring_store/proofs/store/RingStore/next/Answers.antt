use Rattle.std.proofs.Common.{◌≡◌, ◌+◌, ◌%◌, ◌<◌, get_or, rules, arith}
use borrow.Author.Tests.{tests}
use Rattle.std.proofs.lemmas.Iterator.{YieldsList-from_range, YieldsList-from_map, first_from_find}
use Rattle.ring_store.proofs.Rounds.{first_free}
use Rattle.ring_store.proofs.store.RingStore.next.Goals as goal

pub returns : goal.returns
returns c =
    let s = c.args.self.now in
    first_free s.cells s.last c.find.result s.near
    (first_from_find _ _ c.find.result (λ b. get_or s.cells b 0 ≡ 0) (λ b. 0 < get_or s.cells b 0) c.find.ensures.ran
    (YieldsList-from_map _ (λ step. (s.last + step) % 128) (YieldsList-from_range 1 129 128 c.map.ensures.source (omega arith)) c.map.ensures.closure (λ x r q k. search rules))
    (λ x q k. search (rules, tests)) (λ x q k. search (rules, tests)))
