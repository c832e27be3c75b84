use Rattle.std.proofs.Common.{rules}
use Rattle.node.proofs.Arrays.{each_made}
use Rattle.tree.specs.Branches.{IsPart}
use Rattle.tree.proofs.branches.Branch.parts.Goals as goal

pub returns : goal.returns
returns g c = (c.if-self-eq0.false, λ i d l. each_made _ _ (IsPart (g.S.BlockStore.blocks c.args.store.now) c.args.self) c.from_fn.result d 16 (λ i y q l k. (search rules, search rules)) c.from_fn.ensures.items i l)
