use Rattle.std.proofs.Common.{◌-◌, arith}
use Rattle.std.proofs.Math.Nat.{one-le-pow}
use Rattle.tree.proofs.trees.Tree.trunk.Goals as goal

pub invariant_of-result : goal.invariant_of-result
invariant_of-result c = record { shallow = c.args.self.shallow; within = one-le-pow (4 - c.args.self.depth) 16 (omega arith) }
