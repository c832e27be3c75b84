use Rattle.std.proofs.Common.{arith}
use Rattle.forest.proofs.Bounds.{at_child, at_fits}
use Rattle.tree.proofs.branches.Branch.part.Goals as goal

pub overflow_mul-result : goal.overflow_mul-result
overflow_mul-result g c =
    let s = c.args.self.stretch in
    omega (arith, at_fits s.at s.order c.args.i s.within c.requires.parted s.shallow c.requires.sixteen)

pub overflow_add-result : goal.overflow_add-result
overflow_add-result g c =
    let s = c.args.self.stretch in
    omega (arith, at_fits s.at s.order c.args.i s.within c.requires.parted s.shallow c.requires.sixteen)

pub invariant_of-result : goal.invariant_of-result
invariant_of-result g c =
    let s = c.args.self.stretch in
    let h = s.shallow in
    record { shallow = omega arith; within = at_child s.at s.order c.args.i s.within c.requires.parted s.shallow c.requires.sixteen }
