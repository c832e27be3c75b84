use Rattle.std.proofs.Common.{ℕ, ◌/◌, ◌^◌, ◌*◌, ap, ◌∙◌}
use Rattle.std.proofs.lemmas.Bool.{eqb-false}
use Rattle.forest.proofs.Digits.{power}
use Rattle.forest.proofs.Quiets.{one_cell_quiet}
use Rattle.tree.proofs.plans.OneCellPlan.touches.Goals as goal

pub returns : goal.returns
returns c = λ e. one_cell_quiet c.args.self.now.index c.args.self.now.word c.args.stretch.order c.args.stretch.at (λ y. eqb-false _ _ e (ap (λ (x : ℕ). c.args.self.now.index / 2 ^ (4 * x)) c.from.ensures ∙ ap (λ (x : ℕ). c.args.self.now.index / x) (power c.args.stretch.order) ∙ y))
