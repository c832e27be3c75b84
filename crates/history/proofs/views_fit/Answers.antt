use Rattle.history.proofs.Views.{views_fit}
use Rattle.history.proofs.views_fit.Goals as goal

pub returns : goal.returns
returns c = views_fit
