use Rattle.forest.proofs.Promises.{released_all}
use Rattle.tree.proofs.trees.Tree.release.Goals as goal

pub returns : goal.returns
returns g c = record { after = c.let_go.ensures; stays = released_all _ _ _ _ c.let_go.ensures }
