use Rattle.std.proofs.Common.{refl}
use Rattle.std.proofs.lemmas.Result.{err_from_is_err_and}
use Rattle.forest.proofs.Promises.{rebuilt, rebuilt_same, refused}
use Rattle.tree.proofs.trees.Tree.rebuild.Goals as goal

pub returns-in_err-build : goal.returns-in_err-build
returns-in_err-build g c =
    let p = err_from_is_err_and c.from_residual.result c.from_residual.ensures.1 in
    let h = rw (c.trunk-trunk.ensures.order, c.trunk-trunk.ensures.at, c.trunk-trunk.ensures.word) at c.in_err-build.ensures in
    rw (p.1, p.2) (λ v. refused _ _ _ _ _ _ c.args.self.shallow (h v).0 (h v).1)

pub returns-in-Kept : goal.returns-in-Kept
returns-in-Kept g c =
    let h = rw (c.trunk-trunk.ensures.order, c.trunk-trunk.ensures.at, c.trunk-trunk.ensures.word, c.in-Kept.is) at c.in_ok-build.ensures in
    λ v. rebuilt_same _ _ _ _ _ _ _ refl (h v).0 (h v).1

pub returns-in-Fresh : goal.returns-in-Fresh
returns-in-Fresh g c =
    let h = rw (c.trunk-trunk.ensures.order, c.trunk-trunk.ensures.at, c.trunk-trunk.ensures.word, c.in-Fresh.is) at c.in_ok-build.ensures in
    (refl, λ v. rebuilt _ _ _ _ _ _ _ (h v).0 (h v).1)
