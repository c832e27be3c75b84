use Rattle.std.proofs.Common.{◌≡◌, ℕ, ◌≤◌, ◌++◌, length, drop, replicate, ap, ◌∙◌, subst, ap₂, arith}
use Rattle.std.proofs.lemmas.List.{length-take}
use Rattle.layout.specs.Layout.{room, Cleared}
use Rattle.layout.proofs.Layouts.{room_cells}
use Rattle.layout.proofs.Makings.{filled, laid_free}
use Rattle.block_slab.proofs.memory.Slab.clear.Goals as goal

pub returns-clause-after : goal.returns-clause-after
returns-clause-after c =
    let ws = c.args.self.now.words.now in
    let hs = c.args.self.now.cells.now in
    let n = c.size-size.result in
    let zs = c.fill.new.self in
    let size : n ≡ room ws hs = c.size-size.ensures ∙ ap₂ room c.view.ensures.words c.view.ensures.cells in
    let few : n ≤ length hs = omega (arith, size, room_cells ws hs) in
    let fill : zs ≡ replicate n 0 = c.fill.ensures.after (λ y e. e) ∙ ap (λ (k : ℕ). replicate k 0) (omega (arith, length-take n hs)) in
    let cells : Cleared (room ws hs) hs (zs ++ drop n hs) = subst (λ (k : ℕ). Cleared k hs (zs ++ drop n hs)) size (filled hs zs n few fill) in
    laid_free ws hs (zs ++ drop n hs) cells.long cells.zeros
