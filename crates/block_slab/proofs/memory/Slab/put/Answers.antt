use Rattle.std.proofs.Common.{◌≡◌, ℕ, Ok, set, ap, ◌∙◌, subst, ap₂, arith}
use Rattle.block.specs.Blocks.{Blocks}
use Rattle.block_slab.specs.Held.{shown}
use Rattle.layout.specs.Layout.{laid, place_answer}
use Rattle.layout.proofs.Layouts.{after_put, cell_held}
use Rattle.layout.proofs.Places.{placed}
use Rattle.block_slab.proofs.memory.Slab.put.Goals as goal

pub returns-clause-after : goal.returns-clause-after
returns-clause-after c =
    let ws = c.args.self.now.words.now in
    let hs = c.args.self.now.cells.now in
    let b = c.args.b in
    let i = c.args.i in
    let w = c.args.w in
    let m = laid ws hs in
    let seen : shown c.view.result ≡ m = ap₂ laid c.view.ensures.words c.view.ensures.cells in
    let told = placed m b i c.in_ok-k.k (subst (λ (x : Blocks). Ok c.in_ok-k.k ≡ place_answer x b i) seen c.in_ok-k.ensures) in
    let out = cell_held ws hs b told.0 in
    ap (λ (x : ℕ). laid (set ws x w) hs) told.2 ∙ after_put ws hs b out.0 i w told.1 (omega (arith, told.0, out.1))
