use Rattle.std.proofs.Common.{◌≡◌, ℕ, Ok, ap₂, ◌-◌, get_or, set, ap, ◌∙◌, subst, arith}
use Rattle.block.proofs.Answered.{holders_told}
use Rattle.block.specs.Blocks.{Blocks}
use Rattle.block.specs.Calls.{holders_answer}
use Rattle.layout.specs.Layout.{laid}
use Rattle.block_slab.specs.Held.{shown}
use Rattle.layout.proofs.Layouts.{after_release, cell_held}
use Rattle.block_slab.proofs.memory.Slab.release.Goals as goal

pub returns-clause-after : goal.returns-clause-after
returns-clause-after c =
    let ws = c.args.self.now.words.now in
    let hs = c.args.self.now.cells.now in
    let b = c.args.b in
    let m = laid ws hs in
    let seen : shown c.view.result ≡ m = ap₂ laid c.view.ensures.words c.view.ensures.cells in
    let told = holders_told m b c.in_ok-held.held (subst (λ (x : Blocks). Ok c.in_ok-held.held ≡ holders_answer x b) seen c.in_ok-held.ensures) in
    let out = cell_held ws hs b told.0 in
    let one : c.in_ok-held.held - 1 ≡ get_or hs b 0 - 1 = ap (λ (x : ℕ). x - 1) (told.1 ∙ out.1) in
    ap (λ (x : ℕ). laid ws (set hs b x)) one ∙ after_release ws hs b out.0 (omega (arith, told.0, out.1))
