use Rattle.std.proofs.Common.{◌≡◌, ℕ, replicate, ap, length, ◌<◌, sym, ◌∙◌, arith}
use Rattle.std.proofs.lemmas.Bool.{lt-ltb, cond-true}
use Rattle.block.specs.Calls.{taken}
use Rattle.layout.specs.Layout.{room, laid}
use Rattle.layout.proofs.Layouts.{after_claim}
use Rattle.layout.proofs.Makings.{claimed, claimed_past}
use Rattle.block_slab.proofs.memory.Slab.claim.Goals as goal

pub returns-then-k-size : goal.returns-then-k-size
returns-then-k-size c =
    let ws = c.args.self.now.words.now in
    let hs = c.args.self.now.cells.now in
    let b = c.args.b in
    let below : b < room ws hs = omega (arith, ap length c.view.ensures.words, ap length c.view.ensures.cells) in
    let long : length c.fill.new.self ≡ 16 = omega arith in
    let zeros : c.fill.new.self ≡ replicate 16 0 = c.fill.ensures.after (λ y e. e) ∙ ap (λ (n : ℕ). replicate n 0) (sym c.fill.ensures.len ∙ long) in
    let cells = claimed ws hs c.fill.new.self b below zeros in
    let after = after_claim ws hs b below _ _ cells in
    record {
      after = after ∙ sym (cond-true _ (taken (laid ws hs) b) (laid ws hs) (lt-ltb b (room ws hs) below));
      stays = claimed_past ws hs c.fill.new.self b below zeros _;
      cells = cells;
    }
