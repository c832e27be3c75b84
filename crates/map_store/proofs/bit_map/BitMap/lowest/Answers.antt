use Rattle.std.proofs.Common.{◌/◌, refl, arith}
use Rattle.marks.proofs.Marked.{word_full, lowest_in_word}
use Rattle.map_store.proofs.bit_map.BitMap.lowest.Goals as goal

pub returns-in_err-w : goal.returns-in_err-w
returns-in_err-w c = rw c.from_residual.ensures (λ k a l. word_full c.args.self.now.words (k / 32) k (c.in_err-w.ensures (k / 32) (omega arith) (omega arith)) refl)

pub returns : goal.returns
returns c =
    let told = c.in_ok-w.ensures in
    let z = lowest_in_word c.args.self.now.words c.args.from c.in_ok-w.w (omega arith) told.1 told.2 in
    (omega arith, z.1, z.2)
