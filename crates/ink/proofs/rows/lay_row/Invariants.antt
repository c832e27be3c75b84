use Rattle.std.proofs.Common.{◌≡◌, ◌+◌, length}
use Rattle.std.specs.Iterator.Adapters.{take_source, take_count, enumerate_source, enumerate_count}
use Rattle.std.specs.Slice.Iter.{iter_rest}
use Rattle.ink.specs.Meanings.{dots_of, laid_row}
use Rattle.ink.proofs.Wholes.{row_at}
use Rattle.ink.proofs.rows.lay_row.Given as goal

abbrev pub invariant-loop-i : goal.invariant-loop-i
invariant-loop-i g l =
    let it = take_source l.i-iterator in
    let at = enumerate_count it in
    let lays = g.R.InkRule.lays l.rule in
    record {
      room : at + take_count l.i-iterator ≡ length l.dots;
      whole : row_at lays (iter_rest (enumerate_source it)) l.dots at ≡ laid_row lays (dots_of l.inks) (dots_of l.initial.dots);
    }
