-- The theorems on the meaning of a store, put together.
use Rattle.std.proofs.Common.{refl, arith}
use Rattle.std.proofs.lemmas.Bool.Decides.{nat_tests}
use Rattle.block.specs.declared.refusals.Refusal.TheVariants.{NoneFree, NotOut, TooMany, NoWord}
use Rattle.block.specs.Laws.{NumbersTell, OnlyNamed, FreeCounted, CallsKeepWhole}
use Rattle.block.proofs.Counts.{count_written, count_kept, count_released, count_freed, count_taken, none_left, all_out}
use Rattle.block.proofs.Wholes.{written_whole, kept_whole, released_whole, taken_whole}

pub numbers_tell : NumbersTell
numbers_tell NoneFree = refl
numbers_tell NotOut = refl
numbers_tell TooMany = refl
numbers_tell NoWord = refl

pub only_named : OnlyNamed
only_named = record {
  put = λ m b i w c d. record { holders = refl; words = λ j. grind (arith, nat_tests) };
  keep = λ m b c d. record { holders = grind (arith, nat_tests); words = λ j. refl };
  release = λ m b c d. record { holders = grind (arith, nat_tests); words = λ j. grind (arith, nat_tests) };
  take = λ m b c d. record { holders = grind (arith, nat_tests); words = λ j. grind (arith, nat_tests) };
}

pub free_counted : FreeCounted
free_counted = record {
  put = count_written;
  keep = count_kept;
  release = count_released;
  last = count_freed;
  take = count_taken;
  none = none_left;
  all_out = all_out;
}

pub calls_keep_whole : CallsKeepWhole
calls_keep_whole = record { put = written_whole; keep = kept_whole; release = released_whole; take = taken_whole }
