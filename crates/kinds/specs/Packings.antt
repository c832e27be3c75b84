-- That the kinds keep the laws of kinds: what the members of the code cite.
use Rattle.std.specs.Prelude.{ℕ, ◌≤◌, ◌≡◌, refl, true, Option, None, Some}
use Rattle.std.proofs.lemmas.Bool.Decides.{nat_tests}
use Rattle.std.proofs.Common.{ap, ◌∙◌, arith}
use Rattle.rules.specs.Cells.{dot_word, record_word}
use Rattle.rules.specs.Dots.{Dot, Sound}
use Rattle.rules.specs.Pens.{good_ink}
use Rattle.rules.proofs.Words.{dots_pack}
use Rattle.kinds.specs.Kinds.{word_cell, word_record, Byte}

pub one_low : 1 ≤ 4
one_low = omega arith

pub three_low : 3 ≤ 4
three_low = omega arith

pub four_low : 4 ≤ 4
four_low = omega arith

sound_good : (d : Dot) → Sound d → good_ink d ≡ true
sound_good d s = grind (arith, nat_tests)

pub dot_back : (d : Dot) → Sound d → word_cell (dot_word d) ≡ d
dot_back d s = let back = dots_pack.back d s in rw (ap good_ink back ∙ sound_good d s) back

pub record_back : (r : Option ℕ) → Byte r → word_record (record_word r) ≡ r
record_back None h = refl
record_back (Some o) h = grind (arith, nat_tests)
