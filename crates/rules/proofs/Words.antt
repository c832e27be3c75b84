-- Cells and their words.
use Rattle.std.proofs.Common.{◌≡◌, ℕ, ◌+◌, ◌-◌, cond, refl, ap, ◌∙◌, arith, Option, None, Some}
use Rattle.std.proofs.lemmas.Bool.{ne_eqb}
use Rattle.rules.specs.Dots.{Dot, Sound}
use Rattle.rules.specs.Cells.{dot_word, word_dot, record_word, word_record}
use Rattle.rules.specs.CellLaws.{DotsPack, StripsPack, RecordsPack}
use Rattle.rules.proofs.Bits.{binary_below, binary_back, binary_forth}

pub dots_pack : DotsPack
dots_pack = record {
  blank_zero = refl;
  back = λ d s. λ i. record { red = red d s i; green = green d s i; blue = blue d s i; alpha = alpha d s i };
  word = λ d s. omega arith;
}
  where
    red : (d : Dot) → Sound d → (word_dot (dot_word d)).red ≡ d.red
    red d s = omega arith

    green : (d : Dot) → Sound d → (word_dot (dot_word d)).green ≡ d.green
    green d s = omega arith

    blue : (d : Dot) → Sound d → (word_dot (dot_word d)).blue ≡ d.blue
    blue d s = omega arith

    alpha : (d : Dot) → Sound d → (word_dot (dot_word d)).alpha ≡ d.alpha
    alpha d s = omega arith

pub strips_pack : StripsPack
strips_pack = record { blank_zero = refl; back = binary_back 32; word = binary_below 32; forth = binary_forth 32 }

pub records_pack : RecordsPack
records_pack = record { blank_zero = refl; none_back = refl; back = back; word = λ o h. omega arith }
  where
    back : (o : ℕ) → word_record (record_word (Some o)) ≡ Some o
    back o =
        let e : 256 + o - 256 ≡ o = omega arith in
        ap (λ b. cond {A = Option ℕ} b None (Some (256 + o - 256))) (ne_eqb (256 + o) 0 (λ z. omega arith)) ∙ ap Some e
