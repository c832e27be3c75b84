-- The bytes of views.
use Rattle.std.proofs.Common.{◌≡◌, ℕ, ◌+◌, ◌*◌, ◌/◌, ◌%◌, ◌<◌, ◌≤◌, Bool, true, false, cond, ltb, List, [], ◌∷◌, ◌++◌, map, get_or, refl, ap, ◌∙◌, mul_comm, arith, ltb-false, ltb-true}
use Rattle.std.specs.List.{AllByRecursion, flat_map}
use Rattle.std.proofs.Math.ListN.{length-map}
use Rattle.std.proofs.lemmas.List.FromFn.{length-range_with_len}
use Rattle.rules.specs.Lists.{below}
use Rattle.rules.specs.Dots.{Dot, Sound}
use Rattle.rules.specs.Pictures.{flat_dot}
use Rattle.rules.specs.Bytes.{colour, mask, paper_bytes, mask_byte}
use Rattle.rules.specs.ViewLaws.{spelt, DecimalsSpell, RowLengths, RowsBytes, MaskBits}
use Rattle.rules.proofs.Bits.{binary_below, binary_back}
use Rattle.rules.proofs.Inks.{paper_byte}
use Rattle.rules.proofs.Draws.{flat_sound}
use Rattle.rules.proofs.Members.{length_flat_map_same}

pub row_lengths : RowLengths
row_lengths = record {
  colours = λ w s y. length_flat_map_same (λ x. paper_bytes (flat_dot s x y)) 3 (λ x. refl) (below w) ∙ ap (λ n. n * 3) (length-range_with_len 0 w) ∙ mul_comm w 3;
  masks = λ w s y. length-map (below ((w + 7) / 8)) (mask_byte s y) ∙ length-range_with_len 0 ((w + 7) / 8);
}

-- what holds of each byte of each dot holds of the row
all_append : {A : Type 0} (P : A → Type 0) (xs ys : List A) → AllByRecursion P xs → AllByRecursion P ys → AllByRecursion P (xs ++ ys)
all_append P [] ys a b = b
all_append P (x ∷ xs) ys a b = (a.0, all_append P xs ys a.1 b)

all_flat_map : {A B : Type 0} (P : B → Type 0) (f : A → List B) → ((a : A) → AllByRecursion P (f a)) → (xs : List A) → AllByRecursion P (flat_map f xs)
all_flat_map P f k [] = tt
all_flat_map P f k (x ∷ xs) = all_append P (f x) (flat_map f xs) (k x) (all_flat_map P f k xs)

all_map : {A B : Type 0} (P : B → Type 0) (f : A → B) → ((a : A) → P (f a)) → (xs : List A) → AllByRecursion P (map f xs)
all_map P f k [] = tt
all_map P f k (x ∷ xs) = (k x, all_map P f k xs)

three : (d : Dot) → Sound d → AllByRecursion (λ b. b < 256) (paper_bytes d)
three d s = (byte (paper_byte d.red d s s.red_covered), (byte (paper_byte d.green d s s.green_covered), (byte (paper_byte d.blue d s s.blue_covered), tt)))
  where
    byte : {b : ℕ} → b ≤ 255 → b < 256
    byte h = omega arith

pub rows_bytes : RowsBytes
rows_bytes colour w s y k =
    all_flat_map (λ b. b < 256) (λ x. paper_bytes (flat_dot s x y))
    (λ x. three (flat_dot s x y) (flat_sound s k x y))
    (below w)
rows_bytes mask w s y k = all_map (λ b. b < 256) (mask_byte s y) (λ j. binary_below 8 (λ b. s.protected (8 * j + b) y)) (below ((w + 7) / 8))

pub mask_bits : MaskBits
mask_bits s y k b l = binary_back 8 (λ i. s.protected (8 * k + i) y) b l

-- a text of digits that spells n
record Spells (n : ℕ) (text : List ℕ) : Type 0 where
  digits : AllByRecursion (λ c. (48 ≤ c) × (c ≤ 57)) text
  spells : spelt 0 text ≡ n
  first : get_or text 0 48 ≡ 48 → n ≡ 0

-- the decimal of n, by the outcomes of the tests whether one, two or three digits suffice
abbrev text : ℕ → Bool → Bool → Bool → List ℕ
text n a b c =
    cond a ((48 + n) ∷ [])
    (cond b ((48 + n / 10) ∷ []) (cond c ((48 + n / 10 / 10) ∷ []) ([] ++ ((48 + n / 10 / 10 % 10) ∷ [])) ++ ((48 + n / 10 % 10) ∷ [])) ++ ((48 + n % 10) ∷ []))

text_spells : (n : ℕ) (a b c : Bool) → n < 1000 → ltb n 10 ≡ a → ltb (n / 10) 10 ≡ b → ltb (n / 10 / 10) 10 ≡ c → Spells n (text n a b c)
text_spells n true b c l e f g =
    let p = ltb-true n 10 e in
    record { digits = ((omega arith, omega arith), tt); spells = omega arith; first = λ z. omega arith }
text_spells n false true c l e f g =
    let p = ltb-false n 10 e in
    let q = ltb-true (n / 10) 10 f in
    record { digits = ((omega arith, omega arith), ((omega arith, omega arith), tt)); spells = omega arith; first = λ z. omega arith }
text_spells n false false true l e f g =
    let p = ltb-false (n / 10) 10 f in
    let q = ltb-true (n / 10 / 10) 10 g in
    record { digits = ((omega arith, omega arith), ((omega arith, omega arith), ((omega arith, omega arith), tt))); spells = omega arith; first = λ z. omega arith }
text_spells n false false false l e f g = absurd (let p = ltb-false (n / 10 / 10) 10 g in omega arith)

pub decimals_spell : DecimalsSpell
decimals_spell n l =
    let k = text_spells n (ltb n 10) (ltb (n / 10) 10) (ltb (n / 10 / 10) 10) l refl refl refl in
    record { digits = k.digits; spells = k.spells; first = k.first }
