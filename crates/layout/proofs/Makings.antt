-- What freeing all blocks, and putting one out, leave of the cells.
use Rattle.std.proofs.Common.{◌≡◌, ℕ, ◌+◌, ◌-◌, ◌*◌, ◌<◌, ◌≤◌, List, length, get_or, set, replicate, ◌++◌, drop, refl, ap, ◌∙◌, inl, inr, arith, rules}
use borrow.Rule.Slice.PartMut.{put_mid}
use Rattle.std.specs.Borrow.{GName}
use Rattle.std.proofs.lemmas.List.{get_or-set_same, get_or-set_other, get_or_append_left, length-set, length-append, length-drop, length-replicate, get_or-replicate, drop-set-lt, places}
use Rattle.std.proofs.lemmas.Slice.{drop-put_mid, drop-append-drop}
use Rattle.std.proofs.lemmas.Bool.{cases_lt}
use Rattle.std.proofs.lemmas.Bool.Decides.{nat_tests}
use Rattle.block.specs.Blocks.{all_free}
use Rattle.layout.specs.Layout.{room, held_in, word_in, laid, past, Fits, Claimed, Cleared}
use Rattle.layout.proofs.Layouts.{room_same, same_blocks, past_same}

module _ (ws hs ys : List ℕ) (b : ℕ) (l : b < room ws hs) (e : ys ≡ replicate 16 0) where
  abbrev zeroed : List ℕ
  zeroed = put_mid (16 * b) (16 * b + 16 - 16 * b) ws ys

  ys_long : length ys ≡ 16
  ys_long = ap length e

  zeroed_long : length zeroed ≡ length ws
  zeroed_long = let x = ys_long in search (rules, places)

  zeroed_in : (i : ℕ) → i < 16 → get_or zeroed (16 * b + i) 0 ≡ 0
  zeroed_in i k =
      let x = ys_long in
      let y : get_or zeroed (16 * b + i) 0 ≡ get_or ys i 0 = search (rules, places) in
      y ∙ ap (λ (zs : List ℕ). get_or zs i 0) e ∙ get_or-replicate 16 i 0 0 k

  zeroed_before : (k : ℕ) → k < 16 * b → get_or zeroed k 0 ≡ get_or ws k 0
  zeroed_before k h = let x = ys_long in search (rules, places)

  zeroed_after : (k : ℕ) → 16 * b + 16 ≤ k → get_or zeroed k 0 ≡ get_or ws k 0
  zeroed_after k h = let x = ys_long in search (rules, places)

  pub claimed : Claimed ws hs b zeroed (set hs b 1)
  claimed = record {
    words_long = zeroed_long;
    cells_long = length-set hs b 1;
    held = λ _. get_or-set_same hs b 1 0 (omega arith);
    zeros = λ _. zeroed_in;
    others_held = λ c d. get_or-set_other hs b c 1 0 d;
    others_words = λ c i d k. elim (cases_lt c b) [
      | inl h ↦ zeroed_before (16 * c + i) (omega arith)
      | inr h ↦ zeroed_after (16 * c + i) (omega (arith, d))
    ];
  }

  pub claimed_past : (ns : List GName) → past ns zeroed (set hs b 1) ≡ past ns ws hs
  claimed_past ns =
      past_same ns ws zeroed hs (set hs b 1) zeroed_long (length-set hs b 1)
      (drop-put_mid (16 * b) (16 * b + 16 - 16 * b) ws ys (16 * room ws hs) (omega arith) (omega arith) (omega (arith, ys_long)))
      (drop-set-lt (room ws hs) hs b 1 l)

-- the first n holder cells filled with zeros
pub filled : (hs zs : List ℕ) (n : ℕ) → n ≤ length hs → zs ≡ replicate n 0 → Cleared n hs (zs ++ drop n hs)
filled hs zs n l e =
    let long : length zs ≡ n = ap length e ∙ length-replicate n 0 in record {
      long = omega (arith, length-append zs (drop n hs), length-drop n hs);
      zeros = λ k m. get_or_append_left zs (drop n hs) 0 k (omega arith) ∙ ap (λ (xs : List ℕ). get_or xs k 0) e ∙ get_or-replicate n k 0 0 m;
      others = drop-append-drop n hs zs n (omega arith) long;
    }

-- where all the holder cells are zeros
module _ (ws hs hs' : List ℕ) (e : length hs' ≡ length hs) (z : (k : ℕ) → k < room ws hs → get_or hs' k 0 ≡ 0) where
  none_held : (b : ℕ) → held_in (room ws hs') hs' b ≡ 0
  none_held b =
      let r = room_same ws ws hs hs' refl e in
      elim (cases_lt b (room ws hs)) [
        | inl l ↦ let x = z b l in grind (arith, nat_tests)
        | inr l ↦ grind (arith, nat_tests)
      ]

  no_word : (b i : ℕ) → word_in (room ws hs') ws hs' b i ≡ 0
  no_word b i = let x = none_held b in grind (arith, nat_tests)

  pub laid_free : laid ws hs' ≡ all_free (room ws hs)
  laid_free = same_blocks _ _ (room_same ws ws hs hs' refl e) none_held no_word

  pub free_fits : Fits (laid ws hs')
  free_fits = ((λ b. let x = none_held b in omega arith), λ b i. let x = no_word b i in omega arith)
