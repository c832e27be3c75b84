-- What a write into the words or the holder cells makes of the blocks.
use Rattle.std.proofs.Common.{◌≡◌, ℕ, ◌+◌, ◌-◌, ◌*◌, ◌/◌, ◌<◌, ◌≤◌, min, cond, ◌&&◌, eqb, leb, List, length, get_or, drop, set, refl, ap, ◌∙◌, ap₂, inl, inr, arith}
use Rattle.std.specs.Borrow.{GName}
use Rattle.std.proofs.lemmas.List.{get_or-set_same, get_or-set_other, length-set}
use Rattle.std.proofs.lemmas.Bool.Decides.{nat_tests}
use Rattle.std.proofs.lemmas.Bool.{cases_lt, cases_eq}
use Rattle.block.specs.Blocks.{Blocks}
use Rattle.block.specs.Calls.{written, kept, released, taken}
use Rattle.layout.specs.Layout.{room, held_in, word_in, laid_in, laid, past, Claimed}

pub room_same : (ws ws' hs hs' : List ℕ) → length ws' ≡ length ws → length hs' ≡ length hs → room ws' hs' ≡ room ws hs
room_same ws ws' hs hs' e f = ap₂ (λ (x y : ℕ). min (min (x / 16) y) 16384) e f

pub room_words : (ws hs : List ℕ) → 16 * room ws hs ≤ length ws
room_words ws hs = omega arith

pub room_cells : (ws hs : List ℕ) → room ws hs ≤ length hs
room_cells ws hs = omega arith

-- blocks are the same where their sizes, holders and words are
pub same_blocks : (m n : Blocks) → n.size ≡ m.size → ((b : ℕ) → n.holders b ≡ m.holders b) → ((b i : ℕ) → n.word b i ≡ m.word b i) → n ≡ m
same_blocks m n e f g = λ j. record { size = e j; holders = λ b. f b j; word = λ b i. g b i j }

-- a frame is the same where no cell past the blocks is written
pub past_same : (ns : List GName) (ws ws' hs hs' : List ℕ) → length ws' ≡ length ws → length hs' ≡ length hs
    → drop (16 * room ws hs) ws' ≡ drop (16 * room ws hs) ws → drop (room ws hs) hs' ≡ drop (room ws hs) hs → past ns ws' hs' ≡ past ns ws hs
past_same ns ws ws' hs hs' e f g h = λ j. record {
  names = ns;
  words = (ap (λ (n : ℕ). drop (16 * n) ws') (room_same ws ws' hs hs' e f) ∙ g) j;
  holders = (ap (λ (n : ℕ). drop n hs') (room_same ws ws' hs hs' e f) ∙ h) j;
}

-- the first n blocks, where their memory is there
module _ (n : ℕ) (ws hs : List ℕ) (fw : 16 * n ≤ length ws) (fh : n ≤ length hs) (b : ℕ) (l : b < n) where
  held_set : (h c : ℕ) → held_in n (set hs b h) c ≡ cond (eqb c b) h (held_in n hs c)
  held_set h c = elim (cases_eq c b) [
    | inl y ↦ let x = ap (λ (v : ℕ). get_or (set hs b h) v 0) y ∙ get_or-set_same hs b h 0 (omega arith) in grind (arith, nat_tests)
    | inr d ↦ let x = get_or-set_other hs b c h 0 d in grind (arith, nat_tests)
  ]

  pub word_set : (i w c j : ℕ) → i < 16 → 0 < get_or hs b 0 → word_in n (set ws (16 * b + i) w) hs c j ≡ cond (eqb c b && eqb j i) w (word_in n ws hs c j)
  word_set i w c j k p = elim (cases_lt j 16) [
    | inr q ↦ grind (arith, nat_tests)
    | inl q ↦ elim (cases_eq c b) [
      | inr d ↦ let x = get_or-set_other ws (16 * b + i) (16 * c + j) w 0 (λ e. d (omega arith)) in grind (arith, nat_tests)
      | inl y ↦ elim (cases_eq j i) [
        | inr d ↦ let x = get_or-set_other ws (16 * b + i) (16 * c + j) w 0 (λ e. d (omega arith)) in grind (arith, nat_tests)
        | inl z ↦
            let s : 16 * c + j ≡ 16 * b + i = omega arith in
            let x = ap (λ (v : ℕ). get_or (set ws (16 * b + i) w) v 0) s ∙ get_or-set_same ws (16 * b + i) w 0 (omega arith) in
            let u = ap (λ (v : ℕ). get_or hs v 0) y in grind (arith, nat_tests)
      ]
    ]
  ]

  laid_written : (i w : ℕ) → i < 16 → 0 < get_or hs b 0 → laid_in n (set ws (16 * b + i) w) hs ≡ written (laid_in n ws hs) b i w
  laid_written i w k p = same_blocks _ _ refl (λ c. refl) (λ c j. word_set i w c j k p)

  held_here : held_in n hs b ≡ get_or hs b 0
  held_here = grind (arith, nat_tests)

  -- a change of the holders alone, from some to some
  word_held : (h c j : ℕ) → 0 < get_or hs b 0 → 0 < h → word_in n ws (set hs b h) c j ≡ word_in n ws hs c j
  word_held h c j p q = let x = held_set h c in elim (cases_eq c b) [
    | inl y ↦ let u = ap (held_in n hs) y in let v = held_here in grind (arith, nat_tests)
    | inr d ↦ grind (arith, nat_tests)
  ]

  laid_kept : 0 < get_or hs b 0 → laid_in n ws (set hs b (get_or hs b 0 + 1)) ≡ kept (laid_in n ws hs) b
  laid_kept p = same_blocks _ _ refl (λ c. let x = held_set (get_or hs b 0 + 1) c in let y = held_here in grind (arith, nat_tests)) (λ c j. word_held (get_or hs b 0 + 1) c j p (omega arith))

  word_released : (c j : ℕ) → 0 < get_or hs b 0 → word_in n ws (set hs b (get_or hs b 0 - 1)) c j ≡ cond (eqb c b && leb (held_in n hs b) 1) 0 (word_in n ws hs c j)
  word_released c j p = let x = held_set (get_or hs b 0 - 1) c in let v = held_here in elim (cases_eq c b) [
    | inl y ↦ let u = ap (held_in n hs) y in grind (arith, nat_tests)
    | inr d ↦ grind (arith, nat_tests)
  ]

  laid_released : 0 < get_or hs b 0 → laid_in n ws (set hs b (get_or hs b 0 - 1)) ≡ released (laid_in n ws hs) b
  laid_released p = same_blocks _ _ refl (λ c. let x = held_set (get_or hs b 0 - 1) c in let y = held_here in grind (arith, nat_tests)) (λ c j. word_released c j p)

-- the same, of all the blocks that the memory has room for
module _ (ws hs : List ℕ) (b : ℕ) (l : b < room ws hs) where
  resized : (ws' hs' : List ℕ) → length ws' ≡ length ws → length hs' ≡ length hs → laid ws' hs' ≡ laid_in (room ws hs) ws' hs'
  resized ws' hs' e f = ap (λ (n : ℕ). laid_in n ws' hs') (room_same ws ws' hs hs' e f)

  pub after_put : (i w : ℕ) → i < 16 → 0 < get_or hs b 0 → laid (set ws (16 * b + i) w) hs ≡ written (laid ws hs) b i w
  after_put i w k p =
      resized (set ws (16 * b + i) w) hs (length-set ws (16 * b + i) w) refl
      ∙ laid_written (room ws hs) ws hs (room_words ws hs) (room_cells ws hs) b l i w k p

  pub after_keep : 0 < get_or hs b 0 → laid ws (set hs b (get_or hs b 0 + 1)) ≡ kept (laid ws hs) b
  after_keep p =
      resized ws (set hs b (get_or hs b 0 + 1)) refl (length-set hs b (get_or hs b 0 + 1))
      ∙ laid_kept (room ws hs) ws hs (room_words ws hs) (room_cells ws hs) b l p

  pub after_release : 0 < get_or hs b 0 → laid ws (set hs b (get_or hs b 0 - 1)) ≡ released (laid ws hs) b
  after_release p =
      resized ws (set hs b (get_or hs b 0 - 1)) refl (length-set hs b (get_or hs b 0 - 1))
      ∙ laid_released (room ws hs) ws hs (room_words ws hs) (room_cells ws hs) b l p

  pub after_claim : (ws' hs' : List ℕ) → Claimed ws hs b ws' hs' → laid ws' hs' ≡ taken (laid ws hs) b
  after_claim ws' hs' t =
      resized ws' hs' t.words_long t.cells_long
      ∙ same_blocks _ _ refl held word
    where
      held : (c : ℕ) → held_in (room ws hs) hs' c ≡ cond (eqb c b) 1 (held_in (room ws hs) hs c)
      held c = elim (cases_eq c b) [
        | inl y ↦ let x = ap (λ (v : ℕ). get_or hs' v 0) y ∙ t.held l in grind (arith, nat_tests)
        | inr d ↦ let x = t.others_held c d in grind (arith, nat_tests)
      ]

      word : (c j : ℕ) → word_in (room ws hs) ws' hs' c j ≡ cond (eqb c b) 0 (word_in (room ws hs) ws hs c j)
      word c j = let h = held c in elim (cases_lt j 16) [
        | inr q ↦ grind (arith, nat_tests)
        | inl q ↦ elim (cases_eq c b) [
          | inl y ↦ let x = ap (λ (v : ℕ). get_or ws' (16 * v + j) 0) y ∙ t.zeros l j q in grind (arith, nat_tests)
          | inr d ↦ let u = t.others_words c j d q in grind (arith, nat_tests)
        ]
      ]

-- a block that has holders is one of the blocks, and its cell counts them
pub cell_held : (ws hs : List ℕ) (b : ℕ) → 0 < (laid ws hs).holders b → (b < room ws hs) × ((laid ws hs).holders b ≡ get_or hs b 0)
cell_held ws hs b l = elim (cases_lt b (room ws hs)) [
  | inl h ↦ (h, grind (arith, nat_tests))
  | inr h ↦ absurd (let z : held_in (room ws hs) hs b ≡ 0 = grind (arith, nat_tests) in omega arith)
]
