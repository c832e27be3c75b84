-- The words of a root block.
use Rattle.std.proofs.Common.{◌≡◌, ℕ, zero, suc, ◌+◌, ◌-◌, ◌<◌, ◌≤◌, true, false, ◌≢◌, List, [], ◌∷◌, map, length, get_or, set, sym, refl, ap, ◌∙◌, subst, arith}
use Rattle.std.proofs.Math.Path.{fun_ext}
use Rattle.std.proofs.Math.Decide.{ℕ_discrete, dec_lt}
use Rattle.std.specs.Fn.{Mut, Called}
use Rattle.std.specs.Array.{IsFromFnResult}
use Rattle.std.specs.List.{range_with_len}
use Rattle.std.proofs.lemmas.List.FromFn.{get_or-map-range_with_len, length-map-range_with_len, get_or-range_with_len}
use Rattle.std.proofs.lemmas.List.{get_or-map, get_or_past, length-map}
use Rattle.std.proofs.lemmas.Simd.{map-map}
use Rattle.block.specs.Blocks.{Blocks, Whole}
use Rattle.block.specs.Calls.{released}
use Rattle.block.specs.declared.refusals.Refusal.{Refusal}
use Rattle.forest.specs.Trees.{child, words, let_go}
use Rattle.forest.specs.Fills.{Blocked, Filled}
use Rattle.forest.proofs.Releases.{released_flat}
use Rattle.node.specs.declared.children.Child.{Child}
use Rattle.node.specs.declared.children.Child.TheVariants.{Kept, Fresh}
use Rattle.node.specs.Children.{word_at, fresh_at}
use Rattle.node.proofs.Arrays.{made_by}
use Rattle.node.proofs.Slots.{word_here, word_else, fresh_here, fresh_else}
use Rattle.count.specs.Steps.{put, gone}
use Rattle.count.proofs.Keeps.{put_here, put_else}
use Rattle.rules.specs.Cells.{depth}
use Rattle.root.specs.declared.parts.Part.{Part}
use Rattle.root.specs.declared.parts.Part.TheVariants.{Dots, Strips, Records}
use Rattle.root.specs.Parts.{slot}
use Rattle.root.specs.Sheets.{all_gone}

pub words_at : (m : Blocks) (p i : ℕ) → i < 16 → get_or (words m p) i 0 ≡ child m p i
unfolding words
words_at m p i l = get_or-map-range_with_len (child m p) 0 16 i i 0 l (omega arith)

pub length_words : (m : Blocks) (p : ℕ) → length (words m p) ≡ 16
unfolding words
length_words m p = length-map-range_with_len (child m p) 0 16

child_wide : (m : Blocks) → Whole m → (p i : ℕ) → 16 ≤ i → child m p i ≡ 0
child_wide m w zero i l = refl
child_wide m w (suc b) i l = w.wide b i l

kept_words : (ws : List ℕ) (j : ℕ) → word_at (map Kept ws) j ≡ get_or ws j 0
kept_words [] j = refl
kept_words (w ∷ ws) zero = refl
kept_words (w ∷ ws) (suc j) = kept_words ws j

-- children made one by one are the words of a block, all kept, where the closure makes of each number the word there
pub kept_made : {F : Type 0} (g : Mut F (ℕ × Unit {0}) Child) (f : F) (m : Blocks) (p : ℕ) (cs : List Child) → ((i : ℕ) (y : Child) (q : F) → i < 16 → Called g f (i, tt) y q → (q ≡ f) × (y ≡ Kept (child m p i))) → IsFromFnResult g f cs 16 → cs ≡ map Kept (words m p)
unfolding words
kept_made g f m p cs call r = made_by g f (λ i. Kept (child m p i)) cs (Kept 0) 16 call r ∙ sym (map-map Kept (child m p) (range_with_len 0 16))

none_fresh : (ws : List ℕ) (j : ℕ) → fresh_at (map Kept ws) j ≡ false
none_fresh [] j = refl
none_fresh (w ∷ ws) zero = refl
none_fresh (w ∷ ws) (suc j) = none_fresh ws j

-- the children cs of a new root block are the old ones, but at t a fresh one with the word q
module _ (m : Blocks) (p t q : ℕ) (cs : List Child) (whole : Whole m) (old : cs ≡ map Kept (words m p)) (l : t < 16) where
  long : t < length cs
  long = omega (arith, ap length old ∙ length-map (words m p) Kept ∙ length_words m p)

  new_words : word_at (set cs t (Fresh q)) ≡ put t q (child m p)
  new_words = fun_ext (λ j. elim (ℕ_discrete j t) [
    | yes y ↦ ap (word_at (set cs t (Fresh q))) y ∙ word_here cs t (Fresh q) long ∙ sym (put_here t q (child m p) j y)
    | no y ↦ word_else cs t (Fresh q) j y ∙ ap (λ (v : List Child). word_at v j) old ∙ kept_words (words m p) j ∙ elim (dec_lt j 16) [
      | yes h ↦ words_at m p j h
      | no h ↦ get_or_past (words m p) j 0 (omega (arith, length_words m p)) ∙ sym (child_wide m whole p j (omega arith))
    ] ∙ sym (put_else t q (child m p) j y)
  ])

  new_marks : fresh_at (set cs t (Fresh q)) ≡ put t true (λ _. false)
  new_marks = fun_ext (λ j. elim (ℕ_discrete j t) [
    | yes y ↦ ap (fresh_at (set cs t (Fresh q))) y ∙ fresh_here cs t (Fresh q) long ∙ sym (put_here t true (λ _. false) j y)
    | no y ↦ fresh_else cs t (Fresh q) j y ∙ ap (λ (v : List Child). fresh_at v j) old ∙ none_fresh (words m p) j ∙ sym (put_else t true (λ _. false) j y)
  ])

  pub root_filled : (o : Blocks) (b : ℕ) → Filled m o 1 b (word_at (set cs t (Fresh q))) (fresh_at (set cs t (Fresh q))) → Filled m o 1 b (put t q (child m p)) (put t true (λ _. false))
  root_filled o b f = subst (Filled m o 1 b (put t q (child m p))) new_marks (subst (λ (v : ℕ → ℕ). Filled m o 1 b v (fresh_at (set cs t (Fresh q)))) new_words f)

  pub root_blocked : (e : Refusal) → Blocked e 1 (word_at (set cs t (Fresh q))) m → Blocked e 1 (put t q (child m p)) m
  root_blocked e b = subst (λ (v : ℕ → ℕ). Blocked e 1 v m) new_words b

-- the first i trees of a list are let go
abbrev pub freed : (ℕ → ℕ) → Blocks → List ℕ → ℕ → Blocks
freed depth n ws zero = n
freed depth n ws (suc i) = let_go (depth i) (freed depth n ws i) (get_or ws i 0)

pub freed_more : (depth : ℕ → ℕ) (n u o : Blocks) (i d w : ℕ) (ws : List ℕ) → w ≡ get_or ws i 0 → d ≡ depth i → u ≡ freed depth n ws i → o ≡ let_go d u w → o ≡ freed depth n ws (i + 1)
freed_more depth n u o i d w ws ew ed eu eo =
    let s : suc i ≡ i + 1 = omega arith in
    eo ∙ ap (λ (v : ℕ). let_go d u v) ew ∙ ap (λ (v : ℕ). let_go v u (get_or ws i 0)) ed ∙ ap (λ (v : Blocks). let_go (depth i) v (get_or ws i 0)) eu ∙ ap (freed depth n ws) s

freed_gone : (depth : ℕ → ℕ) (m : Blocks) (b i : ℕ) → i ≤ 16 → freed depth (released m b) (words m (suc b)) i ≡ gone depth m b i
freed_gone depth m b zero l = refl
freed_gone depth m b (suc i) l = ap (λ (v : Blocks). let_go (depth i) v (get_or (words m (suc b)) i 0)) (freed_gone depth m b i (omega arith)) ∙ ap (let_go (depth i) (gone depth m b i)) (words_at m (suc b) i (omega arith))

-- past the ten trees nothing is let go
ten : (m : Blocks) (b : ℕ) → gone depth m b 10 ≡ gone depth m b 16
ten m b = sym (flat 15 refl ∙ flat 14 refl ∙ flat 13 refl ∙ flat 12 refl ∙ flat 11 refl ∙ flat 10 refl)
  where
    flat : (i : ℕ) → depth i ≡ 0 → gone depth m b (suc i) ≡ gone depth m b i
    flat i e = ap (λ (d : ℕ). let_go d (gone depth m b i) (m.word b i)) e ∙ released_flat (gone depth m b i) (m.word b i)

pub freed_all : (m n o : Blocks) (p i : ℕ) (ws : List ℕ) → p ≢ 0 → i ≡ 10 → ws ≡ words m p → n ≡ released m (p - 1) → o ≡ freed depth n ws i → o ≡ all_gone m p
freed_all m n o zero i ws h e ew en eo = absurd (h refl)
freed_all m n o (suc b) i ws h e ew en eo =
    let z : suc b - 1 ≡ b = omega arith in
    eo ∙ ap (freed depth n ws) e ∙ ap (λ (v : List ℕ). freed depth n v 10) ew ∙ ap (λ (v : Blocks). freed depth v (words m (suc b)) 10) (en ∙ ap (released m) z) ∙ freed_gone depth m b 10 (omega arith) ∙ ten m b

pub slot_low : (p : Part) → slot p < 10
slot_low (Dots layer) = let h = layer.eight in omega arith
slot_low Strips = omega arith
slot_low Records = omega arith

-- of all ten in the order of their slots
pub slot_at : (ps : List Part) (i : ℕ) (d : Part) → map slot ps ≡ range_with_len 0 10 → i < 10 → slot (get_or ps i d) ≡ i
slot_at ps i d all l =
    let h : i < length ps = omega (arith, sym (length-map ps slot) ∙ ap length all) in
    sym (get_or-map slot ps i d 0 h) ∙ ap (λ (v : List ℕ). get_or v i 0) all ∙ get_or-range_with_len 0 10 i 0 l ∙ omega arith
