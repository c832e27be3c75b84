-- A branch is built part by part. Its order is o, its word p and its place a; m is before and n now.
use Rattle.std.proofs.Common.{◌≡◌, ℕ, zero, suc, ◌+◌, ◌-◌, ◌*◌, ◌<◌, ◌≤◌, Bool, true, false, not, ◌||◌, eqb, ◌≢◌, List, length, set, replicate, sym, refl, ap, ◌∙◌, subst, arith}
use Rattle.std.proofs.lemmas.Bool.Decides.{nat_tests}
use Rattle.block.specs.Blocks.{Blocks, Whole}
use Rattle.block.specs.declared.refusals.Refusal.{Refusal}
use Rattle.forest.specs.Trees.{child}
use Rattle.forest.specs.Frames.{Live}
use Rattle.forest.specs.Fills.{Blocked, Filled}
use Rattle.forest.specs.Plans.{any_to}
use Rattle.forest.specs.Rebuilds.{Done, Counted, Undone, Why, Dropped}
use Rattle.forest.proofs.Rebuilds.{Part, part_none, part_next, done_leaf, live_here, end_same, end_filled, undo_child, undo_words}
use Rattle.forest.proofs.Counts.{Counting, any_below, any_more, leaf_count, count_none, next_count, next_why, same_count, filled_count, words_why}
use Rattle.node.specs.declared.children.Child.{Child}
use Rattle.node.specs.declared.children.Child.TheVariants.{Kept}
use Rattle.node.specs.Children.{word_of, is_fresh, word_at, fresh_at}
use Rattle.node.proofs.Slots.{word_here, word_else, fresh_here, fresh_else}

-- the first i parts are built, and cs has them
pub record Built (new : ℕ → ℕ → ℕ) (m n : Blocks) (o p a : ℕ) (cs : List Child) (i : ℕ) : Type 0 where
  pub part : Part new m n (o - 1) p a (word_at cs) (fresh_at cs) (any_to i (fresh_at cs)) i
  pub count : Counting new m n (o - 1) p a (word_at cs) (any_to i (fresh_at cs)) i

pub none_fresh : (n j : ℕ) → fresh_at (replicate n (Kept 0)) j ≡ false
none_fresh zero j = refl
none_fresh (suc n) zero = refl
none_fresh (suc n) (suc j) = none_fresh n j

-- a cell, whose new word is q, and t whether that is another
pub cell_built : (new : ℕ → ℕ → ℕ) (m : Blocks) (o p a q : ℕ) (t : Bool) → o ≡ 0 → q ≡ new a p → not (eqb q p) ≡ t → Done new m m o p a q t × Counted new m m o p a q t
cell_built new m o p a q t z e f = subst (λ (k : ℕ). Done new m m k p a q t × Counted new m m k p a q t) (sym z) (done_leaf new m p a q t e (λ x. same (f ∙ x)), subst (Counted new m m 0 p a q) f (leaf_count new m p a q e))
  where
    same : not (eqb q p) ≡ false → q ≡ p
    same x = grind (arith, nat_tests)

pub built_none : (new : ℕ → ℕ → ℕ) (m : Blocks) (o p a : ℕ) (cs : List Child) → Built new m m o p a cs 0
built_none new m o p a cs = record { part = part_none new m (o - 1) p a (word_at cs) (fresh_at cs); count = count_none new m (o - 1) p a (word_at cs) }

module _ (new : ℕ → ℕ → ℕ) (m n : Blocks) (o p a : ℕ) (cs : List Child) (i : ℕ) (h : o ≢ 0) (v : Live m o p) (f : Built new m n o p a cs i) where
  -- what a rebuild of part i promises, where the code has its order as k, its place as b and its word as w
  at_part : (F : ℕ → ℕ → ℕ → Type 0) (k b w : ℕ) → k ≡ o - 1 → b ≡ a * 16 + i → w ≡ child n p i → (Live n k w → F k b w) → F (o - 1) (a * 16 + i) (child n p i)
  at_part F k b w ek eb ew g =
      let g₁ = subst (λ (x : ℕ). Live n x w → F x b w) ek g in
      let g₂ = subst (λ (x : ℕ). Live n (o - 1) w → F (o - 1) x w) eb g₁ in
      subst (λ (x : ℕ). Live n (o - 1) x → F (o - 1) (a * 16 + i) x) ew g₂ (live_here new m n o p a (word_at cs) (fresh_at cs) (any_to i (fresh_at cs)) i (child n p i) h v f.part refl)

  pub built_next : (u : Blocks) (k b w : ℕ) (x : Child) → k ≡ o - 1 → b ≡ a * 16 + i → w ≡ child n p i → i < length cs → (Live n k w → Done new n u k w b (word_of x) (is_fresh x) × Counted new n u k w b (word_of x) (is_fresh x)) → Built new m u o p a (set cs i x) (i + 1)
  built_next u k b w x ek eb ew l g =
      let d = at_part (λ k b w. Done new n u k w b (word_of x) (is_fresh x) × Counted new n u k w b (word_of x) (is_fresh x)) k b w ek eb ew g in
      let words = λ (j : ℕ) (s : j < i). word_else cs i x j (omega arith) in
      let marks = λ (j : ℕ) (s : j < i). fresh_else cs i x j (omega arith) in
      let more : (any_to i (fresh_at cs) || is_fresh x) ≡ any_to (i + 1) (fresh_at (set cs i x)) =
      ap (λ t. t || is_fresh x) (sym (any_below i (fresh_at (set cs i x)) (fresh_at cs) marks)) ∙ ap (λ t. any_to i (fresh_at (set cs i x)) || t) (sym (fresh_here cs i x l)) ∙ sym (any_more i (fresh_at (set cs i x))) in
      record {
        part = subst (λ t. Part new m u (o - 1) p a (word_at (set cs i x)) (fresh_at (set cs i x)) t (i + 1)) more (part_next new m n u o p a (word_at cs) (word_at (set cs i x)) (fresh_at cs) (fresh_at (set cs i x)) (any_to i (fresh_at cs)) i (word_of x) (is_fresh x) h v f.part d.0 words (word_here cs i x l) marks (fresh_here cs i x l));
        count = subst (λ t. Counting new m u (o - 1) p a (word_at (set cs i x)) t (i + 1)) more (next_count new m n o p a (word_at cs) (fresh_at cs) (any_to i (fresh_at cs)) i h v f.part f.count u (child n p i) (word_of x) (is_fresh x) (word_at (set cs i x)) refl d.0.grown words (word_here cs i x l) d.1);
      }

  -- part i was refused, from n to u, and from u to z the others were let go
  pub built_refused : (u z : Blocks) (k b w : ℕ) (e : Refusal) → k ≡ o - 1 → b ≡ a * 16 + i → w ≡ child n p i → i < 16 → ((j : ℕ) → i ≤ j → fresh_at cs j ≡ false) → (Live n k w → Undone n u k w b × Why e new n k w b) → Dropped (o - 1) (word_at cs) (fresh_at cs) u z → Undone m z o p a × Why e new m o p a
  built_refused u z k b w e ek eb ew l rest g r =
      let d = at_part (λ k b w. Undone n u k w b × Why e new n k w b) k b w ek eb ew g in (
        undo_child new m n o p a (word_at cs) (fresh_at cs) (any_to i (fresh_at cs)) i h v f.part rest (omega arith) u z (child n p i) refl d.0 r,
        next_why new m n o p a (word_at cs) (fresh_at cs) (any_to i (fresh_at cs)) i h v f.part f.count e (child n p i) l refl d.1,
      )

  module _ (all : i ≡ 16) (t : Bool) (told : t ≡ any_to 16 (fresh_at cs)) where
    told_here : any_to i (fresh_at cs) ≡ t
    told_here = ap (λ (x : ℕ). any_to x (fresh_at cs)) all ∙ sym told

    pub built_same : t ≡ false → Done new m n o p a p false × Counted new m n o p a p false
    built_same e = (
      end_same new m n o p a (word_at cs) (fresh_at cs) (any_to i (fresh_at cs)) i h v f.part all (told_here ∙ e),
      same_count new m n o p a (word_at cs) (fresh_at cs) (any_to i (fresh_at cs)) i h v f.part f.count all (told_here ∙ e),
    )

    pub built_filled : (u : Blocks) (q : ℕ) → t ≡ true → Whole u → (0 < q) × Filled n u (o - 1) (q - 1) (word_at cs) (fresh_at cs) → Done new m u o p a q true × Counted new m u o p a q true
    built_filled u q e w g = (
      end_filled new m n o p a (word_at cs) (fresh_at cs) (any_to i (fresh_at cs)) i h v f.part all u q (told_here ∙ e) w g.0 g.1,
      filled_count new m n o p a (word_at cs) (fresh_at cs) (any_to i (fresh_at cs)) i h v f.part f.count all u q (told_here ∙ e) g.0 g.1,
    )

    -- no block was had for the parts, and they were let go
    pub built_blocked : (u z : Blocks) (e : Refusal) → t ≡ true → ((j : ℕ) → i ≤ j → fresh_at cs j ≡ false) → (u ≡ n) × Blocked e (o - 1) (word_at cs) n → Dropped (o - 1) (word_at cs) (fresh_at cs) u z → Undone m z o p a × Why e new m o p a
    built_blocked u z e c rest g r = (
      undo_words new m n o p a (word_at cs) (fresh_at cs) (any_to i (fresh_at cs)) i h v f.part rest (omega arith) u z g.0 r,
      words_why new m n o p a (word_at cs) (fresh_at cs) (any_to i (fresh_at cs)) i h v f.part f.count all e (told_here ∙ c) g.1,
    )
