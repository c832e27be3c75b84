-- A rebuild takes as many blocks as are needed.
use Rattle.std.proofs.Common.{◌≡◌, ℕ, zero, suc, ◌+◌, ◌-◌, ◌*◌, ◌<◌, ◌≤◌, Bool, true, false, cond, not, ◌||◌, eqb, ◌≢◌, sym, refl, ap, ◌∙◌, subst, add-one, arith, below_more, true≢false}
use Rattle.std.proofs.Math.Decide.{ℕ_discrete}
use Rattle.std.proofs.lemmas.Bool.Decides.{nat_tests}
use Rattle.std.proofs.lemmas.Bool.{cond-true, cond-false}
use Rattle.std.proofs.Math.Bool.{or-true}
use Rattle.block.specs.Blocks.{Blocks, sum_to, free_count, spare}
use Rattle.forest.specs.Trees.{child}
use Rattle.forest.specs.Balance.{hold, node, Points}
use Rattle.forest.specs.Frames.{Grown, Live}
use Rattle.forest.specs.Fills.{Filled, Blocked}
use Rattle.forest.specs.Plans.{any_to, changes, needed}
use Rattle.forest.specs.Rebuilds.{Shape, Counted, Why}
use Rattle.block.proofs.Sums.{sum_same, sum_at, sum_more, sum_none, sum_ones}
use Rattle.block.proofs.Counts.{all_out}
use Rattle.forest.proofs.Sums.{sum_front}
use Rattle.block.specs.declared.refusals.Refusal.{Refusal}
use Rattle.block.specs.declared.refusals.Refusal.TheVariants.{NoneFree, NotOut, TooMany, NoWord}
use Rattle.forest.proofs.Fills.{hold_one}
use Rattle.forest.proofs.Balances.{hit_self, hit_other}
use Rattle.forest.proofs.Rebuilds.{Part, child_grown, live_child, live_out, live_down, points_child, points_stay}
use Rattle.forest.proofs.Reaches.{few_holders}

-- f and g agree below n
pub any_below : (n : ℕ) (f g : ℕ → Bool) → ((j : ℕ) → j < n → f j ≡ g j) → any_to n f ≡ any_to n g
any_below zero f g h = refl
any_below (suc n) f g h = ap (λ t. t || f n) (any_below n f g (λ j l. h j (omega arith))) ∙ ap (λ t. any_to n g || t) (h n (omega arith))

any_same : (n : ℕ) (f g : ℕ → Bool) → ((j : ℕ) → f j ≡ g j) → any_to n f ≡ any_to n g
any_same n f g h = ap (any_to n) (λ i j. h j i)

pub any_more : (i : ℕ) (f : ℕ → Bool) → any_to (i + 1) f ≡ (any_to i f || f i)
any_more i f = rw add-one

pub any_at : (n : ℕ) (f : ℕ → Bool) (j : ℕ) → j < n → f j ≡ true → any_to n f ≡ true
any_at zero f j l e = absurd (omega arith)
any_at (suc n) f j l e = elim (ℕ_discrete j n) [
  | yes y ↦ ap (λ t. any_to n f || t) (sym (ap f y) ∙ e) ∙ or-true (any_to n f)
  | no d ↦ ap (λ t. t || f n) (any_at n f j (omega arith) e)
]

module _ (new : ℕ → ℕ → ℕ) (m n : Blocks) (f : Grown m n) where
  pub changes_grown : (k p a : ℕ) → Live m k p → changes new n k p a ≡ changes new m k p a
  changes_grown zero p a v = refl
  changes_grown (suc k) p a v = any_same 16 _ _ (λ j. changes_grown k (child n p j) (a * 16 + j) (subst (Live m k) (sym (child_grown m n f k p j v)) (live_child m k p j v)) ∙ ap (λ (x : ℕ). changes new m k x (a * 16 + j)) (child_grown m n f k p j v))

  pub needed_grown : (k p a : ℕ) → Live m k p → needed new n k p a ≡ needed new m k p a
  needed_grown zero p a v = refl
  needed_grown (suc k) p a v =
      ap (λ t. cond t (suc (sum_to 16 (λ j. needed new n k (child n p j) (a * 16 + j)))) 0) (changes_grown (suc k) p a v) ∙
      ap (λ (s : ℕ). cond (changes new m (suc k) p a) (suc s) 0) (sum_same 16 _ _ (λ j l. needed_grown k (child n p j) (a * 16 + j) (subst (Live m k) (sym (child_grown m n f k p j v)) (live_child m k p j v)) ∙ ap (λ (x : ℕ). needed new m k x (a * 16 + j)) (child_grown m n f k p j v)))

pub needed_changes : (new : ℕ → ℕ → ℕ) (m : Blocks) (k p a : ℕ) → 0 < needed new m k p a → changes new m k p a ≡ true
needed_changes new m zero p a h = absurd (omega arith)
needed_changes new m (suc k) p a h = go (changes new m (suc k) p a) h
  where
    go : (t : Bool) → 0 < cond t (suc (sum_to 16 (λ j. needed new m k (child m p j) (a * 16 + j)))) 0 → t ≡ true
    go true h = refl
    go false h = absurd (omega arith)

any_each : (n : ℕ) (f : ℕ → Bool) (j : ℕ) → j < n → any_to n f ≡ false → f j ≡ false
any_each n f j l e = go (f j) refl
  where
    go : (t : Bool) → f j ≡ t → f j ≡ false
    go true y = absurd (true≢false (sym (any_at n f j l y) ∙ e))
    go false y = y

-- a tree in which nothing changes
pub shape_same : (new : ℕ → ℕ → ℕ) (m : Blocks) (k p a : ℕ) → changes new m k p a ≡ false → Shape new m m k p a p
shape_same new m zero p a h = tt
shape_same new m (suc k) p a h = ((λ _. refl), (λ e. absurd (true≢false (sym e ∙ h))), λ i l. shape_same new m k (child m p i) (a * 16 + i) (any_each 16 (λ j. changes new m k (child m p j) (a * 16 + j)) i l h))

-- after more was built
pub shape_grown : (new : ℕ → ℕ → ℕ) (m n o : Blocks) → Grown n o → (k p a q : ℕ) → Live n k q → Shape new m n k p a q → Shape new m o k p a q
shape_grown new m n o g zero p a q v s = tt
shape_grown new m n o g (suc k) p a q v s = (s.0, s.1, λ i l. subst (Shape new m o k (child m p i) (a * 16 + i)) (sym (child_grown n o g k q i v)) (shape_grown new m n o g k (child m p i) (a * 16 + i) (child n q i) (live_child n k q i v) (s.2 i l)))

-- of a tree that stood before
shape_base : (new : ℕ → ℕ → ℕ) (m n o : Blocks) → Grown m n → (k p a q : ℕ) → Live m k p → Shape new n o k p a q → Shape new m o k p a q
shape_base new m n o g zero p a q v s = tt
shape_base new m n o g (suc k) p a q v s =
    let c = changes_grown new m n g (suc k) p a v in (
      (λ e. s.0 (c ∙ e)),
      (λ e. let r = s.1 (c ∙ e) in (r.0, r.1, omega (arith, r.2, g.held r.0))),
      λ i l. shape_base new m n o g k (child m p i) (a * 16 + i) (child o q i) (live_child m k p i v) (subst (λ (x : ℕ). Shape new n o k x (a * 16 + i) (child o q i)) (child_grown m n g k p i v) (s.2 i l)),
    )

pub grown_filled : (n o : Blocks) (k b : ℕ) (words : ℕ → ℕ) (fresh : ℕ → Bool) → Filled n o k b words fresh → Grown n o
grown_filled n o k b words fresh g = record { size = g.size; held = λ c. omega (arith, g.holders c); same = λ c i h. g.others c i (λ e. omega (arith, g.was, ap n.holders e)) }

-- the first i children
pub record Counting (new : ℕ → ℕ → ℕ) (m n : Blocks) (k p a : ℕ) (words : ℕ → ℕ) (changed : Bool) (i : ℕ) : Type 0 where
  pub marks : changed ≡ any_to i (λ j. changes new m k (child m p j) (a * 16 + j))
  pub spent : free_count n + sum_to i (λ j. needed new m k (child m p j) (a * 16 + j)) ≡ free_count m
  pub shape : (j : ℕ) → j < i → Shape new m n k (child m p j) (a * 16 + j) (words j)

module _ (new : ℕ → ℕ → ℕ) (m : Blocks) (k p a : ℕ) where
  pub count_none : (words : ℕ → ℕ) → Counting new m m k p a words false 0
  unfolding sum_to
  count_none words = record { marks = refl; spent = omega arith; shape = λ j l. absurd (omega arith) }

  pub count_more : (n u : Blocks) (words other : ℕ → ℕ) (changed t : Bool) (i : ℕ) → Live m (suc k) p → Grown m n → Grown n u → ((j : ℕ) → j < i → Live n k (words j)) → ((j : ℕ) → j < i → other j ≡ words j) → Counting new m n k p a words changed i → Counted new n u k (child n p i) (a * 16 + i) (other i) t → Counting new m u k p a other (changed || t) (i + 1)
  count_more n u words other changed t i v g gu lw ew f d =
      let e = child_grown m n g k p i v in
      let l = subst (Live m k) (sym e) (live_child m k p i v) in
      let c = changes_grown new m n g k (child n p i) (a * 16 + i) l ∙ ap (λ (x : ℕ). changes new m k x (a * 16 + i)) e in
      let s = needed_grown new m n g k (child n p i) (a * 16 + i) l ∙ ap (λ (x : ℕ). needed new m k x (a * 16 + i)) e in
      record {
        marks = ap (λ x. x || t) f.marks ∙ ap (λ x. any_to i (λ j. changes new m k (child m p j) (a * 16 + j)) || x) (d.marks ∙ c) ∙ sym (any_more i (λ j. changes new m k (child m p j) (a * 16 + j)));
        spent = omega (arith, sum_more i (λ j. needed new m k (child m p j) (a * 16 + j)), f.spent, d.spent, s);
        shape = below_more (λ j. Shape new m u k (child m p j) (a * 16 + j) (other j)) i
            (λ j h. subst (Shape new m u k (child m p j) (a * 16 + j)) (sym (ew j h)) (shape_grown new m n u gu k (child m p j) (a * 16 + j) (words j) (lw j h) (f.shape j h)))
            (shape_base new m n u g k (child m p i) (a * 16 + i) (other i) (live_child m k p i v) (subst (λ (x : ℕ). Shape new n u k x (a * 16 + i) (other i)) e d.shape));
      }

  -- a child that lacks blocks lacks them here
  pub short_more : (n : Blocks) (words : ℕ → ℕ) (changed : Bool) (i : ℕ) → i < 16 → Live m (suc k) p → Grown m n → Counting new m n k p a words changed i → free_count n < needed new n k (child n p i) (a * 16 + i) → free_count m < needed new m (suc k) p a
  short_more n words changed i l v g f h =
      let e = child_grown m n g k p i v in
      let lv = subst (Live m k) (sym e) (live_child m k p i v) in
      let s = needed_grown new m n g k (child n p i) (a * 16 + i) lv ∙ ap (λ (x : ℕ). needed new m k x (a * 16 + i)) e in
      let c = any_at 16 (λ j. changes new m k (child m p j) (a * 16 + j)) i l (needed_changes new m k (child m p i) (a * 16 + i) (omega (arith, s, h))) in
      let z = cond-true (changes new m (suc k) p a) (suc (sum_to 16 (λ j. needed new m k (child m p j) (a * 16 + j)))) 0 c in
      let q = sum_more i (λ j. needed new m k (child m p j) (a * 16 + j)) in
      let r = sum_front (i + 1) 16 (λ j. needed new m k (child m p j) (a * 16 + j)) (omega arith) in
      omega (arith, z, q, r, s, h, f.spent)

  pub count_same : (n : Blocks) (words : ℕ → ℕ) → n ≡ m → Counting new m n k p a words false 16 → Counted new m n (suc k) p a p false
  count_same n words e f = record {
    marks = f.marks;
    spent = omega (arith, ap free_count e, cond-false (changes new m (suc k) p a) (suc (sum_to 16 (λ j. needed new m k (child m p j) (a * 16 + j)))) 0 (sym f.marks));
    shape = subst (λ (x : Blocks). Shape new m x (suc k) p a p) (sym e) (shape_same new m (suc k) p a (sym f.marks));
  }

  pub short_full : (n : Blocks) (words : ℕ → ℕ) → Counting new m n k p a words true 16 → free_count n ≡ 0 → free_count m < needed new m (suc k) p a
  short_full n words f z = omega (arith, f.spent, z, cond-true (changes new m (suc k) p a) (suc (sum_to 16 (λ j. needed new m k (child m p j) (a * 16 + j)))) 0 (sym f.marks))

  filled_free : (n u : Blocks) (b : ℕ) (words : ℕ → ℕ) (fresh : ℕ → Bool) → ((j : ℕ) → j < 16 → Live n k (words j)) → Filled n u k b words fresh → free_count u + 1 ≡ free_count n
  unfolding free_count
  filled_free n u b words fresh lv g =
      let s = sum_at n.size (λ c. spare (u.holders c)) (λ c. spare (n.holders c)) b g.inside agree in
      let e = ap (λ (x : ℕ). sum_to x (λ c. spare (u.holders c))) g.size in
      let x : spare (n.holders b) ≡ 1 = let z = g.was in grind (arith, nat_tests) in
      let y : spare (u.holders b) ≡ 0 = let z = g.holders b in let h = hit_self b in grind (arith, nat_tests) in
      omega (arith, s, e, x, y)
    where
      unheld : (c : ℕ) → n.holders c ≡ 0 → (j : ℕ) → j < 16 → hold k (words j) c ≡ 0
      unheld c z j l = elim (ℕ_discrete (hold k (words j) c) 0) [
        | yes e ↦ e
        | no d ↦ absurd (omega (arith, z, live_out n k (words j) (lv j l) c (omega arith)))
      ]

      cond_zero : (t : Bool) (x : ℕ) → x ≡ 0 → cond t 0 x ≡ 0
      cond_zero true x e = refl
      cond_zero false x e = e

      agree : (c : ℕ) → c ≢ b → spare (u.holders c) ≡ spare (n.holders c)
      agree c d = elim (ℕ_discrete (n.holders c) 0) [
        | yes z ↦
            let w = sum_none 16 (λ j. cond (fresh j) 0 (hold k (words j) c)) (λ j l. cond_zero (fresh j) (hold k (words j) c) (unheld c z j l)) in
            let h = g.holders c in let o = hit_other b c d in
            let q : u.holders c ≡ 0 = omega arith in grind (arith, nat_tests)
        | no z ↦
            let h = g.holders c in
            let q : u.holders c ≢ 0 = omega arith in grind (arith, nat_tests)
      ]

  pub count_filled : (n u : Blocks) (b : ℕ) (words : ℕ → ℕ) (fresh : ℕ → Bool) → ((j : ℕ) → j < 16 → Live n k (words j)) → Grown m n → Filled n u k b words fresh → Counting new m n k p a words true 16 → Counted new m u (suc k) p a (suc b) true
  count_filled n u b words fresh lv gr g f = record {
    marks = f.marks;
    spent = omega (arith, f.spent, filled_free n u b words fresh lv g, cond-true (changes new m (suc k) p a) (suc (sum_to 16 (λ j. needed new m k (child m p j) (a * 16 + j)))) 0 (sym f.marks));
    shape = (
      (λ e. absurd (true≢false (f.marks ∙ e))),
      (λ _. (b, refl, omega (arith, g.was, gr.held b))),
      λ j l. subst (Shape new m u k (child m p j) (a * 16 + j)) (sym (g.filled j l)) (shape_grown new m n u (grown_filled n u k b words fresh g) k (child m p j) (a * 16 + j) (words j) (lv j l) (f.shape j l)),
    );
  }

-- at the order as the code has it
module _ (new : ℕ → ℕ → ℕ) (m n : Blocks) (o p a : ℕ) (words : ℕ → ℕ) (fresh : ℕ → Bool) (changed : Bool) (i : ℕ) (h : o ≢ 0) (v : Live m o p) (f : Part new m n (o - 1) p a words fresh changed i) (c : Counting new m n (o - 1) p a words changed i) where
  up : suc (o - 1) ≡ o
  up = omega arith

  pub next_count : (u : Blocks) (w q : ℕ) (t : Bool) (other : ℕ → ℕ) → w ≡ child n p i → Grown n u → ((j : ℕ) → j < i → other j ≡ words j) → other i ≡ q → Counted new n u (o - 1) w (a * 16 + i) q t → Counting new m u (o - 1) p a other (changed || t) (i + 1)
  next_count u w q t other e gu ew eq d = count_more new m (o - 1) p a n u words other changed t i (live_down m o p h v) f.grown gu f.live ew c (subst (λ (x : ℕ). Counted new n u (o - 1) (child n p i) (a * 16 + i) x t) (sym eq) (subst (λ (x : ℕ). Counted new n u (o - 1) x (a * 16 + i) q t) e d))

  marks_few : (k : ℕ) (d : ℕ) → sum_to k (λ j. cond (fresh j) (hold (o - 1) (words j) d) 0) ≤ k
  marks_few k d = sum_ones k _ (λ j l. one (fresh j) (hold (o - 1) (words j) d) (hold_one (o - 1) (words j) d))
    where
      one : (t : Bool) (x : ℕ) → x ≤ 1 → cond t x 0 ≤ 1
      one true x h = h
      one false x h = omega arith

  pub next_why : (x : Refusal) (w : ℕ) → i < 16 → w ≡ child n p i → Why x new n (o - 1) w (a * 16 + i) → Why x new m o p a
  next_why NoneFree w l e s = subst (λ (x : ℕ). free_count m < needed new m x p a) up (short_more new m (o - 1) p a n words changed i l (live_down m o p h v) f.grown c (subst (λ (x : ℕ). free_count n < needed new n (o - 1) x (a * 16 + i)) e s))
  next_why TooMany w l e s = λ deep t label outside b q.
      let lm = live_down m o p h v in
      let q₁ = subst (λ (x : ℕ). Points label (node t x a) p) (sym up) q in
      let z = f.balance deep t label outside b q₁ in
      let ec = child_grown m n f.grown (o - 1) p i lm in
      let pw = subst (Points z.0 (node t (o - 1) (a * 16 + i))) (sym (e ∙ ec)) (points_stay label z.0 (node t (o - 1) (a * 16 + i)) (child m p i) (λ y g. z.3 y (live_out m (o - 1) (child m p i) (live_child m (o - 1) p i lm) y g)) (points_child deep m label outside b t (o - 1) a p i q₁)) in
      let r = s deep t z.0 (λ c. sum_to i (λ j. cond (fresh j) (hold (o - 1) (words j) c) 0) + outside c) z.1 pw in
      (r.0, omega (arith, r.1, marks_few i r.0, f.grown.size))
  next_why NotOut w l e s = s
  next_why NoWord w l e s = s

  module _ (e : i ≡ 16) where
    at_end : (t : Bool) → changed ≡ t → Counting new m n (o - 1) p a words t 16
    at_end t x = subst (Counting new m n (o - 1) p a words t) e (subst (λ y. Counting new m n (o - 1) p a words y i) x c)

    pub same_count : changed ≡ false → Counted new m n o p a p false
    same_count x = subst (λ (y : ℕ). Counted new m n y p a p false) up (count_same new m (o - 1) p a n words (f.quiet x) (at_end false x))

    pub filled_count : (u : Blocks) (q : ℕ) → changed ≡ true → 0 < q → Filled n u (o - 1) (q - 1) words fresh → Counted new m u o p a q true
    filled_count u q x l g =
        let y : suc (q - 1) ≡ q = omega arith in
        subst (λ (z : ℕ). Counted new m u o p a z true) y
        (subst (λ (y : ℕ). Counted new m u y p a (suc (q - 1)) true) up (count_filled new m (o - 1) p a n u (q - 1) words fresh (λ j l. f.live j (omega arith)) f.grown g (at_end true x)))

    pub words_why : (x : Refusal) → changed ≡ true → Blocked x (o - 1) words n → Why x new m o p a
    words_why NoneFree y g = subst (λ (z : ℕ). free_count m < needed new m z p a) up (short_full new m (o - 1) p a n words (at_end true y) (all_out n g))
    words_why TooMany y g = λ deep t label outside b q.
        let d = g.2.0 in
        let out = live_out n (o - 1) (words g.0) (f.live g.0 (omega (arith, g.1))) d g.2.1 in
        let z = f.balance deep t label outside b (subst (λ (x : ℕ). Points label (node t x a) p) (sym up) q) in
        let r = few_holders deep n z.0 (λ c. sum_to i (λ j. cond (fresh j) (hold (o - 1) (words j) c) 0) + outside c) z.1 d in
        (d, omega (arith, r, g.2.2 out, marks_few i d, f.grown.size, h))
    words_why NotOut y g = g
    words_why NoWord y g = g

pub leaf_count : (new : ℕ → ℕ → ℕ) (m : Blocks) (p a q : ℕ) → q ≡ new a p → Counted new m m 0 p a q (not (eqb q p))
leaf_count new m p a q e = record { marks = ap (λ (x : ℕ). not (eqb x p)) e; spent = omega arith; shape = tt }
