-- A new snapshot: one tree of the head is rebuilt, and a root block is filled with it and the head's other trees.
use Rattle.std.proofs.Common.{◌≡◌, ℕ, zero, suc, ◌+◌, ◌-◌, ◌*◌, ◌/◌, ◌%◌, ◌^◌, ◌<◌, ◌≤◌, Bool, false, cond, ◌≢◌, sym, refl, ap, ◌∙◌, subst, pow-suc, arith, eq-eqb, ne_eqb, true≢false}
use Rattle.std.proofs.Math.Decide.{ℕ_discrete, dec_lt}
use Rattle.block.specs.Blocks.{Blocks, Whole, sum_to}
use Rattle.forest.specs.Trees.{child}
use Rattle.forest.specs.Balance.{hit, hold, Label, root, node, below, leads, Points, Balanced}
use Rattle.forest.specs.Plans.{changes}
use Rattle.forest.specs.Rebuilds.{Shape}
use Rattle.forest.specs.Fills.{Filled}
use Rattle.forest.specs.Frames.{Grown}
use Rattle.forest.specs.Promises.{Rebuilt}
use Rattle.block.proofs.Sums.{sum_at}
use Rattle.forest.proofs.Balances.{hit_zero, hit_there, hit_pointer, leads_pointer, recount}
use Rattle.forest.proofs.Frames.{out_below}
use Rattle.forest.proofs.Rebuilds.{placed, placed_here, placed_else, points_zero, points_stay, live_out, fill_balance, grown_then}
use Rattle.forest.proofs.Counts.{shape_grown, grown_filled}
use Rattle.count.specs.Paths.{down, path, held_by, Stands}
use Rattle.count.specs.Steps.{put, changed_by, Keeps, Renewed}
use Rattle.count.proofs.Sums.{sum_only}
use Rattle.count.proofs.Founds.{sits_root}
use Rattle.count.proofs.Keeps.{put_here, put_else, child_keeps, path_keeps}

-- the shape of a tree, at each of its stretches
pub shape_down : (new : ℕ → ℕ → ℕ) (m o : Blocks) (k p r : ℕ) → Shape new m o k p 0 r → (j q : ℕ) → j ≤ k → q < 16 ^ j → Shape new m o (k - j) (down m p j q) q (down o r j q)
shape_down new m o k p r s zero zero l h = let e : k - 0 ≡ k = omega arith in subst (λ (x : ℕ). Shape new m o x p 0 r) (sym e) s
shape_down new m o k p r s zero (suc q) l h = absurd (omega arith)
shape_down new m o k p r s (suc j) q l h =
    let e : k - j ≡ suc (k - suc j) = omega arith in
    let y : q / 16 * 16 + q % 16 ≡ q = omega arith in
    let z = shape_down new m o k p r s j (q / 16) (omega arith) (omega (arith, h, pow-suc 16 j)) in
    subst (λ (x : ℕ). Shape new m o (k - suc j) (down m p (suc j) q) x (down o r (suc j) q)) y
    ((subst (λ (x : ℕ). Shape new m o x (down m p j (q / 16)) (q / 16) (down o r j (q / 16))) e z).2 (q % 16) (omega arith))

hold_order : (k w c : ℕ) → (k ≡ 0 → w ≡ 0) → hold k w c ≡ hold 1 w c
hold_order zero w c h = sym (ap (λ (x : ℕ). hit x c) (h refl) ∙ hit_zero c)
hold_order (suc k) w c h = refl

module _ (deep : ℕ → ℕ) (n : ℕ) (m : Blocks) (label : ℕ → Label) (roots : ℕ → ℕ) (w : Stands deep n m label roots) (h : ℕ) (hh : h < n) where
  pub head_points : (j : ℕ) → Points label (node j (deep j) 0) (child m (roots h) j)
  head_points j = go (roots h) refl
    where
      go : (p : ℕ) → roots h ≡ p → Points label (node j (deep j) 0) (child m p j)
      go zero e = points_zero label (node j (deep j) 0)
      go (suc r) e = subst (λ (l : Label). Points label (below deep l j) (m.word r j)) (w.rooted h hh r (omega (arith, hit_there (roots h) r e))) (w.balance.ordered r j)

  pub head_out : (j d : ℕ) → 0 < hold (deep j) (child m (roots h) j) d → 0 < m.holders d
  head_out j d = go (roots h) refl
    where
      go : (p : ℕ) → roots h ≡ p → 0 < hold (deep j) (child m p j) d → 0 < m.holders d
      go zero e o = absurd (omega (arith, leads_pointer (node j (deep j) 0) 0 d o))
      go (suc r) e o = out_below deep m label (held_by n roots) w.balance r j d (subst (λ (l : Label). 0 < leads (below deep l j) (m.word r j) d) (sym (w.rooted h hh r (omega (arith, hit_there (roots h) r e)))) o)

  module _ (new : ℕ → ℕ → ℕ) (x t b q : ℕ) (flag : Bool) (u o : Blocks) (hx : x < n) (free : roots x ≡ 0) (ht : t < 16) (dt : 0 < deep t) (d : Rebuilt new m u (deep t) (child m (roots h) t) q flag) (g : Filled u o 1 b (put t q (child m (roots h))) (put t flag (λ _. false))) (whole : Whole o) where
    unused : m.holders b ≡ 0
    unused = omega (arith, g.was, d.grown.held b)

    pub grown : Grown m o
    grown = grown_then d.grown (grown_filled u o 1 b (put t q (child m (roots h))) (put t flag (λ _. false)) g)

    pub keeps : Keeps m o
    keeps = grown.same

    apart_b : (s : ℕ) → s < n → roots s ≢ suc b
    apart_b s l e = omega (arith, unused, (sits_root deep n m label roots w s l b e).up)

    flat : (j : ℕ) → deep j ≡ 0 → put t q (child m (roots h)) j ≡ 0
    flat j z = put_else t q (child m (roots h)) j (λ e. omega (arith, dt, z, ap deep e)) ∙ w.bare h j hh z

    marks : (c : ℕ) → sum_to 16 (λ j. cond (put t flag (λ _. false) j) (hold 1 (put t q (child m (roots h)) j) c) 0) ≡ cond flag (hold (deep t) q c) 0
    marks c =
        sum_only 16 (λ j. cond (put t flag (λ _. false) j) (hold 1 (put t q (child m (roots h)) j) c) 0) t ht
        (λ j e. ap (λ v. cond {A = ℕ} v (hold 1 (put t q (child m (roots h)) j) c) 0) (put_else t flag (λ _. false) j e)) ∙
        ap (λ v. cond {A = ℕ} v (hold 1 (put t q (child m (roots h)) t) c) 0) (put_here t flag (λ _. false) t refl) ∙
        ap (λ (v : ℕ). cond flag (hold 1 v c) 0) (put_here t q (child m (roots h)) t refl) ∙
        ap (λ (v : ℕ). cond flag v 0) (sym (hold_order (deep t) q c (λ e. absurd (omega arith))))

    moved : (other : ℕ → Label) × Balanced deep u other (λ c. cond flag (hold (deep t) q c) 0 + held_by n roots c) × Points other (node t (deep t) 0) q × ((c : ℕ) → 0 < m.holders c → other c ≡ label c)
    moved = d.balance deep t label (held_by n roots) w.balance (head_points t)

    filled_balance : Balanced deep o (placed b root moved.0) (λ c. hit (suc b) c + held_by n roots c)
    filled_balance = fill_balance deep u o root 1 b (put t q (child m (roots h))) (put t flag (λ _. false)) moved.0 (held_by n roots) whole g
        (recount _ _ (λ c. omega (arith, marks c)) moved.1)
        (λ j l c. hold_order (deep j) (put t q (child m (roots h)) j) c (flat j))
        (λ j l. elim (ℕ_discrete j t) [
          | yes e ↦ subst (Points moved.0 (node j (deep j) 0)) (sym (put_here t q (child m (roots h)) j e)) (subst (λ (y : ℕ). Points moved.0 (node y (deep y) 0) q) (sym e) moved.2)
          | no e ↦ subst (Points moved.0 (node j (deep j) 0)) (sym (put_else t q (child m (roots h)) j e)) (points_stay label moved.0 (node j (deep j) 0) (child m (roots h) j) (λ y z. moved.3 y (head_out j y z)) (head_points j))
        ])
        (λ j l y z.
        let z₁ : 0 < hold (deep j) (put t q (child m (roots h)) j) y = omega (arith, z, hold_order (deep j) (put t q (child m (roots h)) j) y (flat j)) in
        elim (ℕ_discrete j t) [
          | yes e ↦ live_out u (deep t) q d.live y (subst (λ (v : ℕ). 0 < hold (deep v) q y) e (subst (λ (v : ℕ). 0 < hold (deep j) v y) (put_here t q (child m (roots h)) j e) z₁))
          | no e ↦ omega (arith, d.grown.held y, head_out j y (subst (λ (v : ℕ). 0 < hold (deep j) v y) (put_else t q (child m (roots h)) j e) z₁))
        ])

    pub stands_edited : (other : ℕ → Label) × Stands deep n o other (put x (suc b) roots)
    stands_edited = (
      placed b root moved.0,
      record {
        balance = recount _ _ (λ c.
            let s = sum_at n (λ s. hit (put x (suc b) roots s) c) (λ s. hit (roots s) c) x hx (λ j e. ap (λ (v : ℕ). hit v c) (put_else x (suc b) roots j e)) in
            omega (arith, s, ap (λ (v : ℕ). hit v c) free, hit_zero c, ap (λ (v : ℕ). hit v c) (put_here x (suc b) roots x refl))) filled_balance;
        rooted = λ s l y z. elim (ℕ_discrete s x) [
          | yes e ↦
              let f : y ≡ b = omega (arith, hit_pointer (put x (suc b) roots s) y z, put_here x (suc b) roots s e) in
              ap (placed b root moved.0) f ∙ placed_here b root moved.0
          | no e ↦
              let p : roots s ≡ suc y = sym (put_else x (suc b) roots s e) ∙ hit_pointer (put x (suc b) roots s) y z in
              placed_else b root moved.0 y (λ f. apart_b s l (p ∙ ap suc f)) ∙ moved.3 y (sits_root deep n m label roots w s l y p).up ∙ w.rooted s l y (omega (arith, hit_there (roots s) y p))
        ];
        bare = λ s j l z. elim (ℕ_discrete s x) [
          | yes e ↦ ap (λ (v : ℕ). child o v j) (put_here x (suc b) roots s e) ∙ elim (dec_lt j 16) [ yes k ↦ g.filled j k ∙ flat j z | no k ↦ whole.wide b j (omega arith) ]
          | no e ↦ ap (λ (v : ℕ). child o v j) (put_else x (suc b) roots s e) ∙ child_keeps m o (roots s) j (λ y f. keeps y j (sits_root deep n m label roots w s l y f).up) ∙ w.bare s j l z
        ];
        apart = λ s r l k e z. elim (ℕ_discrete s x) [
          | yes es ↦ elim (ℕ_discrete r x) [
            | yes er ↦ es ∙ sym er
            | no er ↦ absurd (apart_b r k (sym (put_else x (suc b) roots r er) ∙ sym e ∙ put_here x (suc b) roots s es))
          ]
          | no es ↦ elim (ℕ_discrete r x) [
            | yes er ↦ absurd (apart_b s l (sym (put_else x (suc b) roots s es) ∙ e ∙ put_here x (suc b) roots r er))
            | no er ↦ w.apart s r l k (sym (put_else x (suc b) roots s es) ∙ e ∙ put_else x (suc b) roots r er) (λ f. z (put_else x (suc b) roots s es ∙ f))
          ]
        ];
      },
    )

    shape : Shape new m o (deep t) (child m (roots h) t) 0 q
    shape = shape_grown new m u o (grown_filled u o 1 b (put t q (child m (roots h))) (put t flag (λ _. false)) g) (deep t) (child m (roots h) t) 0 q d.live d.shape

    pub at_root : (j : ℕ) → j < 16 → child o (suc b) j ≡ put t q (child m (roots h)) j
    at_root j l = g.filled j l

    fresh_at : (k y : ℕ) → k < deep t → y < 16 ^ (deep t - suc k) → Shape new m o (suc k) (path deep m (roots h) (node t (suc k) y)) y (path deep o (suc b) (node t (suc k) y))
    fresh_at k y l z =
        let e : deep t - (deep t - suc k) ≡ suc k = omega arith in
        subst (λ (v : ℕ). Shape new m o (suc k) (path deep m (roots h) (node t (suc k) y)) y (down o v (deep t - suc k) y)) (sym (at_root t ht ∙ put_here t q (child m (roots h)) t refl))
        (subst (λ (v : ℕ). Shape new m o v (down m (child m (roots h) t) (deep t - suc k) y) y (down o q (deep t - suc k) y)) e
        (shape_down new m o (deep t) (child m (roots h) t) q shape (deep t - suc k) y (omega arith) z))

    pub same_else : (v k y : ℕ) → v < 16 → v ≢ t → path deep o (suc b) (node v k y) ≡ path deep m (roots h) (node v k y)
    same_else v k y l e =
        ap (λ (z : ℕ). down o z (deep v - k) y) (at_root v l ∙ put_else t q (child m (roots h)) v e ∙ sym (child_keeps m o (roots h) v (λ c f. keeps c v (sits_root deep n m label roots w h hh c f).up))) ∙
        path_keeps deep n m label roots w o keeps h hh (node v k y)

    pub renewed : Renewed deep m o (roots h) (suc b) (changed_by deep new m (roots h) t)
    renewed = record {
      fresh = λ v k y l hk hy c. elim (ℕ_discrete v t) [
        | yes e ↦
            let s = subst (λ (z : ℕ). k < deep z → y < 16 ^ (deep z - suc k) → Shape new m o (suc k) (path deep m (roots h) (node z (suc k) y)) y (path deep o (suc b) (node z (suc k) y))) (sym e) (fresh_at k y) hk hy in
            s.1 (sym (ap (λ z. cond z (changes new m (suc k) (path deep m (roots h) (node v (suc k) y)) y) false) (eq-eqb v t e)) ∙ c)
        | no e ↦ absurd (true≢false (sym c ∙ ap (λ z. cond z (changes new m (suc k) (path deep m (roots h) (node v (suc k) y)) y) false) (ne_eqb v t e)))
      ];
      same = λ v k y l hk hy c. elim (ℕ_discrete v t) [
        | yes e ↦
            let s = subst (λ (z : ℕ). k < deep z → y < 16 ^ (deep z - suc k) → Shape new m o (suc k) (path deep m (roots h) (node z (suc k) y)) y (path deep o (suc b) (node z (suc k) y))) (sym e) (fresh_at k y) hk hy in
            s.0 (sym (ap (λ z. cond z (changes new m (suc k) (path deep m (roots h) (node v (suc k) y)) y) false) (eq-eqb v t e)) ∙ c)
        | no e ↦ same_else v (suc k) y l e
      ];
    }
