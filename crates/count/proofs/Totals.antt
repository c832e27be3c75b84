-- As many blocks are out as the history says.
use Rattle.std.proofs.Common.{◌≡◌, ℕ, zero, suc, ◌+◌, ◌-◌, ◌^◌, ◌<◌, ◌≤◌, Bool, true, false, cond, eqb, ◌≢◌, sym, refl, ap, ◌∙◌, arith, eq-eqb, ne_eqb, true≢false}
use Rattle.std.proofs.Math.Decide.{ℕ_discrete}
use Rattle.std.proofs.lemmas.Bool.Decides.{nat_tests}
use Rattle.std.proofs.lemmas.Bool.{eqb-true}
use Rattle.block.specs.Blocks.{Blocks, sum_to}
use Rattle.forest.specs.Balance.{Label, root, node, leads}
use Rattle.forest.specs.Plans.{any_to}
use Rattle.block.proofs.Sums.{sum_same, sum_none}
use Rattle.count.specs.Uses.{out, used}
use Rattle.count.specs.Paths.{path, held_by, Stands}
use Rattle.count.specs.Tally.{live, distinct, all_stretches, Last, tally, Tied}
use Rattle.count.specs.Tally.{bit}
use Rattle.forest.proofs.Counts.{any_at}
use Rattle.count.proofs.Sums.{sum_add, sum_swap, sum_only, image, distinct_alike, distinct_apart, any_some}
use Rattle.forest.proofs.Balances.{hit_there, leads_pointer}
use Rattle.forest.proofs.Frames.{inside}
use Rattle.count.proofs.Founds.{Within, found, sits}

-- 1 where the positions are the same
mark : Label → Label → ℕ
mark root root = 1
mark root (node t k q) = 0
mark (node t k q) root = 0
mark (node t k q) (node u j r) = cond (eqb t u) (cond (eqb k j) (cond (eqb q r) 1 0) 0) 0

mark_self : (l : Label) → mark l l ≡ 1
unfolding mark
mark_self root = refl
mark_self (node t k q) = grind (arith, nat_tests)

mark_same : (l r : Label) → 0 < mark l r → l ≡ r
unfolding mark
mark_same root root h = refl
mark_same root (node t k q) h = absurd (omega arith)
mark_same (node t k q) root h = absurd (omega arith)
mark_same (node t k q) (node u j r) h =
    let x : t ≡ u = grind (arith, nat_tests) in
    let y : k ≡ j = grind (arith, nat_tests) in
    let z : q ≡ r = grind (arith, nat_tests) in
    cc

pub stretches_same : (deep : ℕ → ℕ) (f g : ℕ → ℕ → ℕ → ℕ) → ((t k q : ℕ) → t < 16 → k < deep t → q < 16 ^ (deep t - suc k) → f t k q ≡ g t k q) → all_stretches deep f ≡ all_stretches deep g
unfolding all_stretches
stretches_same deep f g h = sum_same 16 _ _ (λ t a. sum_same (deep t) _ _ (λ k b. sum_same (16 ^ (deep t - suc k)) _ _ (λ q c. h t k q a b c)))

pub stretches_none : (deep : ℕ → ℕ) (f : ℕ → ℕ → ℕ → ℕ) → ((t k q : ℕ) → f t k q ≡ 0) → all_stretches deep f ≡ 0
unfolding all_stretches
stretches_none deep f h = sum_none 16 _ (λ t a. sum_none (deep t) _ (λ k b. sum_none (16 ^ (deep t - suc k)) _ (λ q c. h t k q)))

pub stretches_only : (deep : ℕ → ℕ) (f : ℕ → ℕ → ℕ → ℕ) (t k q : ℕ) → t < 16 → k < deep t → q < 16 ^ (deep t - suc k) → ((u j r : ℕ) → 0 < f u j r → (u ≡ t) × (j ≡ k) × (r ≡ q)) → all_stretches deep f ≡ f t k q
unfolding all_stretches
stretches_only deep f t k q a b c h =
    sum_only 16 _ t a (λ u d. sum_none (deep u) _ (λ j x. sum_none (16 ^ (deep u - suc j)) _ (λ r y. other u j r (λ e. d e.0)))) ∙
    sum_only (deep t) _ k b (λ j d. sum_none (16 ^ (deep t - suc j)) _ (λ r y. other t j r (λ e. d e.1))) ∙
    sum_only (16 ^ (deep t - suc k)) _ q c (λ r d. other t k r (λ e. d e.2))
  where
    other : (u j r : ℕ) → ((u ≡ t) × (j ≡ k) × (r ≡ q) → ⊥) → f u j r ≡ 0
    other u j r d = elim (ℕ_discrete (f u j r) 0) [ yes e ↦ e | no z ↦ absurd (d (h u j r (omega arith))) ]

stretches_swap : (deep : ℕ → ℕ) (n : ℕ) (f : ℕ → ℕ → ℕ → ℕ → ℕ) → sum_to n (λ b. all_stretches deep (f b)) ≡ all_stretches deep (λ t k q. sum_to n (λ b. f b t k q))
unfolding all_stretches
stretches_swap deep n f =
    sum_swap n 16 (λ b t. sum_to (deep t) (λ k. sum_to (16 ^ (deep t - suc k)) (f b t k))) ∙
    sum_same 16 _ _ (λ t a. sum_swap n (deep t) (λ b k. sum_to (16 ^ (deep t - suc k)) (f b t k)) ∙
    sum_same (deep t) _ _ (λ k c. sum_swap n (16 ^ (deep t - suc k)) (λ b q. f b t k q)))

-- a position that there is, and is a block's, is one of those counted
one_of : (deep : ℕ → ℕ) (l : Label) (p b : ℕ) → Within deep l → 0 < leads l p b → mark l root + all_stretches deep (λ t k q. mark l (node t (suc k) q)) ≡ 1
unfolding mark
one_of deep root p b v h = omega (arith, stretches_none deep (λ t k q. 0) (λ t k q. refl))
one_of deep (node t zero q) p b v h = absurd (omega arith)
one_of deep (node t (suc k) q) p b v h =
    let x = stretches_only deep (λ u j r. mark (node t (suc k) q) (node u (suc j) r)) t k q v.0 v.1 v.2 (λ u j r g. same u j r g) in
    omega (arith, x, mark_self (node t (suc k) q))
  where
    same : (u j r : ℕ) → 0 < mark (node t (suc k) q) (node u (suc j) r) → (u ≡ t) × (j ≡ k) × (r ≡ q)
    same u j r g = let e = mark_same (node t (suc k) q) (node u (suc j) r) g in (cc, cc, cc)

module _ (deep : ℕ → ℕ) (n : ℕ) (m : Blocks) (label : ℕ → Label) (roots : ℕ → ℕ) (w : Stands deep n m label roots) where
  -- 1 where b is out and at l
  at : ℕ → Label → ℕ
  at b l = cond (eqb (m.holders b) 0) 0 (mark (label b) l)

  free_at : (b : ℕ) (l : Label) → m.holders b ≡ 0 → at b l ≡ 0
  unfolding at
  free_at b l e = ap (λ t. cond t 0 (mark (label b) l)) (eq-eqb (m.holders b) 0 e)

  held_at : (b : ℕ) (l : Label) → m.holders b ≢ 0 → at b l ≡ mark (label b) l
  unfolding at
  held_at b l e = ap (λ t. cond t 0 (mark (label b) l)) (ne_eqb (m.holders b) 0 e)

  out_split : (b : ℕ) → out m b ≡ at b root + all_stretches deep (λ t k q. at b (node t (suc k) q))
  out_split b = elim (ℕ_discrete (m.holders b) 0) [
    | yes e ↦
        let x : out m b ≡ 0 = grind (arith, nat_tests) in
        omega (arith, x, free_at b root e, stretches_none deep (λ t k q. at b (node t (suc k) q)) (λ t k q. free_at b (node t (suc k) q) e))
    | no d ↦
        let x : out m b ≡ 1 = grind (arith, nat_tests) in
        let f = found deep n m label roots w b (omega arith) in
        let y = one_of deep (label b) (path deep m (roots f.who) (label b)) b f.within f.there in
        let z = stretches_same deep (λ t k q. at b (node t (suc k) q)) (λ t k q. mark (label b) (node t (suc k) q)) (λ t k q a b' c. held_at b (node t (suc k) q) d) in
        omega (arith, x, y, z, held_at b root d)
  ]

  -- the blocks at l are the images of the paths
  at_image : (l : Label) → Within deep l → ((p b : ℕ) → p ≡ suc b → 0 < leads l p b) → (b : ℕ) → at b l ≡ bit (any_to n (λ s. eqb (path deep m (roots s) l) (suc b)))
  at_image l v o b = go (any_to n (λ s. eqb (path deep m (roots s) l) (suc b))) refl
    where
      go : (t : Bool) → any_to n (λ s. eqb (path deep m (roots s) l) (suc b)) ≡ t → at b l ≡ bit t
      go true e =
          let s = any_some n (λ s. eqb (path deep m (roots s) l) (suc b)) e in
          let y = eqb-true (path deep m (roots s.0) l) (suc b) s.2 in
          let z = sits deep n m label roots w l s.0 b s.1 v (o (path deep m (roots s.0) l) b y) in
          held_at b l (omega (arith, z.up)) ∙ ap (λ x. mark x l) z.at ∙ mark_self l
      go false e = elim (ℕ_discrete (at b l) 0) [
        | yes z ↦ z
        | no d ↦
            elim (ℕ_discrete (m.holders b) 0) [
              | yes z ↦ free_at b l z
              | no z ↦
                  let g = mark_same (label b) l (omega (arith, held_at b l z, d)) in
                  let f = found deep n m label roots w b (omega arith) in
                  let p = leads_pointer (label b) (path deep m (roots f.who) (label b)) b f.there in
                  let a = any_at n (λ s. eqb (path deep m (roots s) l) (suc b)) f.who f.listed (eq-eqb (path deep m (roots f.who) l) (suc b) (ap (λ x. path deep m (roots f.who) x) (sym g) ∙ p)) in
                  absurd (true≢false (sym a ∙ e))
            ]
      ]

  below_size : (l : Label) → Within deep l → ((p b : ℕ) → p ≡ suc b → 0 < leads l p b) → (s : ℕ) → s < n → path deep m (roots s) l ≤ m.size
  below_size l v o s h = go (path deep m (roots s) l) refl
    where
      go : (p : ℕ) → path deep m (roots s) l ≡ p → p ≤ m.size
      go zero e = omega arith
      go (suc b) e = inside deep m label (held_by n roots) w.balance b (sits deep n m label roots w l s b h v (o (path deep m (roots s) l) b e)).up

  at_count : (l : Label) → Within deep l → ((p b : ℕ) → p ≡ suc b → 0 < leads l p b) → sum_to m.size (λ b. at b l) ≡ distinct n (λ s. path deep m (roots s) l)
  at_count l v o = sum_same m.size _ _ (λ b h. at_image l v o b) ∙ image m.size n (λ s. path deep m (roots s) l) (below_size l v o)

  solid : (t k q p b : ℕ) → p ≡ suc b → 0 < leads (node t (suc k) q) p b
  solid t k q p b e = omega (arith, hit_there p b e)

  -- the blocks that are out, by their positions
  pub used_paths : used m ≡ live n roots + all_stretches deep (λ t k q. distinct n (λ s. path deep m (roots s) (node t (suc k) q)))
  unfolding used
  used_paths =
      let x = sum_same m.size (out m) (λ b. at b root + all_stretches deep (λ t k q. at b (node t (suc k) q))) (λ b h. out_split b) in
      let y = sum_add m.size (λ b. at b root) (λ b. all_stretches deep (λ t k q. at b (node t (suc k) q))) in
      let z = stretches_swap deep m.size (λ b t k q. at b (node t (suc k) q)) in
      let r = at_count root tt (λ p b e. omega (arith, hit_there p b e)) in
      let d = distinct_apart n roots w.apart in
      let e = stretches_same deep (λ t k q. sum_to m.size (λ b. at b (node t (suc k) q))) (λ t k q. distinct n (λ s. path deep m (roots s) (node t (suc k) q))) (λ t k q a b c. at_count (node t (suc k) q) (a, b, c) (solid t k q)) in
      omega (arith, x, y, z, r, d, e)

  -- the count theorem
  pub used_tally : (last : Last) → Tied deep n m roots last → used m ≡ tally deep n roots last
  used_tally last h =
      used_paths ∙ ap (λ (x : ℕ). live n roots + x) (stretches_same deep _ _ (λ t k q a b c. distinct_alike n _ _ (h t k q a b c)))
