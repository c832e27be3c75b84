-- Each block that is out is reached from outside, and has no more holders than are outside and blocks are out.
use Rattle.std.proofs.Common.{◌≡◌, ℕ, zero, suc, ◌+◌, ◌<◌, ◌≤◌, sym, ap, ◌∙◌, arith}
use Rattle.std.proofs.Math.Decide.{ℕ_discrete}
use Rattle.block.specs.Blocks.{Blocks, sum_to}
use Rattle.forest.specs.Balance.{Label, root, node, below, leads, from, Balanced}
use Rattle.forest.specs.Reach.{Reached, root as held, step}
use Rattle.block.proofs.Sums.{at_most_sum, sum_ones}
use Rattle.forest.proofs.Sums.{some_part, sum_single}
use Rattle.forest.proofs.Balances.{leads_pointer, leads_one}
use Rattle.forest.proofs.Frames.{inside, out_of}

-- how high a position is
unfoldable pub rank : (ℕ → ℕ) → Label → ℕ
rank deep root = suc (sum_to 16 deep)
rank deep (node t k q) = k

pub rank_below : (deep : ℕ → ℕ) (l : Label) (i p b : ℕ) → i < 16 → 0 < leads (below deep l i) p b → rank deep (below deep l i) < rank deep l
unfolding rank
rank_below deep root i p b h o = omega (arith, at_most_sum 16 deep i h)
rank_below deep (node t zero q) i p b h o = absurd (omega arith)
rank_below deep (node t (suc k) q) i p b h o = omega arith

tree_of : Label → ℕ
tree_of root = 0
tree_of (node t k q) = t

number_of : Label → ℕ
number_of root = 0
number_of (node t k q) = q

-- different slots lead to different positions
slot_of : (deep : ℕ → ℕ) (l : Label) (i j p b : ℕ) → below deep l i ≡ below deep l j → 0 < leads (below deep l i) p b → i ≡ j
unfolding tree_of number_of
slot_of deep root i j p b e h = ap tree_of e
slot_of deep (node t zero q) i j p b e h = absurd (omega arith)
slot_of deep (node t (suc k) q) i j p b e h = omega (arith, ap number_of e)

module _ (deep : ℕ → ℕ) (m : Blocks) (label : ℕ → Label) (outside : ℕ → ℕ) (w : Balanced deep m label outside) where
  -- a block points to b at most once
  pub from_one : (b c : ℕ) → from deep m label b c ≤ 1
  unfolding from
  from_one b c = sum_single 16 _ (λ i. leads_one (below deep (label c) i) (m.word c i) b)
      (λ i j li lj hi hj. slot_of deep (label c) i j (m.word c i) b (sym (w.ordered c i b hi) ∙ w.ordered c j b hj) hi)

  -- no block has more holders than are outside and there are blocks
  pub few_holders : (b : ℕ) → m.holders b ≤ outside b + m.size
  few_holders b = omega (arith, w.counted b, sum_ones m.size (from deep m label b) (λ c l. from_one b c))

  pub from_some : (b c : ℕ) → 0 < from deep m label b c → (i : ℕ) × (i < 16) × (0 < leads (below deep (label c) i) (m.word c i) b)
  unfolding from
  from_some b c h = some_part 16 _ h

  pub parent : (b : ℕ) → outside b ≡ 0 → 0 < m.holders b → (c i : ℕ) × (i < 16) × (0 < leads (below deep (label c) i) (m.word c i) b)
  parent b e h =
      let s = some_part m.size (from deep m label b) (omega (arith, w.counted b)) in
      let r = from_some b s.0 s.2 in
      (s.0, r.0, r.1, r.2)

  reached_by : (top fuel b : ℕ) → ((c : ℕ) → 0 < m.holders c → rank deep (label c) ≤ top) → top ≤ rank deep (label b) + fuel → 0 < m.holders b → Reached deep m label outside b
  reached_by top zero b low f h = elim (ℕ_discrete (outside b) 0) [
    | no d ↦ held (omega arith)
    | yes e ↦
        let r = parent b e h in
        let p = leads_pointer (below deep (label r.0) r.1) (m.word r.0 r.1) b r.3 in
        let l = w.ordered r.0 r.1 b r.3 in
        absurd (omega (arith, low r.0 (out_of deep m label outside w r.0 r.1 b p), ap (rank deep) l, rank_below deep (label r.0) r.1 (m.word r.0 r.1) b r.2 r.3))
  ]
  reached_by top (suc fuel) b low f h = elim (ℕ_discrete (outside b) 0) [
    | no d ↦ held (omega arith)
    | yes e ↦
        let r = parent b e h in
        let p = leads_pointer (below deep (label r.0) r.1) (m.word r.0 r.1) b r.3 in
        let l = w.ordered r.0 r.1 b r.3 in
        let g = rank_below deep (label r.0) r.1 (m.word r.0 r.1) b r.2 r.3 in
        step r.0 r.1 (reached_by top fuel r.0 low (omega (arith, f, ap (rank deep) l, g)) (out_of deep m label outside w r.0 r.1 b p)) r.3
  ]

  -- each block that is out is reached from outside
  pub reached : (b : ℕ) → 0 < m.holders b → Reached deep m label outside b
  reached b h =
      let top = sum_to m.size (λ c. rank deep (label c)) in
      reached_by top top b (λ c l. at_most_sum m.size (λ c. rank deep (label c)) c (inside deep m label outside w c l)) (omega arith) h

none_reached : (deep : ℕ → ℕ) (m : Blocks) (label : ℕ → Label) (outside : ℕ → ℕ) → ((b : ℕ) → outside b ≡ 0) → (b : ℕ) → Reached deep m label outside b → ⊥
none_reached deep m label outside z b (held h) = omega (arith, z b)
none_reached deep m label outside z b (step c i r o) = none_reached deep m label outside z c r

-- with nothing held outside, every block is free_count
pub all_free : (deep : ℕ → ℕ) (m : Blocks) (label : ℕ → Label) (outside : ℕ → ℕ) → Balanced deep m label outside → ((b : ℕ) → outside b ≡ 0) → (b : ℕ) → m.holders b ≡ 0
all_free deep m label outside w z b = elim (ℕ_discrete (m.holders b) 0) [ yes e ↦ e | no d ↦ absurd (none_reached deep m label outside z b (reached deep m label outside w b (omega arith))) ]
