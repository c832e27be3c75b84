-- A snapshot is forgotten: its root block and its trees are let go.
use Rattle.std.proofs.Common.{◌≡◌, ℕ, zero, suc, ◌+◌, ◌-◌, ◌<◌, ◌≤◌, sym, refl, ap, ◌∙◌, subst, arith}
use Rattle.std.proofs.Math.Decide.{ℕ_discrete}
use Rattle.block.specs.Blocks.{Blocks, sum_to}
use Rattle.forest.specs.Trees.{child}
use Rattle.forest.specs.Balance.{hit, hold, Label, root, node, below, leads, from, Points, Balanced}
use Rattle.forest.specs.Frames.{Fewer}
use Rattle.block.proofs.Sums.{sum_at, sum_none, at_most_sum}
use Rattle.forest.proofs.Sums.{sum_front}
use Rattle.forest.proofs.Balances.{hit_zero, hit_there, hit_pointer, recount, go_last, lets_go}
use Rattle.forest.proofs.Frames.{fewer_go, fewer_then, fewer_released}
use Rattle.forest.proofs.Rebuilds.{points_zero}
use Rattle.forest.proofs.Reaches.{from_some}
use Rattle.count.specs.Paths.{held_by, Stands}
use Rattle.count.specs.Steps.{put, gone, Keeps}
use Rattle.count.proofs.Sums.{sum_among}
use Rattle.count.proofs.Founds.{sits_root}
use Rattle.count.proofs.Keeps.{put_here, put_else, child_keeps}

pub fewer_gone : (deep : ℕ → ℕ) (m : Blocks) (b i : ℕ) → Fewer m (gone deep m b i)
fewer_gone deep m b zero = fewer_go m b
fewer_gone deep m b (suc i) = fewer_then (fewer_gone deep m b i) (fewer_released (deep i) (gone deep m b i) (m.word b i))

is_root : Label → ℕ
is_root root = 1
is_root (node t k q) = 0

below_node : (deep : ℕ → ℕ) (l : Label) (i : ℕ) → is_root (below deep l i) ≡ 0
unfolding is_root
below_node deep root i = refl
below_node deep (node t zero q) i = refl
below_node deep (node t (suc k) q) i = refl

root_one : is_root root ≡ 1
unfolding is_root
root_one = refl

module _ (deep : ℕ → ℕ) (m : Blocks) (label : ℕ → Label) (outside : ℕ → ℕ) (b : ℕ) (w : Balanced deep m label (λ c. hit (suc b) c + outside c)) (one : m.holders b ≡ 1) (here : label b ≡ root) where
  slots : (c : ℕ) → from deep m label c b ≡ sum_to 16 (λ j. hold (deep j) (m.word b j) c)
  unfolding from
  slots c = ap (λ (l : Label). sum_to 16 (λ i. leads (below deep l i) (m.word b i) c)) here

  going : (i : ℕ) → i ≤ 16 → Balanced deep (gone deep m b i) label (λ c. (sum_to 16 (λ j. hold (deep j) (m.word b j) c) - sum_to i (λ j. hold (deep j) (m.word b j) c)) + outside c)
  unfolding sum_to
  going zero l = recount _ _ (λ c. omega (arith, slots c)) (go_last m b deep label outside w one)
  going (suc i) l =
      lets_go deep label i (deep i) 0 (gone deep m b i) (m.word b i) _
      (recount _ _ (λ c. omega (arith, sum_front (suc i) 16 (λ j. hold (deep j) (m.word b j) c) l)) (going i (omega arith)))
      (subst (λ (x : Label). Points label (below deep x i) (m.word b i)) here (w.ordered b i))

  pub all_gone : Balanced deep (gone deep m b 16) label outside
  all_gone = recount _ _ (λ c. omega arith) (going 16 (omega arith))

module _ (deep : ℕ → ℕ) (n : ℕ) (m : Blocks) (label : ℕ → Label) (roots : ℕ → ℕ) (w : Stands deep n m label roots) (x b : ℕ) (hx : x < n) (at : roots x ≡ suc b) where
  here : label b ≡ root
  here = (sits_root deep n m label roots w x hx b at).at

  -- a root block has one holder
  pub root_once : m.holders b ≡ 1
  root_once =
      let s = sum_among n (λ s. hit (roots s) b) x hx (λ j l d. elim (ℕ_discrete (hit (roots j) b) 0) [ yes e ↦ e | no e ↦ absurd (d (w.apart j x l hx (hit_pointer (roots j) b (omega arith) ∙ sym at) (omega (arith, hit_pointer (roots j) b (omega arith))))) ]) in
      let z = sum_none m.size (from deep m label b) (λ c l. elim (ℕ_discrete (from deep m label b c) 0) [ yes e ↦ e | no e ↦ absurd (never c (omega arith)) ]) in
      omega (arith, s, z, w.balance.counted b, hit_there (roots x) b at)
    where
      never : (c : ℕ) → 0 < from deep m label b c → ⊥
      never c h =
          let r = from_some deep m label (held_by n roots) w.balance b c h in
          omega (arith, root_one, ap is_root (sym here ∙ w.balance.ordered c r.0 b r.2), below_node deep (label c) r.0)

  lost : (c : ℕ) → held_by n roots c ≡ hit (suc b) c + held_by n (put x 0 roots) c
  lost c =
      let s = sum_at n (λ s. hit (put x 0 roots s) c) (λ s. hit (roots s) c) x hx (λ j e. ap (λ (v : ℕ). hit v c) (put_else x 0 roots j e)) in
      omega (arith, s, ap (λ (v : ℕ). hit v c) at, hit_zero c, ap (λ (v : ℕ). hit v c) (put_here x 0 roots x refl))

  balance : Balanced deep (gone deep m b 16) label (held_by n (put x 0 roots))
  balance = all_gone deep m label (held_by n (put x 0 roots)) b (recount _ _ lost w.balance) root_once here

  pub keeps_gone : Keeps (gone deep m b 16) m
  keeps_gone c i h = sym ((fewer_gone deep m b 16).same c i h)

  pub stands_forgotten : Stands deep n (gone deep m b 16) label (put x 0 roots)
  stands_forgotten = record {
    balance = balance;
    rooted = λ s l. elim (ℕ_discrete s x) [
      | yes e ↦ subst (Points label root) (sym (put_here x 0 roots s e)) (points_zero label root)
      | no e ↦ subst (Points label root) (sym (put_else x 0 roots s e)) (w.rooted s l)
    ];
    bare = λ s j l z. elim (ℕ_discrete s x) [
      | yes e ↦ ap (λ (v : ℕ). child (gone deep m b 16) v j) (put_here x 0 roots s e)
      | no e ↦ ap (λ (v : ℕ). child (gone deep m b 16) v j) (put_else x 0 roots s e) ∙ child_keeps m (gone deep m b 16) (roots s) j (λ c f. (fewer_gone deep m b 16).same c j (omega (arith, balance.counted c, at_most_sum n (λ r. hit (put x 0 roots r) c) s l, hit_there (put x 0 roots s) c (put_else x 0 roots s e ∙ f)))) ∙ w.bare s j l z
    ];
    apart = λ s r l k e z. elim (ℕ_discrete s x) [
      | yes es ↦ absurd (z (put_here x 0 roots s es))
      | no es ↦ elim (ℕ_discrete r x) [
        | yes er ↦ absurd (z (e ∙ put_here x 0 roots r er))
        | no er ↦ w.apart s r l k (sym (put_else x 0 roots s es) ∙ e ∙ put_else x 0 roots r er) (λ f. z (put_else x 0 roots s es ∙ f))
      ]
    ];
  }
