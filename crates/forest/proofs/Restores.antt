-- Two balanced stores with the same pointers outside, whose common blocks have the same words, are equal.
use Rattle.std.proofs.Common.{◌≡◌, ℕ, ◌<◌, sym, ap, ◌∙◌, subst, arith}
use Rattle.std.proofs.Math.Decide.{ℕ_discrete}
use Rattle.block.specs.Blocks.{Blocks, sum_to}
use Rattle.forest.specs.Balance.{Label, node, below, leads, from, Points, Balanced}
use Rattle.forest.specs.Reach.{Reached, root as held, step}
use Rattle.forest.specs.Rebuilds.{Stay, Undone}
use Rattle.block.proofs.Sums.{sum_same}
use Rattle.forest.proofs.Balances.{from_same, from_zeros, leads_pointer}
use Rattle.forest.proofs.Frames.{out_below, out_of}
use Rattle.forest.proofs.Reaches.{reached}

abbrev Common : Blocks → Blocks → Type 0
Common m n = (b i : ℕ) → 0 < m.holders b → 0 < n.holders b → n.word b i ≡ m.word b i

-- what is reached in m is out in n
module _ (deep : ℕ → ℕ) (m n : Blocks) (label other : ℕ → Label) (outside : ℕ → ℕ) (w : Balanced deep m label outside) (x : Balanced deep n other outside) (common : Common m n) (same : (c : ℕ) → 0 < m.holders c → 0 < n.holders c → other c ≡ label c) where
  out_too : (b : ℕ) → Reached deep m label outside b → 0 < n.holders b
  out_too b (held h) = omega (arith, h, x.counted b)
  out_too b (step c i r o) =
      let hm = out_of deep m label outside w c i b (leads_pointer (below deep (label c) i) (m.word c i) b o) in
      let hn = out_too c r in
      out_below deep n other outside x c i b
      (subst (λ (l : Label). 0 < leads (below deep l i) (n.word c i) b) (sym (same c hm hn)) (subst (λ (v : ℕ). 0 < leads (below deep (label c) i) v b) (sym (common c i hm hn)) o))

module _ (deep : ℕ → ℕ) (m n : Blocks) (label other : ℕ → Label) (outside : ℕ → ℕ) (w : Balanced deep m label outside) (x : Balanced deep n other outside) (size : n.size ≡ m.size) (common : Common m n) (stay : Stay m label other) where
  there : (b : ℕ) → 0 < m.holders b → 0 < n.holders b
  there b h = out_too deep m n label other outside w x common (λ c p q. stay c p) b (reached deep m label outside w b h)

  back : (b : ℕ) → 0 < n.holders b → 0 < m.holders b
  back b h = out_too deep n m other label outside x w (λ c i p q. sym (common c i q p)) (λ c p q. sym (stay c q)) b (reached deep n other outside x b h)

  same_word : (b i : ℕ) → n.word b i ≡ m.word b i
  same_word b i = elim (ℕ_discrete (m.holders b) 0) [
    | yes z ↦ x.whole.blank b i (elim (ℕ_discrete (n.holders b) 0) [ yes y ↦ y | no y ↦ absurd (omega (arith, z, back b (omega arith))) ]) ∙ sym (w.whole.blank b i z)
    | no d ↦ common b i (omega arith) (there b (omega arith))
  ]

  same_from : (b c : ℕ) → from deep n other b c ≡ from deep m label b c
  same_from b c = elim (ℕ_discrete (m.holders c) 0) [
    | yes z ↦ from_zeros deep n other b c (λ i. same_word c i ∙ w.whole.blank c i z) ∙ sym (from_zeros deep m label b c (λ i. w.whole.blank c i z))
    | no d ↦ from_same deep n m other label b c (stay c (omega arith)) (λ i. same_word c i)
  ]

  same_holders : (b : ℕ) → n.holders b ≡ m.holders b
  same_holders b = omega (arith, x.counted b, w.counted b, sum_same m.size (from deep n other b) (from deep m label b) (λ c l. same_from b c), ap (λ (s : ℕ). sum_to s (from deep n other b)) size)

  pub same_model : n ≡ m
  same_model = λ i. record { size = size i; holders = λ b. same_holders b i; word = λ b j. same_word b j i }

-- what was undone is as it was
pub undone_exact : (m n : Blocks) (k p a : ℕ) (deep : ℕ → ℕ) (t : ℕ) (label : ℕ → Label) (outside : ℕ → ℕ) → Balanced deep m label outside → Points label (node t k a) p → Undone m n k p a → n ≡ m
undone_exact m n k p a deep t label outside w q u = let b = u.balance deep t label outside w q in same_model deep m n label b.0 outside w b.1 u.size u.same b.2
