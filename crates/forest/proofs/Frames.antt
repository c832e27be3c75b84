-- What stays of a tree when the store changes.
use Rattle.std.proofs.Common.{◌≡◌, ℕ, zero, suc, ◌+◌, ◌*◌, ◌<◌, ◌≤◌, eqb, List, [], ◌∷◌, length, fold, sym, refl, ap, ◌∙◌, subst, arith}
use Rattle.std.proofs.Math.Decide.{ℕ_discrete, dec_lt}
use Rattle.std.proofs.lemmas.Bool.Decides.{nat_tests}
use Rattle.std.proofs.lemmas.Bool.{cond_both}
use Rattle.block.specs.Blocks.{Blocks}
use Rattle.block.specs.Calls.{released}
use Rattle.forest.specs.Balance.{hit, hold, Label, node, below, leads, from, Points, Balanced}
use Rattle.forest.specs.Frames.{Fewer, Grown, Live}
use Rattle.forest.specs.Trees.{look, words, let_go}
use Rattle.forest.proofs.Balances.{hit_there, leads_pointer}
use Rattle.block.proofs.Sums.{at_most_sum}

pub fewer_none : (m : Blocks) → Fewer m m
fewer_none m = record { size = refl; held = λ b. omega arith; same = λ b i h. refl }

pub fewer_then : {m n o : Blocks} → Fewer m n → Fewer n o → Fewer m o
fewer_then f g = record { size = g.size ∙ f.size; held = λ b. omega (arith, f.held b, g.held b); same = λ b i h. g.same b i h ∙ f.same b i (omega (arith, g.held b)) }

pub fewer_go : (m : Blocks) (b : ℕ) → Fewer m (released m b)
fewer_go m b = record {
  size = refl;
  held = λ c. elim (ℕ_discrete c b) [ yes e ↦ let x = ap m.holders e in grind (arith, nat_tests) | no d ↦ grind (arith, nat_tests) ];
  same = λ c i h. grind (arith, nat_tests);
}

fewer_all : (k : ℕ) → ((m : Blocks) (p : ℕ) → Fewer m (let_go k m p)) → (m : Blocks) (ws : List ℕ) → Fewer m (fold (let_go k) m ws)
fewer_all k f m [] = fewer_none m
fewer_all k f m (w ∷ ws) = fewer_then (f m w) (fewer_all k f (let_go k m w) ws)

pub fewer_released : (k : ℕ) (m : Blocks) (p : ℕ) → Fewer m (let_go k m p)
unfolding let_go
fewer_released zero m p = fewer_none m
fewer_released (suc k) m zero = fewer_none m
fewer_released (suc k) m (suc b) =
    cond_both (eqb (m.holders b) 1) _ _ (Fewer m)
    (λ e. fewer_then (fewer_go m b) (fewer_all k (fewer_released k) (released m b) (words m (suc b))))
    (λ e. fewer_go m b)

pub live_zero : (m : Blocks) (k : ℕ) → Live m k 0
live_zero m zero = tt
live_zero m (suc k) = λ b e. absurd (omega (arith, e))

-- a tree that is live after is the same before
pub look_fewer : (m n : Blocks) → Fewer m n → (ds : List ℕ) (k p : ℕ) → length ds ≡ k → Live n k p → look n p ds ≡ look m p ds
look_fewer m n f [] k p l v = refl
look_fewer m n f (d ∷ ds) zero p l v = absurd (omega (arith, l))
look_fewer m n f (d ∷ ds) (suc k) zero l v = look_fewer m n f ds k 0 (omega (arith, l)) (live_zero n k)
look_fewer m n f (d ∷ ds) (suc k) (suc b) l v =
    let w = v b refl in
    look_fewer m n f ds k (n.word b d) (omega (arith, l)) (w.1 d) ∙ ap (λ (q : ℕ). look m q ds) (f.same b d w.0)

-- a tree that is live before is live after, and the same
pub live_grown : (m n : Blocks) → Grown m n → (k p : ℕ) → Live m k p → Live n k p
live_grown m n f zero p v = tt
live_grown m n f (suc k) p v = λ b e.
    let w = v b e in
    (omega (arith, w.0, f.held b), λ i. subst (Live n k) (sym (f.same b i w.0)) (live_grown m n f k (m.word b i) (w.1 i)))

pub look_grown : (m n : Blocks) → Grown m n → (ds : List ℕ) (k p : ℕ) → length ds ≡ k → Live m k p → look n p ds ≡ look m p ds
look_grown m n f [] k p l v = refl
look_grown m n f (d ∷ ds) zero p l v = absurd (omega (arith, l))
look_grown m n f (d ∷ ds) (suc k) zero l v = look_grown m n f ds k 0 (omega (arith, l)) (live_zero m k)
look_grown m n f (d ∷ ds) (suc k) (suc b) l v =
    let w = v b refl in
    ap (λ (q : ℕ). look n q ds) (f.same b d w.0) ∙ look_grown m n f ds k (m.word b d) (omega (arith, l)) (w.1 d)

-- in a balanced store what a pointer leads to is live, if its own block is out
module _ (deep : ℕ → ℕ) (m : Blocks) (label : ℕ → Label) (outside : ℕ → ℕ) (w : Balanced deep m label outside) where
  pub inside : (b : ℕ) → 0 < m.holders b → b < m.size
  inside b h = elim (dec_lt b m.size) [ yes l ↦ l | no d ↦ absurd (omega (arith, w.whole.beyond b (omega arith))) ]

  pub out_of : (c i b : ℕ) → m.word c i ≡ suc b → 0 < m.holders c
  out_of c i b e = elim (ℕ_discrete (m.holders c) 0) [ yes z ↦ absurd (omega (arith, w.whole.blank c i z, e)) | no z ↦ omega arith ]

  from_word : (c i b : ℕ) → i < 16 → 0 < leads (below deep (label c) i) (m.word c i) b → 0 < from deep m label b c
  unfolding from
  from_word c i b l h = omega (arith, h, at_most_sum 16 (λ j. leads (below deep (label c) j) (m.word c j) b) i l)

  -- what a block points to is out
  pub out_below : (c i b : ℕ) → 0 < leads (below deep (label c) i) (m.word c i) b → 0 < m.holders b
  out_below c i b h =
      let e = leads_pointer (below deep (label c) i) (m.word c i) b h in
      elim (dec_lt i 16) [
        | yes l ↦ omega (arith, from_word c i b l h, at_most_sum m.size (from deep m label b) c (inside c (out_of c i b e)), w.counted b)
        | no d ↦ absurd (omega (arith, e, w.whole.wide c i (omega arith)))
      ]

  pub live : (t k a p : ℕ) → Points label (node t k a) p → ((b : ℕ) → 0 < hold k p b → 0 < m.holders b) → Live m k p
  live t zero a p q h = tt
  live t (suc k) a p q h = λ b e.
      let g : 0 < hit p b = omega (arith, hit_there p b e) in
      let o = q b g in
      (h b g, λ i. live t k (a * 16 + i) (m.word b i) (subst (λ (l : Label). Points label (below deep l i) (m.word b i)) o (w.ordered b i)) (λ c x. out_below b i c (subst (λ (l : Label). 0 < leads (below deep l i) (m.word b i) c) (sym o) x)))

  -- a pointer that is counted outside is live
  pub live_root : (t k a p : ℕ) → Points label (node t k a) p → ((b : ℕ) → hold k p b ≤ outside b) → Live m k p
  live_root t k a p q h = live t k a p q (λ b l. omega (arith, h b, w.counted b))
