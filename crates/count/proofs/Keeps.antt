-- The ties of paths and history are kept.
use Rattle.std.proofs.Common.{◌≡◌, ℕ, zero, suc, ◌-◌, ◌/◌, ◌%◌, ◌<◌, ◌≤◌, Bool, true, false, cond, ◌≢◌, ◌↔◌, sym, refl, ap, ◌∙◌, arith, eq-eqb, ne_eqb}
use Rattle.std.proofs.Math.Decide.{ℕ_discrete}
use Rattle.forest.specs.Balance.{Label, root, node}
use Rattle.block.specs.Blocks.{Blocks}
use Rattle.forest.specs.Trees.{child}
use Rattle.count.specs.Paths.{down, path, Stands}
use Rattle.count.specs.Tally.{Last, Alike, Tied}
use Rattle.count.specs.Steps.{put, edited, forgotten, Later, Keeps, Renewed}
use Rattle.count.proofs.Founds.{sits_root, sits_down}

pub put_here : {X : Type 0} (x : ℕ) (u : X) (f : ℕ → X) (s : ℕ) → s ≡ x → put x u f s ≡ u
put_here x u f s e = ap (λ t. cond t u (f s)) (eq-eqb s x e)

pub put_else : {X : Type 0} (x : ℕ) (u : X) (f : ℕ → X) (s : ℕ) → s ≢ x → put x u f s ≡ f s
put_else x u f s d = ap (λ t. cond t u (f s)) (ne_eqb s x d)

iff_ends : (a b c d a' b' c' d' : ℕ) → a' ≡ a → b' ≡ b → c' ≡ c → d' ≡ d → a ≡ b ↔ c ≡ d → a' ≡ b' ↔ c' ≡ d'
iff_ends a b c d a' b' c' d' p q r s h = ((λ e. r ∙ h.0 (sym p ∙ e ∙ q) ∙ sym s), (λ e. p ∙ h.1 (sym r ∙ e ∙ s) ∙ sym q))

pub alike_like : (n : ℕ) (f g f' g' : ℕ → ℕ) → ((s : ℕ) → s < n → f' s ≡ f s) → ((s : ℕ) → s < n → g' s ≡ g s) → Alike n f g → Alike n f' g'
alike_like n f g f' g' p q a = record {
  none = λ s l. iff_ends (f s) 0 (g s) 0 (f' s) 0 (g' s) 0 (p s l) refl (q s l) refl (a.none s l);
  same = λ s r l k. iff_ends (f s) (f r) (g s) (g r) (f' s) (f' r) (g' s) (g' r) (p s l) (p r k) (q s l) (q r k) (a.same s r l k);
}

flip : {a b c d : ℕ} → a ≡ b ↔ c ≡ d → b ≡ a ↔ d ≡ c
flip h = ((λ e. sym (h.0 (sym e))), (λ e. sym (h.1 (sym e))))

alike_put : (n : ℕ) (f g : ℕ → ℕ) (x u v : ℕ) → u ≡ 0 ↔ v ≡ 0 → ((s : ℕ) → s < n → u ≡ f s ↔ v ≡ g s) → Alike n f g → Alike n (put x u f) (put x v g)
alike_put n f g x u v z h a = record {
  none = λ s l. elim (ℕ_discrete s x) [
    | yes e ↦ iff_ends u 0 v 0 (put x u f s) 0 (put x v g s) 0 (put_here x u f s e) refl (put_here x v g s e) refl z
    | no d ↦ iff_ends (f s) 0 (g s) 0 (put x u f s) 0 (put x v g s) 0 (put_else x u f s d) refl (put_else x v g s d) refl (a.none s l)
  ];
  same = λ s r l k. elim (ℕ_discrete s x) [
    | yes e ↦ elim (ℕ_discrete r x) [
      | yes y ↦ iff_ends u u v v (put x u f s) (put x u f r) (put x v g s) (put x v g r) (put_here x u f s e) (put_here x u f r y) (put_here x v g s e) (put_here x v g r y) ((λ _. refl), (λ _. refl))
      | no y ↦ iff_ends u (f r) v (g r) (put x u f s) (put x u f r) (put x v g s) (put x v g r) (put_here x u f s e) (put_else x u f r y) (put_here x v g s e) (put_else x v g r y) (h r k)
    ]
    | no d ↦ elim (ℕ_discrete r x) [
      | yes y ↦ iff_ends (f s) u (g s) v (put x u f s) (put x u f r) (put x v g s) (put x v g r) (put_else x u f s d) (put_here x u f r y) (put_else x v g s d) (put_here x v g r y) (flip (h s l))
      | no y ↦ iff_ends (f s) (f r) (g s) (g r) (put x u f s) (put x u f r) (put x v g s) (put x v g r) (put_else x u f s d) (put_else x u f r y) (put_else x v g s d) (put_else x v g r y) (a.same s r l k)
    ]
  ];
}

pub child_keeps : (m o : Blocks) (p i : ℕ) → ((b : ℕ) → p ≡ suc b → o.word b i ≡ m.word b i) → child o p i ≡ child m p i
child_keeps m o zero i h = refl
child_keeps m o (suc b) i h = h b refl

-- the paths of snapshots whose blocks keep their words, cells too
module _ (deep : ℕ → ℕ) (n : ℕ) (m : Blocks) (label : ℕ → Label) (roots : ℕ → ℕ) (w : Stands deep n m label roots) (o : Blocks) (keeps : Keeps m o) where
  pub down_keeps : (s : ℕ) → s < n → (t j q : ℕ) → j ≤ deep t → down o (child o (roots s) t) j q ≡ down m (child m (roots s) t) j q
  down_keeps s h t zero zero l = child_keeps m o (roots s) t (λ b e. keeps b t (sits_root deep n m label roots w s h b e).up)
  down_keeps s h t zero (suc q) l = refl
  down_keeps s h t (suc j) q l =
      ap (λ (x : ℕ). child o x (q % 16)) (down_keeps s h t j (q / 16) (omega arith)) ∙
      child_keeps m o (down m (child m (roots s) t) j (q / 16)) (q % 16) (λ b e. keeps b (q % 16) (sits_down deep n m label roots w s t j (q / 16) b h (omega arith) e).up)

  pub path_keeps : (s : ℕ) → s < n → (l : Label) → path deep o (roots s) l ≡ path deep m (roots s) l
  path_keeps s h root = refl
  path_keeps s h (node t k q) = down_keeps s h t (deep t - k) q (omega arith)

  -- a new snapshot
  pub tied_edited : (last : Last) (x p r place : ℕ) (changed : ℕ → ℕ → ℕ → Bool) → x < n → p < n → Later n last place → Renewed deep m o (roots p) r changed → Tied deep n m roots last → Tied deep n o (put x r roots) (edited last x p changed place)
  tied_edited last x p r place changed hx hp later new tied t k q u l v =
      alike_like n (put x (path deep o r (node t (suc k) q)) (λ s. path deep m (roots s) (node t (suc k) q))) (put x (cond (changed t (suc k) q) (suc place) (last p t (suc k) q)) (λ s. last s t (suc k) q)) _ _ at (λ s h. refl)
      (alike_put n (λ s. path deep m (roots s) (node t (suc k) q)) (λ s. last s t (suc k) q) x (path deep o r (node t (suc k) q)) (cond (changed t (suc k) q) (suc place) (last p t (suc k) q))
      (split (λ y. path deep o r (node t (suc k) q) ≡ 0 ↔ y ≡ 0)
      (λ c. let f = new.fresh t k q u l v c in ((λ e. absurd (omega (arith, e, f.1))), (λ e. absurd (omega (arith, e)))))
      (λ c. iff_ends (path deep m (roots p) (node t (suc k) q)) 0 (last p t (suc k) q) 0 (path deep o r (node t (suc k) q)) 0 (last p t (suc k) q) 0 (new.same t k q u l v c) refl refl refl ((tied t k q u l v).none p hp)))
      (λ s h. split (λ y. path deep o r (node t (suc k) q) ≡ path deep m (roots s) (node t (suc k) q) ↔ y ≡ last s t (suc k) q)
      (λ c. let f = new.fresh t k q u l v c in ((λ e. absurd (apart s h f.0 (sym e ∙ f.1) f.2)), (λ e. absurd (later s t (suc k) q h (sym e)))))
      (λ c. iff_ends (path deep m (roots p) (node t (suc k) q)) (path deep m (roots s) (node t (suc k) q)) (last p t (suc k) q) (last s t (suc k) q) (path deep o r (node t (suc k) q)) (path deep m (roots s) (node t (suc k) q)) (last p t (suc k) q) (last s t (suc k) q) (new.same t k q u l v c) refl refl refl ((tied t k q u l v).same p s hp h)))
      (tied t k q u l v))
    where
      at : (s : ℕ) → s < n → path deep o (put x r roots s) (node t (suc k) q) ≡ put x (path deep o r (node t (suc k) q)) (λ s. path deep m (roots s) (node t (suc k) q)) s
      at s h = elim (ℕ_discrete s x) [
        | yes e ↦ ap (λ (v : ℕ). path deep o v (node t (suc k) q)) (put_here x r roots s e) ∙ sym (put_here x (path deep o r (node t (suc k) q)) (λ s. path deep m (roots s) (node t (suc k) q)) s e)
        | no d ↦ ap (λ (v : ℕ). path deep o v (node t (suc k) q)) (put_else x r roots s d) ∙ path_keeps s h (node t (suc k) q) ∙ sym (put_else x (path deep o r (node t (suc k) q)) (λ s. path deep m (roots s) (node t (suc k) q)) s d)
      ]

      split : (P : ℕ → Type 0) → (changed t (suc k) q ≡ true → P (suc place)) → (changed t (suc k) q ≡ false → P (last p t (suc k) q)) → P (cond (changed t (suc k) q) (suc place) (last p t (suc k) q))
      split P a b = go (changed t (suc k) q) a b
        where
          go : (c : Bool) → (c ≡ true → P (suc place)) → (c ≡ false → P (last p t (suc k) q)) → P (cond c (suc place) (last p t (suc k) q))
          go true a b = a refl
          go false a b = b refl

      apart : (s : ℕ) → s < n → (b : ℕ) → path deep m (roots s) (node t (suc k) q) ≡ suc b → m.holders b ≡ 0 → ⊥
      apart s h b e z = omega (arith, z, (sits_down deep n m label roots w s t (deep t - suc k) q b h (omega arith) e).up)

-- a snapshot is forgotten: what is still on a path keeps its words
pub tied_forgotten : (deep : ℕ → ℕ) (n : ℕ) (m o : Blocks) (label : ℕ → Label) (roots : ℕ → ℕ) (last : Last) (x : ℕ) → Stands deep n o label (put x 0 roots) → Keeps o m → Tied deep n m roots last → Tied deep n o (put x 0 roots) (forgotten last x)
tied_forgotten deep n m o label roots last x w keeps tied t k q u l v =
    alike_like n (put x 0 (λ s. path deep m (roots s) (node t (suc k) q))) (put x 0 (λ s. last s t (suc k) q)) _ _ at (λ s h. refl)
    (alike_put n (λ s. path deep m (roots s) (node t (suc k) q)) (λ s. last s t (suc k) q) x 0 0 ((λ e. e), (λ e. e)) (λ s h. flip ((tied t k q u l v).none s h)) (tied t k q u l v))
  where
    none : (j q : ℕ) → down m 0 j q ≡ 0
    none zero zero = refl
    none zero (suc q) = refl
    none (suc j) q = ap (λ (v : ℕ). child m v (q % 16)) (none j (q / 16))

    at : (s : ℕ) → s < n → path deep o (put x 0 roots s) (node t (suc k) q) ≡ put x 0 (λ s. path deep m (roots s) (node t (suc k) q)) s
    at s h =
        sym (path_keeps deep n o label (put x 0 roots) w m keeps s h (node t (suc k) q)) ∙
        elim (ℕ_discrete s x) [
          | yes e ↦ ap (λ (v : ℕ). path deep m v (node t (suc k) q)) (put_here x 0 roots s e) ∙ none (deep t - suc k) q ∙ sym (put_here x 0 (λ s. path deep m (roots s) (node t (suc k) q)) s e)
          | no d ↦ ap (λ (v : ℕ). path deep m v (node t (suc k) q)) (put_else x 0 roots s d) ∙ sym (put_else x 0 (λ s. path deep m (roots s) (node t (suc k) q)) s d)
        ]
