-- The count after an edit, from the history: so a store is full just where that count is above its size.
use Rattle.std.proofs.Common.{◌≡◌, ℕ, zero, suc, ◌+◌, ◌-◌, ◌/◌, ◌%◌, ◌^◌, ◌<◌, ◌≤◌, Bool, true, false, cond, ◌||◌, eqb, ◌≢◌, ◌↔◌, sym, refl, ap, ◌∙◌, arith, eq-eqb, ne_eqb}
use Rattle.std.proofs.Math.Decide.{ℕ_discrete}
use Rattle.std.proofs.lemmas.Bool.{eqb-true}
use Rattle.std.proofs.Math.Bool.{or-false, or-true}
use Rattle.block.specs.Blocks.{Blocks, sum_to, free_count, spare}
use Rattle.forest.specs.Trees.{child}
use Rattle.forest.specs.Balance.{Label, node}
use Rattle.forest.specs.Plans.{any_to, changes, needed}
use Rattle.block.proofs.Sums.{sum_same, sum_at, sum_none, at_most_sum}
use Rattle.count.specs.Uses.{out, used}
use Rattle.count.specs.Paths.{down, path, Stands}
use Rattle.count.specs.Tally.{live, new, distinct, all_stretches, Last, tally, Tied}
use Rattle.count.specs.Steps.{put, changed_by, edited, Later}
use Rattle.count.specs.Tally.{bit}
use Rattle.forest.proofs.Counts.{any_at}
use Rattle.count.proofs.Sums.{sum_add, sum_only, image, any_some}
use Rattle.count.proofs.Keeps.{put_here, put_else}
use Rattle.count.proofs.Totals.{stretches_same, used_tally}
use Rattle.count.proofs.Needs.{needed_levels}

or_swap : (a b c : Bool) → ((a || b) || c) ≡ ((a || c) || b)
or_swap true b c = refl
or_swap false true true = refl
or_swap false true false = refl
or_swap false false true = refl
or_swap false false false = refl

any_put : (n x v b : ℕ) (f : ℕ → ℕ) → x < n → f x ≡ 0 → any_to n (λ s. eqb (put x v f s) (suc b)) ≡ (any_to n (λ s. eqb (f s) (suc b)) || eqb v (suc b))
any_put zero x v b f l z = absurd (omega arith)
any_put (suc n) x v b f l z = elim (ℕ_discrete n x) [
  | yes e ↦
      ap (λ t. t || eqb (put x v f n) (suc b)) (below n (omega arith)) ∙
      ap (λ (y : ℕ). any_to n (λ s. eqb (f s) (suc b)) || eqb y (suc b)) (put_here x v f n e) ∙
      ap (λ t. t || eqb v (suc b)) (sym (ap (λ t. any_to n (λ s. eqb (f s) (suc b)) || t) (ne_eqb (f n) (suc b) (λ y. omega (arith, y, z, ap f e))) ∙ or-false (any_to n (λ s. eqb (f s) (suc b)))))
  | no d ↦
      ap (λ t. t || eqb (put x v f n) (suc b)) (any_put n x v b f (omega arith) z) ∙
      ap (λ (y : ℕ). (any_to n (λ s. eqb (f s) (suc b)) || eqb v (suc b)) || eqb y (suc b)) (put_else x v f n d) ∙
      or_swap (any_to n (λ s. eqb (f s) (suc b))) (eqb v (suc b)) (eqb (f n) (suc b))
]
  where
    below : (k : ℕ) → k ≤ x → any_to k (λ s. eqb (put x v f s) (suc b)) ≡ any_to k (λ s. eqb (f s) (suc b))
    below zero h = refl
    below (suc k) h =
        ap (λ t. t || eqb (put x v f k) (suc b)) (below k (omega arith)) ∙
        ap (λ (y : ℕ). any_to k (λ s. eqb (f s) (suc b)) || eqb y (suc b)) (put_else x v f k (omega arith))

-- one value more
distinct_put : (n x v : ℕ) (f : ℕ → ℕ) → x < n → f x ≡ 0 → distinct n (put x v f) ≡ new n f v + distinct n f
distinct_put n x v f l z =
    sym (image (sum_to n f + v) n (put x v f) (λ s k. elim (ℕ_discrete s x) [ yes e ↦ omega (arith, put_here x v f s e) | no e ↦ omega (arith, put_else x v f s e, at_most_sum n f s k) ])) ∙
    sum_same (sum_to n f + v) _ _ (λ b k. ap bit (any_put n x v b f l z)) ∙
    go v refl ∙
    ap (λ (y : ℕ). new n f v + y) (image (sum_to n f + v) n f (λ s k. omega (arith, at_most_sum n f s k)))
  where
    flip : (t : Bool) → 1 ≡ cond t 0 1 + bit t
    flip true = refl
    flip false = refl

    go : (y : ℕ) → v ≡ y → sum_to (sum_to n f + v) (λ b. bit (any_to n (λ s. eqb (f s) (suc b)) || eqb v (suc b))) ≡ new n f v + sum_to (sum_to n f + v) (λ b. bit (any_to n (λ s. eqb (f s) (suc b))))
    go zero e =
        let a : new n f v ≡ 0 = ap (λ t. cond {A = ℕ} t 0 (cond (any_to n (λ s. eqb (f s) v)) 0 1)) (eq-eqb v 0 e) in
        let s = sum_same (sum_to n f + v) (λ b. bit (any_to n (λ s. eqb (f s) (suc b)) || eqb v (suc b))) (λ b. bit (any_to n (λ s. eqb (f s) (suc b)))) (λ b k. ap bit (ap (λ t. any_to n (λ s. eqb (f s) (suc b)) || t) (ne_eqb v (suc b) (omega arith)) ∙ or-false (any_to n (λ s. eqb (f s) (suc b))))) in
        omega (arith, a, s)
    go (suc c) e =
        let a : new n f v ≡ cond (any_to n (λ s. eqb (f s) v)) 0 1 = ap (λ t. cond {A = ℕ} t 0 (cond (any_to n (λ s. eqb (f s) v)) 0 1)) (ne_eqb v 0 (omega arith)) in
        let a₁ = ap (λ (y : ℕ). cond {A = ℕ} (any_to n (λ s. eqb (f s) y)) 0 1) e in
        let s = sum_at (sum_to n f + v) (λ b. bit (any_to n (λ s. eqb (f s) (suc b)) || eqb v (suc b))) (λ b. bit (any_to n (λ s. eqb (f s) (suc b)))) c (omega arith) (λ b d. ap bit (ap (λ t. any_to n (λ s. eqb (f s) (suc b)) || t) (ne_eqb v (suc b) (omega arith)) ∙ or-false (any_to n (λ s. eqb (f s) (suc b))))) in
        let y : bit (any_to n (λ s. eqb (f s) (suc c)) || eqb v (suc c)) ≡ 1 = ap (λ t. bit (any_to n (λ s. eqb (f s) (suc c)) || t)) (eq-eqb v (suc c) e) ∙ ap bit (or-true (any_to n (λ s. eqb (f s) (suc c)))) in
        omega (arith, a, a₁, s, y, flip (any_to n (λ s. eqb (f s) (suc c))))

new_none : (n v : ℕ) (f : ℕ → ℕ) → v ≢ 0 → ((s : ℕ) → s < n → f s ≢ v) → new n f v ≡ 1
new_none n v f d h = ap (λ t. cond {A = ℕ} t 0 (cond (any_to n (λ s. eqb (f s) v)) 0 1)) (ne_eqb v 0 d) ∙ go (any_to n (λ s. eqb (f s) v)) refl
  where
    go : (t : Bool) → any_to n (λ s. eqb (f s) v) ≡ t → cond {A = ℕ} t 0 1 ≡ 1
    go true e = let r = any_some n (λ s. eqb (f s) v) e in absurd (h r.0 r.1 (eqb-true (f r.0) v r.2))
    go false e = refl

new_known : (n s : ℕ) (f : ℕ → ℕ) → s < n → new n f (f s) ≡ 0
new_known n s f l = ap (λ t. cond {A = ℕ} (eqb (f s) 0) 0 (cond t 0 1)) (any_at n (λ r. eqb (f r) (f s)) s l (eq-eqb (f s) (f s) refl)) ∙ go (eqb (f s) 0)
  where
    go : (t : Bool) → cond {A = ℕ} t 0 0 ≡ 0
    go true = refl
    go false = refl

pub stretches_add : (deep : ℕ → ℕ) (f g : ℕ → ℕ → ℕ → ℕ) → all_stretches deep (λ t k q. f t k q + g t k q) ≡ all_stretches deep f + all_stretches deep g
unfolding all_stretches
stretches_add deep f g =
    sum_same 16 _ _ (λ t a. sum_same (deep t) _ _ (λ k b. sum_add (16 ^ (deep t - suc k)) (f t k) (g t k)) ∙ sum_add (deep t) (λ k. sum_to (16 ^ (deep t - suc k)) (f t k)) (λ k. sum_to (16 ^ (deep t - suc k)) (g t k))) ∙
    sum_add 16 (λ t. sum_to (deep t) (λ k. sum_to (16 ^ (deep t - suc k)) (f t k))) (λ t. sum_to (deep t) (λ k. sum_to (16 ^ (deep t - suc k)) (g t k)))

-- the count grows by one, and by the stretches that change
pub tally_edited : (deep : ℕ → ℕ) (n : ℕ) (roots : ℕ → ℕ) (last : Last) (x h r place : ℕ) (changed : ℕ → ℕ → ℕ → Bool) → x < n → h < n → roots x ≡ 0 → r ≢ 0 → Later n last place → ((t k q : ℕ) → t < 16 → k < deep t → q < 16 ^ (deep t - suc k) → last x t (suc k) q ≡ 0) → tally deep n (put x r roots) (edited last x h changed place) ≡ suc (tally deep n roots last + all_stretches deep (λ t k q. bit (changed t (suc k) q)))
tally_edited deep n roots last x h r place changed hx hh free some later none =
    let a : live n (put x r roots) ≡ suc (live n roots) =
    (let s = sum_at n (λ s. cond (eqb (put x r roots s) 0) 0 1) (λ s. cond (eqb (roots s) 0) 0 1) x hx (λ j d. ap (λ (v : ℕ). cond {A = ℕ} (eqb v 0) 0 1) (put_else x r roots j d)) in
    let y : cond {A = ℕ} (eqb (put x r roots x) 0) 0 1 ≡ 1 = ap (λ (v : ℕ). cond {A = ℕ} (eqb v 0) 0 1) (put_here x r roots x refl) ∙ ap (λ t. cond {A = ℕ} t 0 1) (ne_eqb r 0 some) in
    let z : cond {A = ℕ} (eqb (roots x) 0) 0 1 ≡ 0 = ap (λ t. cond {A = ℕ} t 0 1) (eq-eqb (roots x) 0 free) in
    omega (arith, s, y, z)) in
    let b = stretches_same deep (λ t k q. distinct n (λ s. edited last x h changed place s t (suc k) q)) (λ t k q. bit (changed t (suc k) q) + distinct n (λ s. last s t (suc k) q)) (λ t k q l hk hq. distinct_put n x (cond (changed t (suc k) q) (suc place) (last h t (suc k) q)) (λ s. last s t (suc k) q) hx (none t k q l hk hq) ∙ ap (λ (v : ℕ). v + distinct n (λ s. last s t (suc k) q)) (fresh t k q)) in
    let c = stretches_add deep (λ t k q. bit (changed t (suc k) q)) (λ t k q. distinct n (λ s. last s t (suc k) q)) in
    omega (arith, a, b, c)
  where
    fresh : (t k q : ℕ) → new n (λ s. last s t (suc k) q) (cond (changed t (suc k) q) (suc place) (last h t (suc k) q)) ≡ bit (changed t (suc k) q)
    fresh t k q = go (changed t (suc k) q)
      where
        go : (y : Bool) → new n (λ s. last s t (suc k) q) (cond y (suc place) (last h t (suc k) q)) ≡ bit y
        go true = new_none n (suc place) (λ s. last s t (suc k) q) (omega arith) (λ s l. later s t (suc k) q l)
        go false = new_known n h (λ s. last s t (suc k) q) hh

-- the stretches that an edit of the tree t changes are the blocks that its rebuild needs
pub changed_needed : (deep : ℕ → ℕ) (new : ℕ → ℕ → ℕ) (m : Blocks) (p t : ℕ) → t < 16 → all_stretches deep (λ u k q. bit (changed_by deep new m p t u (suc k) q)) ≡ needed new m (deep t) (child m p t) 0
unfolding all_stretches
changed_needed deep new m p t l =
    sum_only 16 _ t l (λ u d. sum_none (deep u) _ (λ k a. sum_none (16 ^ (deep u - suc k)) _ (λ q b. ap (λ y. bit (cond y (changes new m (suc k) (path deep m p (node u (suc k) q)) q) false)) (ne_eqb u t d)))) ∙
    sum_same (deep t) _ _ (λ k a. sum_same (16 ^ (deep t - suc k)) _ _ (λ q b. ap (λ y. bit (cond y (changes new m (suc k) (path deep m p (node t (suc k) q)) q) false)) (eq-eqb t t refl))) ∙
    sym (needed_levels new m (deep t) (child m p t))

pub free_used : (m : Blocks) → free_count m + used m ≡ m.size
unfolding free_count used sum_to
free_used m = go m.size
  where
    both : (t : Bool) → cond {A = ℕ} t 1 0 + cond t 0 1 ≡ 1
    both true = refl
    both false = refl

    go : (k : ℕ) → sum_to k (λ b. spare (m.holders b)) + sum_to k (out m) ≡ k
    go zero = refl
    go (suc k) = omega (arith, go k, both (eqb (m.holders k) 0))

-- an edit finds the blocks that it needs just where the count after it is at most the size
pub fits_edited : (deep : ℕ → ℕ) (n : ℕ) (m : Blocks) (label : ℕ → Label) (roots : ℕ → ℕ) (last : Last) (x h t r place : ℕ) (new : ℕ → ℕ → ℕ) → Stands deep n m label roots → Tied deep n m roots last → x < n → h < n → t < 16 → roots x ≡ 0 → r ≢ 0 → Later n last place → (suc (needed new m (deep t) (child m (roots h) t) 0) ≤ free_count m) ↔ (tally deep n (put x r roots) (edited last x h (changed_by deep new m (roots h) t) place) ≤ m.size)
fits_edited deep n m label roots last x h t r place new w tied hx hh ht free₀ some later =
    let a = tally_edited deep n roots last x h r place (changed_by deep new m (roots h) t) hx hh free₀ some later (λ u k q l hk hq. ((tied u k q l hk hq).none x hx).0 (ap (λ (v : ℕ). path deep m v (node u (suc k) q)) free₀ ∙ nothing (deep u - suc k) q)) in
    let b = changed_needed deep new m (roots h) t ht in
    let c = used_tally deep n m label roots w last tied in
    let d = free_used m in
    ((λ e. omega (arith, a, b, c, d, e)), (λ e. omega (arith, a, b, c, d, e)))
  where
    nothing : (j q : ℕ) → down m 0 j q ≡ 0
    nothing zero zero = refl
    nothing zero (suc q) = refl
    nothing (suc j) q = ap (λ (v : ℕ). child m v (q % 16)) (nothing j (q / 16))
