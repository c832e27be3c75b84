-- What the store shows, after each change.
use Rattle.std.proofs.Common.{◌≡◌, ℕ, zero, suc, ◌+◌, ◌-◌, ◌*◌, ◌/◌, ◌%◌, ◌^◌, ◌<◌, Bool, false, cond, eqb, sym, refl, ap, ◌∙◌, subst, mul-le-mul_right, suc-mul, arith, pow-add, eq-eqb, ne_eqb}
use Rattle.std.proofs.Math.Decide.{ℕ_discrete}
use Rattle.block.specs.Blocks.{Blocks, Whole}
use Rattle.forest.specs.Trees.{child, digits}
use Rattle.forest.specs.Balance.{node}
use Rattle.forest.specs.Plans.{differs, needed}
use Rattle.forest.specs.Fills.{Filled}
use Rattle.forest.specs.Promises.{Rebuilt}
use Rattle.forest.proofs.Frames.{look_grown}
use Rattle.forest.proofs.Digits.{length_digits}
use Rattle.forest.proofs.Counts.{grown_filled}
use Rattle.count.specs.Paths.{down, path}
use Rattle.count.specs.Tally.{bit, Last, Tied, all_stretches}
use Rattle.count.specs.Steps.{put, changed_by, edited, forgotten, gone, Later, Keeps}
use Rattle.count.proofs.Totals.{stretches_same}
use Rattle.count.proofs.Tallies.{changed_needed}
use Rattle.count.proofs.Cells.{any_like, changes_stretch, lookup_down}
use Rattle.count.proofs.Keeps.{put_here, put_else, alike_like, path_keeps, tied_edited, tied_forgotten}
use Rattle.count.proofs.Edits.{keeps, stands_edited, renewed, at_root, same_else}
use Rattle.count.proofs.Forgets.{keeps_gone, stands_forgotten}
use Rattle.count.proofs.Laws.{inside}
use Rattle.bridge.specs.Shows.{Shows, renewed_cells, alters}

-- equal cells and last edits
pub shows_like : (deep : ℕ → ℕ) (n : ℕ) (m : Blocks) (roots : ℕ → ℕ) (cells cells' : ℕ → ℕ → ℕ → ℕ) (last last' : Last) → Shows deep n m roots cells last → ((s t i : ℕ) → s < n → t < 16 → 0 < deep t → i < 16 ^ deep t → cells' s t i ≡ cells s t i) → ((s t k q : ℕ) → s < n → t < 16 → k < deep t → q < 16 ^ (deep t - suc k) → last' s t (suc k) q ≡ last s t (suc k) q) → Shows deep n m roots cells' last'
shows_like deep n m roots cells cells' last last' w f g = record {
  label = w.label;
  stands = w.stands;
  ties = λ t k q lt lk lq. alike_like n _ _ _ _ (λ s l. refl) (λ s l. g s t k q l lt lk lq) (w.ties t k q lt lk lq);
  reads = λ s t i l lt ld li. w.reads s t i l lt ld li ∙ sym (f s t i l lt ld li);
}

module _ (deep : ℕ → ℕ) (n : ℕ) (m : Blocks) (roots : ℕ → ℕ) (cells : ℕ → ℕ → ℕ → ℕ) (last : Last) (w : Shows deep n m roots cells last) (h : ℕ) (hh : h < n) (tree : ℕ) (new : ℕ → ℕ → ℕ) where
  -- what the rebuild changes is what the edit alters
  same_changes : (t k q : ℕ) → t < 16 → k < deep t → q < 16 ^ (deep t - suc k) → changed_by deep new m (roots h) tree t (suc k) q ≡ alters tree new (cells h) t (suc k) q
  same_changes t k q ht hk hq =
      ap (λ y. cond (eqb t tree) y false) (changes_stretch deep new m (roots h) t (suc k) q hk ∙
      any_like (16 ^ suc k) _ _ (λ i l. ap (λ (v : ℕ). differs new (q * 16 ^ suc k + i) v) (w.reads h t (q * 16 ^ suc k + i) hh ht (omega arith)
      (let z : deep t - suc k + suc k ≡ deep t = omega arith in subst (λ (v : ℕ). q * 16 ^ suc k + i < 16 ^ v) z (inside (deep t - suc k) (suc k) q i hq l)))))

  -- the blocks that a rebuild needs are the stretches that the edit alters
  pub needed_alters : tree < 16 → needed new m (deep tree) (child m (roots h) tree) 0 ≡ all_stretches deep (λ t k q. bit (alters tree new (cells h) t (suc k) q))
  needed_alters lt = sym (changed_needed deep new m (roots h) tree lt) ∙ stretches_same deep _ _ (λ t k q a b c. ap bit (same_changes t k q a b c))

  module _ (place x b q : ℕ) (flag : Bool) (u o : Blocks) (later : Later n last place) (hx : x < n) (free : roots x ≡ 0) (ht : tree < 16) (dt : 0 < deep tree) (d : Rebuilt new m u (deep tree) (child m (roots h) tree) q flag) (g : Filled u o 1 b (put tree q (child m (roots h))) (put tree flag (λ _. false))) (whole : Whole o) where
    keep : Keeps m o
    keep = keeps deep n m w.label roots w.stands h hh new x tree b q flag u o hx free ht dt d g whole

    tied : Tied deep n o (put x (suc b) roots) (edited last x h (changed_by deep new m (roots h) tree) place)
    tied = tied_edited deep n m w.label roots w.stands o keep last x h (suc b) place (changed_by deep new m (roots h) tree) hx hh later (renewed deep n m w.label roots w.stands h hh new x tree b q flag u o hx free ht dt d g whole) w.ties

    -- the cells of the new tree
    tree_cells : (i : ℕ) → i < 16 ^ deep tree → down o q (deep tree) i ≡ new i (down m (child m (roots h) tree) (deep tree) i)
    tree_cells i l =
        sym (lookup_down o (deep tree) q i l) ∙
        look_grown u o (grown_filled u o 1 b (put tree q (child m (roots h))) (put tree flag (λ _. false)) g) (digits (deep tree) i) (deep tree) q (length_digits (deep tree) i) d.live ∙
        d.cells i l ∙
        ap (new i) (lookup_down m (deep tree) (child m (roots h) tree) i l)

    new_cells : (t i : ℕ) → t < 16 → 0 < deep t → i < 16 ^ deep t → path deep o (suc b) (node t 0 i) ≡ renewed_cells tree new (cells h) t i
    new_cells t i lt ld li = elim (ℕ_discrete t tree) [
      | yes z ↦
          subst (λ (v : ℕ). i < 16 ^ deep v → path deep o (suc b) (node v 0 i) ≡ new i (path deep m (roots h) (node v 0 i))) (sym z)
          (λ l. (let y : deep tree - 0 ≡ deep tree = omega arith in
          ap (λ (v : ℕ). down o v (deep tree - 0) i) (at_root deep n m w.label roots w.stands h hh new x tree b q flag u o hx free ht dt d g whole tree ht ∙ put_here tree q (child m (roots h)) tree refl) ∙
          ap (λ (v : ℕ). down o q v i) y ∙ tree_cells i l ∙ ap (λ (v : ℕ). new i (down m (child m (roots h) tree) v i)) (sym y))) li ∙
          ap (new i) (w.reads h t i hh lt ld li) ∙ sym (ap (λ c. cond c (new i (cells h t i)) (cells h t i)) (eq-eqb t tree z))
      | no z ↦
          same_else deep n m w.label roots w.stands h hh new x tree b q flag u o hx free ht dt d g whole t 0 i lt z ∙ w.reads h t i hh lt ld li ∙ sym (ap (λ c. cond c (new i (cells h t i)) (cells h t i)) (ne_eqb t tree z))
    ]

    pub shows_edited : Shows deep n o (put x (suc b) roots) (put x (renewed_cells tree new (cells h)) cells) (edited last x h (alters tree new (cells h)) place)
    shows_edited =
        let z = stands_edited deep n m w.label roots w.stands h hh new x tree b q flag u o hx free ht dt d g whole in
        record {
          label = z.0;
          stands = z.1;
          ties = λ t k y lt lk ly. alike_like n _ _ _ _ (λ s l. refl) (λ s l. ap (λ c. put x (cond c (suc place) (last h t (suc k) y)) (λ s. last s t (suc k) y) s) (sym (same_changes t k y lt lk ly))) (tied t k y lt lk ly);
          reads = λ s t i l lt ld li. elim (ℕ_discrete s x) [
            | yes f ↦ ap (λ (v : ℕ). path deep o v (node t 0 i)) (put_here x (suc b) roots s f) ∙ new_cells t i lt ld li ∙ ap (λ (v : ℕ → ℕ → ℕ). v t i) (sym (put_here x (renewed_cells tree new (cells h)) cells s f))
            | no f ↦ ap (λ (v : ℕ). path deep o v (node t 0 i)) (put_else x (suc b) roots s f) ∙ path_keeps deep n m w.label roots w.stands o keep s l (node t 0 i) ∙ w.reads s t i l lt ld li ∙ ap (λ (v : ℕ → ℕ → ℕ). v t i) (sym (put_else x (renewed_cells tree new (cells h)) cells s f))
          ];
        }

-- a snapshot is forgotten
pub shows_forgotten : (deep : ℕ → ℕ) (n : ℕ) (m : Blocks) (roots : ℕ → ℕ) (cells : ℕ → ℕ → ℕ → ℕ) (last : Last) (x b : ℕ) → Shows deep n m roots cells last → x < n → roots x ≡ suc b → Shows deep n (gone deep m b 16) (put x 0 roots) (put x (λ _ _. 0) cells) (forgotten last x)
shows_forgotten deep n m roots cells last x b w hx at =
    let z = stands_forgotten deep n m w.label roots w.stands x b hx at in
    let k = keeps_gone deep n m w.label roots w.stands x b hx at in
    record {
      label = w.label;
      stands = z;
      ties = tied_forgotten deep n m (gone deep m b 16) w.label roots last x z k w.ties;
      reads = λ s t i l lt ld li. sym (path_keeps deep n (gone deep m b 16) w.label (put x 0 roots) z m k s l (node t 0 i)) ∙ elim (ℕ_discrete s x) [
        | yes f ↦ ap (λ (v : ℕ). path deep m v (node t 0 i)) (put_here x 0 roots s f) ∙ nothing m (deep t - 0) i ∙ ap (λ (v : ℕ → ℕ → ℕ). v t i) (sym (put_here x (λ _ _. 0) cells s f))
        | no f ↦ ap (λ (v : ℕ). path deep m v (node t 0 i)) (put_else x 0 roots s f) ∙ w.reads s t i l lt ld li ∙ ap (λ (v : ℕ → ℕ → ℕ). v t i) (sym (put_else x (λ _ _. 0) cells s f))
      ];
    }
  where
    nothing : (m : Blocks) (j q : ℕ) → down m 0 j q ≡ 0
    nothing m zero zero = refl
    nothing m zero (suc q) = refl
    nothing m (suc j) q = ap (λ (v : ℕ). child m v (q % 16)) (nothing m j (q / 16))
