-- The root of a new snapshot.
use Rattle.std.proofs.Common.{◌≡◌, ℕ, zero, suc, ◌+◌, ◌-◌, ◌<◌, ◌≤◌, true, false, sym, refl, ap, ◌∙◌, subst, arith}
use Rattle.std.proofs.Math.Path.{fun_ext}
use Rattle.std.proofs.Math.Decide.{ℕ_discrete}
use Rattle.std.proofs.lemmas.Bool.Decides.{nat_tests}
use Rattle.block.specs.Blocks.{Blocks, Whole, free_count}
use Rattle.block.specs.declared.refusals.Refusal.{Refusal}
use Rattle.block.specs.declared.refusals.Refusal.TheVariants.{NoneFree, NotOut, TooMany, NoWord}
use Rattle.block.proofs.Counts.{all_out}
use Rattle.forest.specs.Trees.{child}
use Rattle.forest.specs.Balance.{hold, node, Points}
use Rattle.forest.specs.Frames.{Live}
use Rattle.forest.specs.Plans.{needed}
use Rattle.forest.specs.Fills.{Blocked, Filled}
use Rattle.forest.specs.Promises.{Rebuilt, Refused, Released}
use Rattle.forest.proofs.Balances.{hit_pointer, leads_one}
use Rattle.forest.proofs.Frames.{live}
use Rattle.forest.proofs.Rebuilds.{live_out}
use Rattle.forest.proofs.Reaches.{few_holders}
use Rattle.forest.proofs.Restores.{same_model}
use Rattle.count.specs.Paths.{held_by}
use Rattle.count.specs.Steps.{put}
use Rattle.count.proofs.Holders.{held_few}
use Rattle.count.proofs.Founds.{sits_root}
use Rattle.count.proofs.Keeps.{put_here, put_else, child_keeps}
use Rattle.count.proofs.Edits.{head_points, head_out}
use Rattle.rules.specs.Cells.{depth}
use Rattle.root.specs.Sheets.{places, Rooted}
use Rattle.root.specs.Edits.{Made, Same, Short}

few_places : places ≤ 64
unfolding places
few_places = omega arith

depth_some : (t : ℕ) → t < 10 → 0 < depth t
depth_some t h = grind (arith, nat_tests)

pub depth_low : (t : ℕ) → depth t ≤ 4
depth_low t = grind (arith, nat_tests)

module _ (m : Blocks) (p : ℕ) (s : Rooted m p) where
  points : (t : ℕ) → Points s.label (node t (depth t) 0) (child m p t)
  points t = subst (λ (v : ℕ). Points s.label (node t (depth t) 0) (child m v t)) s.there (head_points depth places m s.label s.roots s.stands s.who s.listed t)

  out_here : (j c : ℕ) → 0 < hold (depth j) (child m p j) c → 0 < m.holders c
  out_here j c = subst (λ (v : ℕ). 0 < hold (depth j) (child m v j) c → 0 < m.holders c) s.there (head_out depth places m s.label s.roots s.stands s.who s.listed j c)

  bare_here : (j : ℕ) → depth j ≡ 0 → child m p j ≡ 0
  bare_here j z = ap (λ (v : ℕ). child m v j) (sym s.there) ∙ s.stands.bare s.who j s.listed z

  outside_few : (b : ℕ) → held_by places s.roots b < 49000
  outside_few b = omega (arith, held_few places s.roots b, few_places)

  -- each tree of the snapshot is live
  pub tree_live : (t : ℕ) → Live m (depth t) (child m p t)
  tree_live t = live depth m s.label (held_by places s.roots) s.stands.balance t (depth t) 0 (child m p t) (points t) (out_here t)

  -- too few blocks for the tree
  pub tree_short : (new : ℕ → ℕ → ℕ) (o : Blocks) (t : ℕ) (e : Refusal) → Refused new m o (depth t) (child m p t) e → Short new m o t p e
  tree_short new o t e r =
      let w = r.short depth t s.label (held_by places s.roots) s.stands.balance (points t) outside_few in
      record {
        why = w.0;
        same = r.restored depth t s.label (held_by places s.roots) s.stands.balance (points t);
        few = omega (arith, w.1);
      }

hold_up : (k w c : ℕ) → (k ≡ 0 → w ≡ 0) → 0 < hold 1 w c → 0 < hold k w c
hold_up zero w c z h = absurd (omega (arith, z refl, hit_pointer w c h))
hold_up (suc k) w c z h = h

module _ (new : ℕ → ℕ → ℕ) (m u : Blocks) (p t q : ℕ) (s : Rooted m p) (ht : t < 10) (d : Rebuilt new m u (depth t) (child m p t) q true) where
  same_head : child u p ≡ child m p
  same_head = fun_ext (λ j. child_keeps m u p j (λ b e. d.grown.same b j (sits_root depth places m s.label s.roots s.stands s.who s.listed b (s.there ∙ e)).up))

  pub root_made : (o : Blocks) (r : ℕ) → 0 < r → Filled u o 1 (r - 1) (put t q (child u p)) (put t true (λ _. false)) → Whole o → Made new m o t p r
  root_made o r l g w = record {
    middle = u;
    top = q;
    some = l;
    rebuilt = d;
    filled = subst (λ (f : ℕ → ℕ). Filled u o 1 (r - 1) (put t q f) (put t true (λ _. false))) same_head g;
    whole = w;
  }

  -- what was built is let go again: the store is as it was
  pub edit_undone : (v : Blocks) → Released u v (depth t) q → v ≡ m
  edit_undone v r =
      let b = d.balance depth t s.label (held_by places s.roots) s.stands.balance (points m p s t) in
      let c = r.balance depth t 0 b.0 (held_by places s.roots) b.1 b.2 in
      same_model depth m v s.label b.0 (held_by places s.roots) s.stands.balance c (r.fewer.size ∙ d.grown.size) (λ y i hm hv. r.fewer.same y i hv ∙ d.grown.same y i hm) b.3

  root_out : (j c : ℕ) → 0 < hold 1 (put t q (child u p) j) c → 0 < u.holders c
  root_out j c o =
      elim (ℕ_discrete j t) [
        | yes e ↦ live_out u (depth t) q d.live c (hold_up (depth t) q c (λ z. absurd (omega (arith, z, depth_some t ht))) (subst (λ (v : ℕ). 0 < hold 1 v c) (put_here t q (child u p) j e) o))
        | no e ↦
            let o₁ = subst (λ (v : ℕ). 0 < hold 1 v c) (put_else t q (child u p) j e ∙ ap (λ (f : ℕ → ℕ). f j) same_head) o in
            omega (arith, d.grown.held c, out_here m p s j c (hold_up (depth j) (child m p j) c (λ z. bare_here m p s j z) o₁))
      ]

  -- why no root block is had
  root_why : (e : Refusal) → Blocked e 1 (put t q (child u p)) u → (e ≡ NoneFree) × (free_count m < suc (needed new m (depth t) (child m p t) 0))
  root_why NoneFree b = (refl, omega (arith, d.spent, all_out u b))
  root_why TooMany b =
      let c = b.2.0 in
      let z = d.balance depth t s.label (held_by places s.roots) s.stands.balance (points m p s t) in
      let f = few_holders depth u z.0 (λ c. hold (depth t) q c + held_by places s.roots c) z.1 c in
      absurd (omega (arith, f, b.2.2 (root_out b.0 c b.2.1), held_few places s.roots c, few_places, z.1.whole.few, leads_one (node t (depth t) 0) q c))
  root_why NotOut b = absurd b
  root_why NoWord b = absurd b

  -- the tree was had, and no block for the root: all is let go
  pub root_short : (v o : Blocks) (e : Refusal) → v ≡ u → Blocked e 1 (put t q (child u p)) u → Released v o (depth t) q → Short new m o t p e
  root_short v o e x b r =
      let w = root_why e b in
      record {
        why = w.0;
        same = edit_undone o (subst (λ (y : Blocks). Released y o (depth t) q) x r);
        few = w.1;
      }

-- a tree as the code has it: its depth k and its top c
module _ (new : ℕ → ℕ → ℕ) (m o : Blocks) (p t k c : ℕ) (s : Rooted m p) (ek : k ≡ depth t) (ec : c ≡ child m p t) where
  pub here : (F : ℕ → ℕ → Type 0) → (Live m k c → F k c) → F (depth t) (child m p t)
  here F f = subst (λ (v : ℕ). Live m (depth t) v → F (depth t) v) ec (subst (λ (v : ℕ). Live m v c → F v c) ek f) (tree_live m p s t)

  pub edit_same : (Live m k c → Rebuilt new m o k c c false) → Same new m o t p
  edit_same f =
      let d = here (λ x y. Rebuilt new m o x y y false) f in
      let e = (d.unchanged refl).0 in
      record { same = e; none = omega (arith, d.spent, ap free_count e) }

  pub edit_short : (e : Refusal) → (Live m k c → Refused new m o k c e) → Short new m o t p e
  edit_short e f = tree_short m p s new o t e (here (λ x y. Refused new m o x y e) f)
