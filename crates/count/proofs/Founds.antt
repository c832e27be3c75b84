-- The blocks that are out are those on the paths of the snapshots.
use Rattle.std.proofs.Common.{◌≡◌, ℕ, zero, suc, ◌+◌, ◌-◌, ◌*◌, ◌/◌, ◌%◌, ◌^◌, ◌<◌, ◌≤◌, ◌≢◌, sym, refl, ap, ◌∙◌, subst, pow-suc, arith}
use Rattle.std.proofs.Math.Decide.{ℕ_discrete}
use Rattle.block.specs.Blocks.{Blocks, sum_to}
use Rattle.forest.specs.Trees.{child}
use Rattle.forest.specs.Balance.{hit, Label, root, node, below, leads}
use Rattle.block.proofs.Sums.{at_most_sum}
use Rattle.forest.proofs.Sums.{some_part}
use Rattle.count.specs.Paths.{down, path, held_by, Stands}
use Rattle.forest.proofs.Balances.{hit_pointer, hit_there, leads_pointer}
use Rattle.forest.proofs.Frames.{inside, out_of, out_below}
use Rattle.forest.proofs.Reaches.{rank, rank_below, parent}

-- a position that there is
abbrev pub Within : (ℕ → ℕ) → Label → Type 0
Within deep root = Unit {0}
Within deep (node t k q) = (t < 16) × (k ≤ deep t) × (q < 16 ^ (deep t - k))

-- the block b is at the position l of a snapshot
pub record Found (deep : ℕ → ℕ) (n : ℕ) (m : Blocks) (roots : ℕ → ℕ) (l : Label) (b : ℕ) : Type 0 where
  pub who : ℕ
  pub listed : who < n
  pub there : 0 < leads l (path deep m (roots who) l) b
  pub within : Within deep l

-- one level down
pub path_step : (deep : ℕ → ℕ) (m : Blocks) (p t k q i : ℕ) → k < deep t → i < 16 → path deep m p (node t k (q * 16 + i)) ≡ child m (path deep m p (node t (suc k) q)) i
path_step deep m p t k q i l h =
    let e : deep t - k ≡ suc (deep t - suc k) = omega arith in
    let x : (q * 16 + i) / 16 ≡ q = omega arith in
    let y : (q * 16 + i) % 16 ≡ i = omega arith in
    ap (λ (z : ℕ). down m (child m p t) z (q * 16 + i)) e ∙
    ap (λ (z : ℕ). child m (down m (child m p t) (deep t - suc k) z) ((q * 16 + i) % 16)) x ∙
    ap (λ (z : ℕ). child m (down m (child m p t) (deep t - suc k) q) z) y

found_down : (deep : ℕ → ℕ) (n : ℕ) (m : Blocks) (roots : ℕ → ℕ) (l : Label) (c i b : ℕ) → i < 16 → 0 < leads (below deep l i) (m.word c i) b → Found deep n m roots l c → Found deep n m roots (below deep l i) b
found_down deep n m roots root c i b h o f =
    let p = leads_pointer root (roots f.who) c f.there in
    let e : deep i - deep i ≡ 0 = omega arith in
    let y = ap (λ (x : ℕ). down m (child m (roots f.who) i) x 0) e ∙ ap (λ (x : ℕ). child m x i) p in
    record {
      who = f.who;
      listed = f.listed;
      there = subst (λ (x : ℕ). 0 < leads (node i (deep i) 0) x b) (sym y) o;
      within = (h, omega arith, subst (λ (x : ℕ). 0 < 16 ^ x) (sym e) (omega arith));
    }
found_down deep n m roots (node t zero q) c i b h o f = absurd (omega arith)
found_down deep n m roots (node t (suc k) q) c i b h o f =
    let v = f.within in
    let p = leads_pointer (node t (suc k) q) (path deep m (roots f.who) (node t (suc k) q)) c f.there in
    let z = path_step deep m (roots f.who) t k q i v.1 h ∙ ap (λ (x : ℕ). child m x i) p in
    let e : deep t - k ≡ suc (deep t - suc k) = omega (arith, v.1) in
    record {
      who = f.who;
      listed = f.listed;
      there = subst (λ (x : ℕ). 0 < leads (node t k (q * 16 + i)) x b) (sym z) o;
      within = (v.0, omega (arith, v.1), omega (arith, v.2, ap (λ (z : ℕ). 16 ^ z) e ∙ pow-suc 16 (deep t - suc k)));
    }

module _ (deep : ℕ → ℕ) (n : ℕ) (m : Blocks) (label : ℕ → Label) (roots : ℕ → ℕ) (w : Stands deep n m label roots) where
  rooted : (b : ℕ) → held_by n roots b ≢ 0 → Found deep n m roots (label b) b
  rooted b d =
      let s = some_part n (λ s. hit (roots s) b) (omega arith) in
      let e = w.rooted s.0 s.1 b s.2 in
      subst (λ l. Found deep n m roots l b) (sym e) (record { who = s.0; listed = s.1; there = s.2; within = tt })

  found_by : (top fuel b : ℕ) → ((c : ℕ) → 0 < m.holders c → rank deep (label c) ≤ top) → top ≤ rank deep (label b) + fuel → 0 < m.holders b → Found deep n m roots (label b) b
  found_by top zero b low f h = elim (ℕ_discrete (held_by n roots b) 0) [
    | no d ↦ rooted b d
    | yes e ↦
        let r = parent deep m label (held_by n roots) w.balance b e h in
        let p = leads_pointer (below deep (label r.0) r.1) (m.word r.0 r.1) b r.3 in
        let l = w.balance.ordered r.0 r.1 b r.3 in
        absurd (omega (arith, low r.0 (out_of deep m label (held_by n roots) w.balance r.0 r.1 b p), ap (rank deep) l, rank_below deep (label r.0) r.1 (m.word r.0 r.1) b r.2 r.3))
  ]
  found_by top (suc fuel) b low f h = elim (ℕ_discrete (held_by n roots b) 0) [
    | no d ↦ rooted b d
    | yes e ↦
        let r = parent deep m label (held_by n roots) w.balance b e h in
        let p = leads_pointer (below deep (label r.0) r.1) (m.word r.0 r.1) b r.3 in
        let l = w.balance.ordered r.0 r.1 b r.3 in
        let g = rank_below deep (label r.0) r.1 (m.word r.0 r.1) b r.2 r.3 in
        let up = found_by top fuel r.0 low (omega (arith, f, ap (rank deep) l, g)) (out_of deep m label (held_by n roots) w.balance r.0 r.1 b p) in
        subst (λ l. Found deep n m roots l b) (sym l) (found_down deep n m roots (label r.0) r.0 r.1 b r.2 r.3 up)
  ]

  -- each block that is out is on the path of a snapshot
  pub found : (b : ℕ) → 0 < m.holders b → Found deep n m roots (label b) b
  found b h =
      let top = sum_to m.size (λ c. rank deep (label c)) in
      found_by top top b (λ c l. at_most_sum m.size (λ c. rank deep (label c)) c (inside deep m label (held_by n roots) w.balance c l)) (omega arith) h

  -- what is on the path of a snapshot is out, and stands at that position
  pub record Sits (l : Label) (b : ℕ) : Type 0 where
    pub at : label b ≡ l
    pub up : 0 < m.holders b

  pub sits_root : (s : ℕ) → s < n → (b : ℕ) → roots s ≡ suc b → Sits root b
  sits_root s h b e =
      let x = hit_there (roots s) b e in
      record { at = w.rooted s h b (omega (arith, x)); up = omega (arith, x, at_most_sum n (λ s. hit (roots s) b) s h, w.balance.counted b) }

  sits_below : (l : Label) (c i b : ℕ) → Sits l c → 0 < leads (below deep l i) (m.word c i) b → Sits (below deep l i) b
  sits_below l c i b f h =
      let g = subst (λ l. 0 < leads (below deep l i) (m.word c i) b) (sym f.at) h in
      record { at = w.balance.ordered c i b g ∙ ap (λ l. below deep l i) f.at; up = out_below deep m label (held_by n roots) w.balance c i b g }

  child_some : (p i b : ℕ) → child m p i ≡ suc b → (c : ℕ) × (p ≡ suc c) × (m.word c i ≡ suc b)
  child_some zero i b e = absurd (omega (arith, e))
  child_some (suc c) i b e = (c, refl, e)

  leads_node : (t k q p b : ℕ) → 0 < k → p ≡ suc b → 0 < leads (node t k q) p b
  leads_node t zero q p b h e = absurd (omega arith)
  leads_node t (suc k) q p b h e = omega (arith, hit_there p b e)

  pub sits_down : (s t j q b : ℕ) → s < n → j < deep t → down m (child m (roots s) t) j q ≡ suc b → Sits (node t (deep t - j) q) b
  sits_down s t zero zero b h l e =
      let c = child_some (roots s) t b e in
      let z : deep t - 0 ≡ deep t = omega arith in
      subst (λ (x : ℕ). Sits (node t x 0) b) (sym z) (sits_below root c.0 t b (sits_root s h c.0 c.1) (leads_node t (deep t) 0 (m.word c.0 t) b (omega arith) c.2))
  sits_down s t zero (suc q) b h l e = absurd (omega (arith, e))
  sits_down s t (suc j) q b h l e =
      let c = child_some (down m (child m (roots s) t) j (q / 16)) (q % 16) b e in
      let f = sits_down s t j (q / 16) c.0 h (omega arith) c.1 in
      let x : deep t - j ≡ suc (deep t - suc j) = omega arith in
      let y : q / 16 * 16 + q % 16 ≡ q = omega arith in
      subst (λ (v : ℕ). Sits (node t (deep t - suc j) v) b) y
      (sits_below (node t (suc (deep t - suc j)) (q / 16)) c.0 (q % 16) b (subst (λ (v : ℕ). Sits (node t v (q / 16)) c.0) x f) (leads_node t (deep t - suc j) (q / 16 * 16 + q % 16) (m.word c.0 (q % 16)) b (omega arith) c.2))

  pub sits : (l : Label) (s b : ℕ) → s < n → Within deep l → 0 < leads l (path deep m (roots s) l) b → Sits l b
  sits root s b h v g = sits_root s h b (hit_pointer (roots s) b g)
  sits (node t zero q) s b h v g = absurd (omega arith)
  sits (node t (suc k) q) s b h v g =
      let e : deep t - (deep t - suc k) ≡ suc k = omega (arith, v.1) in
      subst (λ (x : ℕ). Sits (node t x q) b) e (sits_down s t (deep t - suc k) q b h (omega (arith, v.1)) (hit_pointer (path deep m (roots s) (node t (suc k) q)) b g))
