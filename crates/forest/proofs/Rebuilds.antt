-- A tree is built anew, child by child.
use Rattle.std.proofs.Common.{◌≡◌, ℕ, zero, suc, ◌+◌, ◌-◌, ◌*◌, ◌<◌, ◌≤◌, Bool, true, false, cond, ◌||◌, eqb, ◌≢◌, [], ◌∷◌, sym, refl, ap, ◌∙◌, subst, arith, below_more, eq-eqb, ne_eqb, true≢false}
use Rattle.std.proofs.Math.Decide.{ℕ_discrete, dec_lt}
use Rattle.std.proofs.lemmas.Bool.{cond-true, cond-false}
use Rattle.block.specs.Blocks.{Blocks, Whole, sum_to}
use Rattle.forest.specs.Trees.{child, look}
use Rattle.forest.specs.Balance.{hit, hold, Label, node, below, leads, from, Points, Balanced}
use Rattle.forest.specs.Frames.{Grown, Live}
use Rattle.forest.specs.Rebuilds.{number, Reads, Stay, Done, Undone, Dropped}
use Rattle.forest.specs.Fills.{Filled}
use Rattle.block.proofs.Sums.{sum_same, sum_at, sum_more}
use Rattle.forest.proofs.Sums.{sum_split}
use Rattle.forest.proofs.Balances.{hit_self, hit_pointer, leads_zero, from_same, from_zeros, recount}
use Rattle.forest.proofs.Frames.{live_zero, live_grown, look_grown, out_below}

pub grown_none : (m : Blocks) → Grown m m
grown_none m = record { size = refl; held = λ b. omega arith; same = λ b i h. refl }

pub grown_then : {m n o : Blocks} → Grown m n → Grown n o → Grown m o
grown_then f g = record { size = g.size ∙ f.size; held = λ b. omega (arith, f.held b, g.held b); same = λ b i h. g.same b i (omega (arith, f.held b)) ∙ f.same b i h }

-- the first i children are built
pub record Part (new : ℕ → ℕ → ℕ) (m n : Blocks) (k p a : ℕ) (words : ℕ → ℕ) (fresh : ℕ → Bool) (changed : Bool) (i : ℕ) : Type 0 where
  pub quiet : changed ≡ false → n ≡ m
  pub calm : changed ≡ false → (j : ℕ) → j < i → words j ≡ child m p j
  pub grown : Grown m n
  pub live : (j : ℕ) → j < i → Live n k (words j)
  pub reads : (j : ℕ) → j < i → Reads new m n k (child m p j) (a * 16 + j) (words j)
  pub balance : (deep : ℕ → ℕ) (t : ℕ) (label : ℕ → Label) (outside : ℕ → ℕ) → Balanced deep m label outside → Points label (node t (suc k) a) p → (other : ℕ → Label) × Balanced deep n other (λ c. sum_to i (λ j. cond (fresh j) (hold k (words j) c) 0) + outside c) × ((j : ℕ) → j < i → Points other (node t k (a * 16 + j)) (words j)) × Stay m label other

pub points_stay : (label other : ℕ → Label) (l : Label) (w : ℕ) → ((d : ℕ) → 0 < leads l w d → other d ≡ label d) → Points label l w → Points other l w
points_stay label other l w h p = λ d e. h d e ∙ p d e

-- what is pointed to from a live tree is out
pub live_out : (m : Blocks) (k w : ℕ) → Live m k w → (d : ℕ) → 0 < hold k w d → 0 < m.holders d
live_out m zero w v d h = absurd (omega arith)
live_out m (suc k) w v d h = (v d (hit_pointer w d h)).0

pub live_child : (m : Blocks) (k p i : ℕ) → Live m (suc k) p → Live m k (child m p i)
live_child m k zero i v = live_zero m k
live_child m k (suc b) i v = (v b refl).1 i

pub points_zero : (label : ℕ → Label) (l : Label) → Points label l 0
points_zero label l = λ d h. absurd (omega (arith, leads_zero l d))

pub points_child : (deep : ℕ → ℕ) (m : Blocks) (label : ℕ → Label) (outside : ℕ → ℕ) → Balanced deep m label outside → (t k a p i : ℕ) → Points label (node t (suc k) a) p → Points label (node t k (a * 16 + i)) (child m p i)
points_child deep m label outside w t k a zero i q = points_zero label (node t k (a * 16 + i))
points_child deep m label outside w t k a (suc b) i q = subst (λ (l : Label). Points label (below deep l i) (m.word b i)) (q b (omega (arith, hit_self b))) (w.ordered b i)

pub child_grown : (m n : Blocks) → Grown m n → (k p i : ℕ) → Live m (suc k) p → child n p i ≡ child m p i
child_grown m n f k zero i v = refl
child_grown m n f k (suc b) i v = f.same b i (v b refl).0

module _ (new : ℕ → ℕ → ℕ) (m : Blocks) (k p a : ℕ) where
  pub part_none : (words : ℕ → ℕ) (fresh : ℕ → Bool) → Part new m m k p a words fresh false 0
  unfolding sum_to
  part_none words fresh = record {
    quiet = λ e. refl;
    calm = λ e j l. absurd (omega arith);
    grown = grown_none m;
    live = λ j l. absurd (omega arith);
    reads = λ j l. absurd (omega arith);
    balance = λ deep t label outside w q. (label, recount _ _ (λ c. omega arith) w, (λ j l. absurd (omega arith)), λ c h. refl);
  }

  -- only the first i words and marks count
  pub part_like : (n : Blocks) (words words' : ℕ → ℕ) (fresh fresh' : ℕ → Bool) (changed : Bool) (i : ℕ) → ((j : ℕ) → j < i → words' j ≡ words j) → ((j : ℕ) → j < i → fresh' j ≡ fresh j) → Part new m n k p a words fresh changed i → Part new m n k p a words' fresh' changed i
  part_like n words words' fresh fresh' changed i ew ef f = record {
    quiet = f.quiet;
    calm = λ e j l. ew j l ∙ f.calm e j l;
    grown = f.grown;
    live = λ j l. subst (Live n k) (sym (ew j l)) (f.live j l);
    reads = λ j l. subst (Reads new m n k (child m p j) (a * 16 + j)) (sym (ew j l)) (f.reads j l);
    balance = λ deep t label outside w q.
        let b = f.balance deep t label outside w q in (
          b.0,
          recount _ _ (λ c. ap (λ (s : ℕ). s + outside c) (sum_same i _ _ (λ j l. ap (λ (x : ℕ). cond (fresh j) (hold k x c) 0) (sym (ew j l)) ∙ ap (λ t. cond t (hold k (words' j) c) 0) (sym (ef j l))))) b.1,
          (λ j l. subst (Points b.0 (node t k (a * 16 + j))) (sym (ew j l)) (b.2 j l)),
          b.3,
        );
  }

  pub part_more : (n o : Blocks) (words : ℕ → ℕ) (fresh : ℕ → Bool) (changed changed' : Bool) (i : ℕ) → Live m (suc k) p → Part new m n k p a words fresh changed i → Done new n o k (child n p i) (a * 16 + i) (words i) (fresh i) → (changed' ≡ false → (changed ≡ false) × (fresh i ≡ false)) → Part new m o k p a words fresh changed' (i + 1)
  part_more n o words fresh changed changed' i v f d t =
      let ec = child_grown m n f.grown k p i v in
      record {
        quiet = λ e. (d.same (t e).1).0 ∙ f.quiet (t e).0;
        calm = λ e. below_more _ _ (f.calm (t e).0) ((d.same (t e).1).1 ∙ ec);
        grown = grown_then f.grown d.grown;
        live = below_more _ _ (λ j l. live_grown n o d.grown k (words j) (f.live j l)) d.live;
        reads = below_more (λ j. Reads new m o k (child m p j) (a * 16 + j) (words j)) i
            (λ j l ds le ok. look_grown n o d.grown ds k (words j) le (f.live j l) ∙ f.reads j l ds le ok)
            (λ ds le ok. d.reads ds le ok ∙ ap (new (number (a * 16 + i) ds)) (look_grown m n f.grown ds k (child n p i) le (subst (Live m k) (sym ec) (live_child m k p i v)) ∙ ap (λ (x : ℕ). look m x ds) ec));
        balance = λ deep t label outside w q.
            let b = f.balance deep t label outside w q in
            let lc = live_child m k p i v in
            let pc = points_stay label b.0 (node t k (a * 16 + i)) (child m p i) (λ x g. b.3 x (live_out m k (child m p i) lc x g)) (points_child deep m label outside w t k a p i q) in
            let z = d.balance deep t b.0 (λ c. sum_to i (λ j. cond (fresh j) (hold k (words j) c) 0) + outside c) b.1 (subst (Points b.0 (node t k (a * 16 + i))) (sym ec) pc) in (
              z.0,
              recount _ _ (λ c. omega (arith, sum_more i (λ j. cond (fresh j) (hold k (words j) c) 0))) z.1,
              below_more (λ j. Points z.0 (node t k (a * 16 + j)) (words j)) i (λ j l. points_stay b.0 z.0 (node t k (a * 16 + j)) (words j) (λ x g. z.3 x (live_out n k (words j) (f.live j l) x g)) (b.2 j l)) z.2,
              λ c h. z.3 c (omega (arith, f.grown.held c)) ∙ b.3 c h,
            );
      }

pub done_leaf : (new : ℕ → ℕ → ℕ) (m : Blocks) (p a q : ℕ) (fresh : Bool) → q ≡ new a p → (fresh ≡ false → q ≡ p) → Done new m m 0 p a q fresh
done_leaf new m p a q fresh e h = record {
  same = λ f. (refl, h f);
  grown = grown_none m;
  live = tt;
  reads = none;
  balance = λ deep t label outside w x. (label, recount _ _ (λ c. omega (arith, flat fresh)) w, (λ b h. absurd (omega arith)), λ c l. refl);
}
  where
    none : Reads new m m 0 p a q
    none [] l o = e
    none (d ∷ ds) l o = absurd (omega (arith, l))

    flat : (t : Bool) → ◌≡◌ {A = ℕ} (cond t 0 0) 0
    flat true = refl
    flat false = refl

abbrev pub placed : ℕ → Label → (ℕ → Label) → ℕ → Label
placed b l other c = cond (eqb c b) l (other c)

pub placed_here : (b : ℕ) (l : Label) (other : ℕ → Label) → placed b l other b ≡ l
placed_here b l other = cond-true _ _ _ (eq-eqb b b refl)

pub placed_else : (b : ℕ) (l : Label) (other : ℕ → Label) (c : ℕ) → c ≢ b → placed b l other c ≡ other c
placed_else b l other c h = cond-false _ _ _ (ne_eqb c b h)

-- a block that is filled stands at its position l, and holds what was held outside; where l is a root, its slots stand at several orders
module _ (deep : ℕ → ℕ) (n o : Blocks) (l : Label) (k b : ℕ) (words : ℕ → ℕ) (fresh : ℕ → Bool) (other : ℕ → Label) (outside : ℕ → ℕ) (whole : Whole o) (g : Filled n o k b words fresh) (w : Balanced deep n other (λ c. sum_to 16 (λ j. cond (fresh j) (hold k (words j) c) 0) + outside c)) (like : (j : ℕ) → j < 16 → (c : ℕ) → leads (below deep l j) (words j) c ≡ hold k (words j) c) (pw : (j : ℕ) → j < 16 → Points other (below deep l j) (words j)) (lw : (j : ℕ) → j < 16 → (d : ℕ) → 0 < hold k (words j) d → 0 < n.holders d) where
  fill_from : (c : ℕ) → from deep o (placed b l other) c b ≡ sum_to 16 (λ j. hold k (words j) c)
  unfolding from
  fill_from c =
      ap (λ (x : Label). sum_to 16 (λ i. leads (below deep x i) (o.word b i) c)) (placed_here b l other) ∙ sum_same 16 _ _ (λ j h. ap (λ (x : ℕ). leads (below deep l j) x c) (g.filled j h) ∙ like j h c)

  fill_counted : (c : ℕ) → o.holders c ≡ hit (suc b) c + outside c + sum_to o.size (from deep o (placed b l other) c)
  fill_counted c =
      let s = sum_at n.size (from deep o (placed b l other) c) (from deep n other c) b g.inside (λ j d. from_same deep o n (placed b l other) other c j (placed_else b l other j d) (λ i. g.others j i d)) in
      let z = from_zeros deep n other c b (λ i. w.whole.blank b i g.was) in
      let u = ap (λ (x : ℕ). sum_to x (from deep o (placed b l other) c)) g.size in
      omega (arith, s, z, u, fill_from c, sum_split 16 fresh (λ j. hold k (words j) c), g.holders c, w.counted c)

  apart : (d : ℕ) → 0 < n.holders d → d ≢ b
  apart d h e = omega (arith, h, g.was, ap n.holders e)

  fill_ordered : (c i : ℕ) → Points (placed b l other) (below deep (placed b l other c) i) (o.word c i)
  fill_ordered c i = elim (ℕ_discrete c b) [
    | yes y ↦
        subst (λ (x : ℕ). Points (placed b l other) (below deep (placed b l other x) i) (o.word x i)) (sym y)
        (subst (λ (x : Label). Points (placed b l other) (below deep x i) (o.word b i)) (sym (placed_here b l other))
        (elim (dec_lt i 16) [
          | yes h ↦ subst (Points (placed b l other) (below deep l i)) (sym (g.filled i h)) (points_stay other (placed b l other) (below deep l i) (words i) (λ d x. placed_else b l other d (apart d (lw i h d (omega (arith, x, like i h d))))) (pw i h))
          | no z ↦ subst (Points (placed b l other) (below deep l i)) (sym (whole.wide b i (omega arith))) (points_zero (placed b l other) (below deep l i))
        ]))
    | no y ↦
        subst (λ (x : Label). Points (placed b l other) (below deep x i) (o.word c i)) (sym (placed_else b l other c y))
        (subst (Points (placed b l other) (below deep (other c) i)) (sym (g.others c i y))
        (points_stay other (placed b l other) (below deep (other c) i) (n.word c i) (λ d x. placed_else b l other d (apart d (out_below deep n other _ w c i d x))) (w.ordered c i)))
  ]

  pub fill_balance : Balanced deep o (placed b l other) (λ c. hit (suc b) c + outside c)
  fill_balance = record { whole = whole; counted = fill_counted; ordered = fill_ordered }

module _ (new : ℕ → ℕ → ℕ) (m n : Blocks) (k p a : ℕ) (words : ℕ → ℕ) (fresh : ℕ → Bool) (v : Live m (suc k) p) where
  reads_more : (o : Blocks) (q : ℕ) → ((d : ℕ) → d < 16 → child o q d ≡ words d) → ((d : ℕ) → d < 16 → Reads new m o k (child m p d) (a * 16 + d) (words d)) → Reads new m o (suc k) p a q
  reads_more o q e r [] l ok = absurd (omega (arith, l))
  reads_more o q e r (d ∷ ds) l ok = ap (λ (x : ℕ). look o x ds) (e d ok.0) ∙ r d ok.0 ds (omega (arith, l)) ok.1

  pub done_same : Part new m n k p a words fresh false 16 → Done new m n (suc k) p a p false
  done_same f =
      let e = f.quiet refl in
      record {
        same = λ _. (e, refl);
        grown = f.grown;
        live = live_grown m n f.grown (suc k) p v;
        reads = reads_more n p (λ d l. child_grown m n f.grown k p d v ∙ sym (f.calm refl d l)) f.reads;
        balance = λ deep t label outside w q. (label, recount _ _ (λ c. omega arith) (subst (λ (x : Blocks). Balanced deep x label outside) (sym e) w), q, λ c l. refl);
      }

  module _ (o : Blocks) (b : ℕ) (whole : Whole o) (f : Part new m n k p a words fresh true 16) (g : Filled n o k b words fresh) where
    filled_grown : Grown n o
    filled_grown = record { size = g.size; held = λ c. omega (arith, g.holders c); same = λ c i h. g.others c i (λ e. omega (arith, g.was, ap n.holders e)) }

    filled_live : Live o (suc k) (suc b)
    filled_live c e =
        let y : c ≡ b = omega (arith, e) in
        subst (λ (x : ℕ). (0 < o.holders x) × ((i : ℕ) → Live o k (o.word x i))) (sym y) (
          omega (arith, g.holders b, hit_self b),
          λ i. elim (dec_lt i 16) [
            | yes l ↦ subst (Live o k) (sym (g.filled i l)) (live_grown n o filled_grown k (words i) (f.live i l))
            | no z ↦ subst (Live o k) (sym (whole.wide b i (omega arith))) (live_zero o k)
          ],
        )

    pub done_filled : Done new m o (suc k) p a (suc b) true
    done_filled = record {
      same = λ e. absurd (true≢false e);
      grown = grown_then f.grown filled_grown;
      live = filled_live;
      reads = reads_more o (suc b) g.filled (λ d l ds le ok. look_grown n o filled_grown ds k (words d) le (f.live d l) ∙ f.reads d l ds le ok);
      balance = λ deep t label outside w q.
          let z = f.balance deep t label outside w q in (
            placed b (node t (suc k) a) z.0,
            fill_balance deep n o (node t (suc k) a) k b words fresh z.0 outside whole g z.1 (λ j h c. refl) z.2 (λ j h. live_out n k (words j) (f.live j h)),
            (λ d h. let y : d ≡ b = omega (arith, hit_pointer (suc b) d h) in ap (placed b (node t (suc k) a) z.0) y ∙ placed_here b (node t (suc k) a) z.0),
            λ c h. placed_else b (node t (suc k) a) z.0 c (λ e. omega (arith, h, f.grown.held c, g.was, ap n.holders e)) ∙ z.3 c h,
          );
    }

-- at the order as the code has it
pub live_down : (m : Blocks) (o p : ℕ) → o ≢ 0 → Live m o p → Live m (suc (o - 1)) p
live_down m o p h v = let e : o ≡ suc (o - 1) = omega arith in subst (λ (x : ℕ). Live m x p) e v

pub done_up : (new : ℕ → ℕ → ℕ) (m n : Blocks) (o p a q : ℕ) (t : Bool) → o ≢ 0 → Done new m n (suc (o - 1)) p a q t → Done new m n o p a q t
done_up new m n o p a q t h d = let e : suc (o - 1) ≡ o = omega arith in subst (λ (x : ℕ). Done new m n x p a q t) e d

pub live_here : (new : ℕ → ℕ → ℕ) (m n : Blocks) (o p a : ℕ) (words : ℕ → ℕ) (fresh : ℕ → Bool) (changed : Bool) (i w : ℕ) → o ≢ 0 → Live m o p → Part new m n (o - 1) p a words fresh changed i → w ≡ child n p i → Live n (o - 1) w
live_here new m n o p a words fresh changed i w h v f e =
    subst (Live n (o - 1)) (sym e) (live_child n (o - 1) p i (live_grown m n f.grown (suc (o - 1)) p (live_down m o p h v)))

-- one child more, whose word is q and whose mark is t
pub part_next : (new : ℕ → ℕ → ℕ) (m n u : Blocks) (o p a : ℕ) (words other : ℕ → ℕ) (fresh marks : ℕ → Bool) (changed : Bool) (i q : ℕ) (t : Bool) → o ≢ 0 → Live m o p → Part new m n (o - 1) p a words fresh changed i → Done new n u (o - 1) (child n p i) (a * 16 + i) q t → ((j : ℕ) → j < i → other j ≡ words j) → other i ≡ q → ((j : ℕ) → j < i → marks j ≡ fresh j) → marks i ≡ t → Part new m u (o - 1) p a other marks (changed || t) (i + 1)
part_next new m n u o p a words other fresh marks changed i q t h v f d ew eq ef et =
    let d₁ = subst (λ (x : ℕ). Done new n u (o - 1) (child n p i) (a * 16 + i) x t) (sym eq) d in
    let d₂ = subst (λ x. Done new n u (o - 1) (child n p i) (a * 16 + i) (other i) x) (sym et) d₁ in
    part_more new m (o - 1) p a n u other marks changed (changed || t) i (live_down m o p h v)
    (part_like new m (o - 1) p a n words other fresh marks changed i ew ef f)
    d₂ (λ z. ((neither changed t z).0, et ∙ (neither changed t z).1))
  where
    neither : (x y : Bool) → (x || y) ≡ false → (x ≡ false) × (y ≡ false)
    neither true y z = absurd (true≢false z)
    neither false y z = (refl, z)

module _ (new : ℕ → ℕ → ℕ) (m n : Blocks) (o p a : ℕ) (words : ℕ → ℕ) (fresh : ℕ → Bool) (changed : Bool) (i : ℕ) (h : o ≢ 0) (v : Live m o p) (f : Part new m n (o - 1) p a words fresh changed i) (e : i ≡ 16) where
  at_end : (t : Bool) → changed ≡ t → Part new m n (o - 1) p a words fresh t 16
  at_end t c = subst (Part new m n (o - 1) p a words fresh t) e (subst (λ x. Part new m n (o - 1) p a words fresh x i) c f)

  pub end_same : changed ≡ false → Done new m n o p a p false
  end_same c = done_up new m n o p a p false h (done_same new m n (o - 1) p a words fresh (live_down m o p h v) (at_end false c))

  pub end_filled : (u : Blocks) (q : ℕ) → changed ≡ true → Whole u → 0 < q → Filled n u (o - 1) (q - 1) words fresh → Done new m u o p a q true
  end_filled u q c w l g =
      let y : suc (q - 1) ≡ q = omega arith in
      done_up new m u o p a q true h
      (subst (λ (x : ℕ). Done new m u (suc (o - 1)) p a x true) y
      (done_filled new m n (o - 1) p a words fresh (live_down m o p h v) u (q - 1) w (at_end true c) g))

-- what was built so far is let go: the marks past i are not set
module _ (new : ℕ → ℕ → ℕ) (m n : Blocks) (k p a : ℕ) (words : ℕ → ℕ) (fresh : ℕ → Bool) (changed : Bool) (i : ℕ) (f : Part new m n k p a words fresh changed i) (rest : (j : ℕ) → i ≤ j → fresh j ≡ false) (le : i ≤ 16) where
  marks_end : (n : ℕ) → i ≤ n → (c : ℕ) → sum_to n (λ j. cond (fresh j) (hold k (words j) c) 0) ≡ sum_to i (λ j. cond (fresh j) (hold k (words j) c) 0)
  unfolding sum_to
  marks_end zero l c = let e : i ≡ 0 = omega arith in ap (λ (x : ℕ). sum_to x (λ j. cond (fresh j) (hold k (words j) c) 0)) (sym e)
  marks_end (suc n) l c = elim (ℕ_discrete i (suc n)) [
    | yes e ↦ ap (λ (x : ℕ). sum_to x (λ j. cond (fresh j) (hold k (words j) c) 0)) (sym e)
    | no d ↦ omega (arith, marks_end n (omega arith) c, ap (λ t. cond t (hold k (words n) c) 0) (rest n (omega arith)))
  ]

  -- the child at i failed, from n to u, and from u to v the others are let go
  pub undo : (u v : Blocks) (w : ℕ) → ((deep : ℕ → ℕ) (t : ℕ) (label : ℕ → Label) (outside : ℕ → ℕ) → Balanced deep m label outside → Points label (node t (suc k) a) p → (other : ℕ → Label) → Stay m label other → Points other (node t k (a * 16 + i)) w) → Undone n u k w (a * 16 + i) → Dropped k words fresh u v → Undone m v (suc k) p a
  undo u v w pw x d = record {
    size = d.fewer.size ∙ x.size ∙ f.grown.size;
    same = λ b j hm hv. d.fewer.same b j hv ∙ x.same b j (omega (arith, f.grown.held b)) (omega (arith, d.fewer.held b)) ∙ f.grown.same b j hm;
    balance = λ deep t label outside z q.
        let b = f.balance deep t label outside z q in
        let y = x.balance deep t b.0 (λ c. sum_to i (λ j. cond (fresh j) (hold k (words j) c) 0) + outside c) b.1 (pw deep t label outside z q b.0 b.3) in
        let e = d.balance deep t a y.0 outside (recount _ _ (λ c. omega (arith, marks_end 16 le c)) y.1) (λ j l r.
        elim (dec_lt j i) [
          | yes h ↦ points_stay b.0 y.0 (node t k (a * 16 + j)) (words j) (λ o g. y.2 o (live_out n k (words j) (f.live j h) o g)) (b.2 j h)
          | no h ↦ absurd (true≢false (sym r ∙ rest j (omega arith)))
        ]) in
        (y.0, e, λ c h. y.2 c (omega (arith, f.grown.held c)) ∙ b.3 c h);
  }

undone_none : (n : Blocks) (k a : ℕ) → Undone n n k 0 a
undone_none n k a = record { size = refl; same = λ b i h l. refl; balance = λ deep t label outside w q. (label, w, λ c h. refl) }

undone_up : (m n : Blocks) (o p a : ℕ) → o ≢ 0 → Undone m n (suc (o - 1)) p a → Undone m n o p a
undone_up m n o p a h d = let e : suc (o - 1) ≡ o = omega arith in subst (λ (x : ℕ). Undone m n x p a) e d

module _ (new : ℕ → ℕ → ℕ) (m n : Blocks) (o p a : ℕ) (words : ℕ → ℕ) (fresh : ℕ → Bool) (changed : Bool) (i : ℕ) (h : o ≢ 0) (v : Live m o p) (f : Part new m n (o - 1) p a words fresh changed i) (rest : (j : ℕ) → i ≤ j → fresh j ≡ false) (le : i ≤ 16) where
  pub undo_child : (u x : Blocks) (w : ℕ) → w ≡ child n p i → Undone n u (o - 1) w (a * 16 + i) → Dropped (o - 1) words fresh u x → Undone m x o p a
  undo_child u x w e d r =
      let l = live_down m o p h v in
      let ec = child_grown m n f.grown (o - 1) p i l in
      undone_up m x o p a h (undo new m n (o - 1) p a words fresh changed i f rest le u x w
      (λ deep t label outside z q other s. subst (Points other (node t (o - 1) (a * 16 + i))) (sym (e ∙ ec))
      (points_stay label other (node t (o - 1) (a * 16 + i)) (child m p i) (λ y g. s y (live_out m (o - 1) (child m p i) (live_child m (o - 1) p i l) y g)) (points_child deep m label outside z t (o - 1) a p i q))) d r)

  pub undo_words : (u x : Blocks) → u ≡ n → Dropped (o - 1) words fresh u x → Undone m x o p a
  undo_words u x e r =
      undone_up m x o p a h (undo new m n (o - 1) p a words fresh changed i f rest le n x 0 (λ deep t label outside z q other s. points_zero other (node t (o - 1) (a * 16 + i))) (undone_none n (o - 1) (a * 16 + i)) (subst (λ (y : Blocks). Dropped (o - 1) words fresh y x) e r))
