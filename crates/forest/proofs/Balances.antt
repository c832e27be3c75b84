-- What the calls of a store do to the balance.
use Rattle.std.proofs.Common.{◌≡◌, ℕ, zero, suc, ◌+◌, ◌*◌, ◌<◌, ◌≤◌, Bool, true, false, cond, ◌&&◌, eqb, leb, ◌≢◌, List, [], ◌∷◌, map, fold, sym, refl, ap, ◌∙◌, subst, arith, ne_eqb}
use Rattle.std.proofs.Math.Path.{fun_ext}
use Rattle.std.proofs.Math.Decide.{ℕ_discrete, dec_lt}
use Rattle.std.proofs.lemmas.Bool.Decides.{nat_tests}
use Rattle.std.proofs.lemmas.Bool.{cond_both, eqb-true, eqb-false}
use Rattle.std.specs.List.{range_with_len}
use Rattle.block.specs.Blocks.{Blocks, sum_to}
use Rattle.block.specs.Calls.{released}
use Rattle.forest.specs.Balance.{hit, hold, Label, root, node, below, leads, from, Points, Balanced}
use Rattle.forest.specs.Trees.{child, words, let_go}
use Rattle.forest.proofs.Releases.{released_flat, released_null, released_step}
use Rattle.block.proofs.Sums.{sum_same, sum_at, sum_none}
use Rattle.block.proofs.Wholes.{released_whole}

-- the words of a block and its position alone decide where it points
pub from_same : (deep : ℕ → ℕ) (m n : Blocks) (label other : ℕ → Label) (b c : ℕ) → label c ≡ other c → ((i : ℕ) → m.word c i ≡ n.word c i) → from deep m label b c ≡ from deep n other b c
unfolding from sum_to
from_same deep m n label other b c o h = ap (λ (f : ℕ → ℕ). sum_to 16 (λ i. leads (below deep (label c) i) (f i) b)) (fun_ext h) ∙ ap (λ (l : Label). sum_to 16 (λ i. leads (below deep l i) (n.word c i) b)) o

pub hit_zero : (b : ℕ) → hit 0 b ≡ 0
hit_zero b = grind (arith, nat_tests)

pub hit_self : (b : ℕ) → hit (suc b) b ≡ 1
hit_self b = grind (arith, nat_tests)

pub hit_other : (b c : ℕ) → c ≢ b → hit (suc b) c ≡ 0
hit_other b c h = grind (arith, nat_tests)

pub hold_zero : (k b : ℕ) → hold k 0 b ≡ 0
hold_zero zero b = refl
hold_zero (suc k) b = hit_zero b

pub hold_pointer : (k p b : ℕ) → 0 < hold k p b → (p ≡ suc b) × (0 < k)
hold_pointer zero p b h = absurd (omega arith)
hold_pointer (suc k) p b h = (grind (arith, nat_tests), omega arith)

pub leads_zero : (l : Label) (b : ℕ) → leads l 0 b ≡ 0
leads_zero root b = hit_zero b
leads_zero (node t k q) b = hold_zero k b

pub hit_pointer : (p b : ℕ) → 0 < hit p b → p ≡ suc b
hit_pointer p b h = grind (arith, nat_tests)

pub hit_there : (p b : ℕ) → p ≡ suc b → hit p b ≡ 1
hit_there p b e = grind (arith, nat_tests)

pub leads_pointer : (l : Label) (p b : ℕ) → 0 < leads l p b → p ≡ suc b
leads_pointer root p b h = hit_pointer p b h
leads_pointer (node t k q) p b h = (hold_pointer k p b h).0

pub leads_one : (l : Label) (p b : ℕ) → leads l p b ≤ 1
leads_one root p b = grind (arith, nat_tests)
leads_one (node t zero q) p b = omega arith
leads_one (node t (suc k) q) p b = grind (arith, nat_tests)

leads_cond : (t : Bool) (l : Label) (p b : ℕ) → 0 < leads l (cond t 0 p) b → 0 < leads l p b
leads_cond true l p b h = absurd (omega (arith, leads_zero l b))
leads_cond false l p b h = h

pub from_zeros : (deep : ℕ → ℕ) (m : Blocks) (label : ℕ → Label) (b c : ℕ) → ((i : ℕ) → m.word c i ≡ 0) → from deep m label b c ≡ 0
unfolding from
from_zeros deep m label b c h = sum_none 16 (λ i. leads (below deep (label c) i) (m.word c i) b) (λ i l. ap (λ (w : ℕ). leads (below deep (label c) i) w b) (h i) ∙ leads_zero (below deep (label c) i) b)

module _ (m : Blocks) (b : ℕ) where
  go_other : (c i : ℕ) → c ≢ b → (released m b).word c i ≡ m.word c i
  go_other c i h = ap (λ t. cond (t && leb (m.holders b) 1) 0 (m.word c i)) (ne_eqb _ _ h)

  go_more_word : (c i : ℕ) → 1 < m.holders b → (released m b).word c i ≡ m.word c i
  go_more_word c i h = grind (arith, nat_tests)

  go_last_word : (i : ℕ) → m.holders b ≤ 1 → (released m b).word b i ≡ 0
  go_last_word i h = grind (arith, nat_tests)

  module _ (deep : ℕ → ℕ) (label : ℕ → Label) (outside : ℕ → ℕ) (w : Balanced deep m label (λ c. hit (suc b) c + outside c)) where
    go_ordered : (c i : ℕ) → Points label (below deep (label c) i) ((released m b).word c i)
    go_ordered c i d h = w.ordered c i d (leads_cond (eqb c b && leb (m.holders b) 1) (below deep (label c) i) (m.word c i) d h)

    inside : b < m.size
    inside = elim (dec_lt b m.size) [ yes l ↦ l | no d ↦ absurd (omega (arith, w.whole.beyond b (omega arith), w.counted b, hit_self b)) ]

    -- a holder that is not the last
    pub go_more : m.holders b ≢ 1 → Balanced deep (released m b) label outside
    go_more h =
        let l : 1 < m.holders b = omega (arith, w.counted b, hit_self b) in
        record {
          whole = released_whole m b w.whole;
          counted = λ c.
              let s = sum_same m.size (from deep (released m b) label c) (from deep m label c) (λ j q. from_same deep (released m b) m label label c j refl (λ i. go_more_word j i l)) in
              let e = w.counted c in
              elim (ℕ_discrete c b) [
                | yes y ↦ let x = ap m.holders y in let v = ap (hit (suc b)) y ∙ hit_self b in grind (arith, nat_tests)
                | no d ↦ let v = hit_other b c d in grind (arith, nat_tests)
              ];
          ordered = go_ordered;
        }

    -- the last holder: what the block pointed to is held from outside
    pub go_last : m.holders b ≡ 1 → Balanced deep (released m b) label (λ c. from deep m label c b + outside c)
    go_last h = record {
      whole = released_whole m b w.whole;
      counted = λ c.
          let s = sum_at m.size (from deep (released m b) label c) (from deep m label c) b inside (λ j q. from_same deep (released m b) m label label c j refl (λ i. go_other j i q)) in
          let z = from_zeros deep (released m b) label c b (λ i. go_last_word i (omega arith)) in
          let e = w.counted c in
          elim (ℕ_discrete c b) [
            | yes y ↦ let x = ap m.holders y in let v = ap (hit (suc b)) y ∙ hit_self b in grind (arith, nat_tests)
            | no d ↦ let v = hit_other b c d in grind (arith, nat_tests)
          ];
      ordered = go_ordered;
    }

-- the pointers in a list of words
abbrev pub holds : ℕ → List ℕ → ℕ → ℕ
holds k [] b = 0
holds k (w ∷ ws) b = hold k w b + holds k ws b

words_hold : (m : Blocks) (k b c : ℕ) → sum_to 16 (λ i. hold k (m.word b i) c) ≡ holds k (words m (suc b)) c
unfolding words sum_to
words_hold m k b c = omega arith

pub from_holds : (deep : ℕ → ℕ) (m : Blocks) (label : ℕ → Label) (b c t k a : ℕ) → label b ≡ node t (suc k) a → from deep m label c b ≡ holds k (words m (suc b)) c
unfolding from
from_holds deep m label b c t k a o = ap (λ (l : Label). sum_to 16 (λ i. leads (below deep l i) (m.word b i) c)) o ∙ words_hold m k b c

-- the count outside, said otherwise
pub recount : {deep : ℕ → ℕ} {m : Blocks} {label : ℕ → Label} (f g : ℕ → ℕ) → ((c : ℕ) → f c ≡ g c) → Balanced deep m label f → Balanced deep m label g
recount {deep} {m} {label} f g h w = subst (Balanced deep m label) (fun_ext h) w

-- each word of a list, from the slot i on, leads where it should
abbrev AllPoint : (ℕ → Label) → ℕ → ℕ → ℕ → ℕ → List ℕ → Type 0
AllPoint label t k a i [] = Unit {0}
AllPoint label t k a i (w ∷ ws) = Points label (node t k (a * 16 + i)) w × AllPoint label t k a (i + 1) ws

all_counting : (label : ℕ → Label) (t k a : ℕ) (f : ℕ → ℕ) → ((i : ℕ) → Points label (node t k (a * 16 + i)) (f i)) → (i n : ℕ) → AllPoint label t k a i (map f (range_with_len i n))
all_counting label t k a f h i zero = tt
all_counting label t k a f h i (suc n) = (h i, all_counting label t k a f h (i + 1) n)

all_words : (m : Blocks) (label : ℕ → Label) (t k a b : ℕ) → ((i : ℕ) → Points label (node t k (a * 16 + i)) (m.word b i)) → AllPoint label t k a 0 (words m (suc b))
unfolding words
all_words m label t k a b h = all_counting label t k a (child m (suc b)) h 0 16

-- to let a tree go takes its pointer away from outside
abbrev Lets : (ℕ → ℕ) → (ℕ → Label) → ℕ → ℕ → Type 0
Lets deep label t k = (a : ℕ) (m : Blocks) (p : ℕ) (outside : ℕ → ℕ) → Balanced deep m label (λ c. hold k p c + outside c) → Points label (node t k a) p → Balanced deep (let_go k m p) label outside

lets_all : (deep : ℕ → ℕ) (label : ℕ → Label) (t k a : ℕ) → Lets deep label t k → (m : Blocks) (i : ℕ) (ws : List ℕ) (outside : ℕ → ℕ) → Balanced deep m label (λ c. holds k ws c + outside c) → AllPoint label t k a i ws → Balanced deep (fold (let_go k) m ws) label outside
lets_all deep label t k a f m i [] outside w q = recount _ _ (λ c. omega arith) w
lets_all deep label t k a f m i (p ∷ ws) outside w q = lets_all deep label t k a f (let_go k m p) (i + 1) ws outside (f (a * 16 + i) m p (λ c. holds k ws c + outside c) (recount _ _ (λ c. omega arith) w) q.0) q.1

lets_last : (deep : ℕ → ℕ) (label : ℕ → Label) (t k a b : ℕ) → Lets deep label t k → (m : Blocks) (outside : ℕ → ℕ) → Balanced deep (released m b) label (λ c. from deep m label c b + outside c) → ((i : ℕ) → Points label (below deep (label b) i) (m.word b i)) → label b ≡ node t (suc k) a → Balanced deep (fold (let_go k) (released m b) (words m (suc b))) label outside
lets_last deep label t k a b f m outside w p o = lets_all deep label t k a f (released m b) 0 (words m (suc b)) outside (recount _ _ (λ c. omega (arith, from_holds deep m label b c t k a o)) w) (all_words m label t k a b (λ i. subst (λ (l : Label). Points label (below deep l i) (m.word b i)) o (p i)))

pub lets_go : (deep : ℕ → ℕ) (label : ℕ → Label) (t k : ℕ) → Lets deep label t k
lets_go deep label t zero a m p outside w q = subst (λ (n : Blocks). Balanced deep n label outside) (sym (released_flat m p)) (recount _ _ (λ c. omega arith) w)
lets_go deep label t (suc k) a m zero outside w q = subst (λ (n : Blocks). Balanced deep n label outside) (sym (released_null (suc k) m)) (recount _ _ (λ c. omega (arith, hit_zero c)) w)
lets_go deep label t (suc k) a m (suc b) outside w q =
    let o = q b (omega (arith, hit_self b)) in
    subst (λ (n : Blocks). Balanced deep n label outside) (sym (released_step k b m))
    (cond_both (eqb (m.holders b) 1) _ _ (λ (n : Blocks). Balanced deep n label outside)
    (λ e. lets_last deep label t k a b (lets_go deep label t k) m outside (go_last m b deep label outside w (eqb-true _ _ e)) (λ i. w.ordered b i) o)
    (λ e. go_more m b deep label outside w (eqb-false _ _ e)))
