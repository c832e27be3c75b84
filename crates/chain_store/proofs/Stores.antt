-- A store's chain, by what its slab answered.
use Rattle.std.proofs.Common.{◌≡◌, ℕ, suc, ◌+◌, ◌*◌, ◌<◌, true, cond, ltb, leb, List, ◌∷◌, length, get_or, set, is_ok, Ok, Err, Result, sym, refl, ap, ◌∙◌, subst, arith}
use Rattle.std.proofs.lemmas.List.{get_or-set_same}
use Rattle.std.proofs.lemmas.Bool.{lt-ltb, cond-true}
use Rattle.std.proofs.lemmas.Bool.Decides.{nat_tests}
use Rattle.block.specs.declared.refusals.Refusal.{Refusal}
use Rattle.block.specs.Blocks.{Blocks, is_free, free_count}
use Rattle.block.specs.Calls.{refused_if, keep_answer, put_answer, kept, released, taken, written}
use Rattle.block.proofs.Answered.{accepted, free_false}
use Rattle.block.proofs.Wholes.{out_below}
use Rattle.block_slab.specs.Held as slabs
use Rattle.layout.specs.Layout.{Claimed}
use Rattle.block_slab.specs.declared.memory.Slab.{Slab}
use Rattle.layout.proofs.Layouts.{room_words}
use Rattle.layout.proofs.Wholes.{laid_whole}
use Rattle.links.specs.Chain.{chain, Unheld, Threads}
use Rattle.chain_store.specs.Order.{held, order}
use Rattle.chain_store.specs.declared.store.ChainStore.{ChainStore}
use Rattle.links.proofs.Links.{length_chain, chain_more, chain_set, chain_claimed}
use Rattle.links.proofs.Threading.{not_listed, listed_kept, listed_written, listed_freed, listed_taken}

-- as many are free as are counted
pub free_counted : (s : ChainStore) → s.free ≡ free_count (held s)
free_counted s = sym (length_chain s.slab.words.now s.top s.free) ∙ s.threads.counted

pub kept_threads : (os : List ℕ) (m : Blocks) (b : ℕ) (r : Result Unit Refusal) → r ≡ keep_answer m b → Threads os m → Threads os (cond (is_ok r) (kept m b) m)
kept_threads os m b (Ok x) e t =
    let a = accepted (is_free m b) 2 (refused_if (leb 65535 (m.holders b)) 3 (Ok tt)) tt e in
    listed_kept os m b (free_false m b a.0) t
kept_threads os m b (Err x) e t = t

pub written_threads : (os : List ℕ) (m : Blocks) (b i w : ℕ) (r : Result Unit Refusal) → Threads os m → Threads os (cond (is_ok r) (written m b i w) m)
written_threads os m b i w (Ok x) t = listed_written os m b i w t
written_threads os m b i w (Err x) t = t

-- a word that is put leaves the chain
pub put_chain : (ws : List ℕ) (t n : ℕ) (m : Blocks) (b i w : ℕ) (r : Result Unit Refusal) → r ≡ put_answer m b i → Unheld (chain ws t n) m
    → chain (cond (is_ok r) (set ws (16 * b + i) w) ws) t n ≡ chain ws t n
put_chain ws t n m b i w (Ok x) e u =
    let a = accepted (is_free m b) 2 (refused_if (ltb 15 i) 4 (Ok tt)) tt e in
    let d = accepted (ltb 15 i) 4 (Ok tt) tt a.1 in
    let f = d.0 in
    let l : i < 16 = grind (arith, nat_tests) in
    chain_set ws t n b i w l (λ k h. not_listed (chain ws t n) m b u (free_false m b a.0) k (omega (arith, length_chain ws t n)))
put_chain ws t n m b i w (Err x) e u = refl

-- a block that was out comes before the others
pub push_chain : (ws : List ℕ) (t n : ℕ) (m : Blocks) (b : ℕ) → 16 * b < length ws → 0 < m.holders b → Unheld (chain ws t n) m
    → chain (set ws (16 * b) t) b (n + 1) ≡ b ∷ chain ws t n
push_chain ws t n m b l h u =
    chain_more (set ws (16 * b) t) b n
    ∙ ap (λ (x : ℕ). b ∷ chain (set ws (16 * b) t) x n) (get_or-set_same ws (16 * b) t 0 l)
    ∙ ap (λ (os : List ℕ). b ∷ os) (ap (λ (x : ℕ). chain (set ws x t) t n) plain ∙ chain_set ws t n b 0 t (omega arith) (λ k q. not_listed (chain ws t n) m b u h k (omega (arith, length_chain ws t n))))
  where
    plain : 16 * b ≡ 16 * b + 0
    plain = omega arith

-- ---- a release that frees the block

-- the slab v of a store, once b was freed and linked
pub record Freed (s : ChainStore) (b : ℕ) (v : Slab) : Type 0 where
  pub after : slabs.held v ≡ released (held s) b
  pub pushed : chain v.words.now b (s.free + 1) ≡ b ∷ order s
  pub threads : Threads (chain v.words.now b (s.free + 1)) (slabs.held v)

pub freed_store : (s : ChainStore) (b : ℕ) (u v : Slab) → (held s).holders b ≡ 1 → slabs.held u ≡ released (held s) b → u.words.now ≡ s.slab.words.now
    → ((slabs.held u).holders b ≡ 0 → slabs.held v ≡ slabs.held u) → v.words.now ≡ cond (ltb b (slabs.held u).size) (set u.words.now (16 * b) s.top) u.words.now → Freed s b v
freed_store s b u v last rel same_words link link-words =
    let m : Blocks = held s in
    let ws : List ℕ = s.slab.words.now in
    let hs : List ℕ = s.slab.cells.now in
    let out : 0 < m.holders b = omega arith in
    let below : b < m.size = out_below m b (laid_whole ws hs s.slab.fits) out in
    let none : (released m b).holders b ≡ 0 = grind (arith, nat_tests) in
    let after : slabs.held v ≡ released m b = link (ap (λ (x : Blocks). x.holders b) rel ∙ none) ∙ rel in
    let size : (slabs.held u).size ≡ m.size = ap (λ (x : Blocks). x.size) rel in
    let in_size : b < (slabs.held u).size = omega arith in
    let words : v.words.now ≡ set ws (16 * b) s.top =
    link-words ∙ cond-true _ (set u.words.now (16 * b) s.top) u.words.now (lt-ltb b (slabs.held u).size in_size)
    ∙ ap (λ (x : List ℕ). set x (16 * b) s.top) same_words in
    let pushed : chain v.words.now b (s.free + 1) ≡ b ∷ order s =
    ap (λ (x : List ℕ). chain x b (s.free + 1)) words
    ∙ push_chain ws s.top s.free m b (omega (arith, room_words ws hs)) out s.threads.unheld in
    record {
      after = after;
      pushed = pushed;
      threads =
          subst (λ (os : List ℕ). Threads os (slabs.held v)) (sym pushed)
          (subst (Threads (b ∷ order s)) (sym after) (listed_freed (order s) m b below last s.threads));
    }

-- ---- the first number taken

-- the slab v of a store, once the first number was put out, with `next` for the new first of n
pub record Popped (s : ChainStore) (next n : ℕ) (v : Slab) : Type 0 where
  pub below : s.top < (held s).size
  pub was : (held s).holders s.top ≡ 0
  pub after : slabs.held v ≡ taken (held s) s.top
  pub popped : order s ≡ s.top ∷ chain v.words.now next n
  pub threads : Threads (chain v.words.now next n) (slabs.held v)

pub popped_store : (s : ChainStore) (next n : ℕ) (v : Slab) → s.free ≡ n + 1 → next ≡ cond (ltb s.top (held s).size) (get_or s.slab.words.now (16 * s.top) 0) 0
    → slabs.held v ≡ cond (ltb s.top (held s).size) (taken (held s) s.top) (held s)
    → Claimed s.slab.words.now s.slab.cells.now s.top v.words.now v.cells.now → Popped s next n v
popped_store s next n v more e after claim =
    let m : Blocks = held s in
    let b = s.top in
    let ws : List ℕ = s.slab.words.now in
    let rest : List ℕ = chain ws (get_or ws (16 * b) 0) n in
    let split : order s ≡ b ∷ rest = ap (chain ws b) more ∙ chain_more ws b n in
    let t : Threads (b ∷ rest) m = subst (λ (os : List ℕ). Threads os m) split s.threads in
    let below : b < m.size = t.inside 0 (omega arith) in
    let yes_below : ltb b m.size ≡ true = lt-ltb b m.size below in
    let to_next : next ≡ get_or ws (16 * b) 0 = e ∙ cond-true _ (get_or ws (16 * b) 0) 0 yes_below in
    let is : slabs.held v ≡ taken m b = after ∙ cond-true _ (taken m b) m yes_below in
    let same : chain v.words.now next n ≡ rest =
    ap (λ (x : ℕ). chain v.words.now x n) to_next
    ∙ chain_claimed ws s.slab.cells.now v.words.now v.cells.now (get_or ws (16 * b) 0) n b claim
    (λ k l q. t.apart 0 (suc k) (omega arith) (omega (arith, length_chain ws (get_or ws (16 * b) 0) n)) (sym q)) in
    record {
      below = below;
      was = t.unheld 0 (omega arith);
      after = is;
      popped = split ∙ ap (λ (os : List ℕ). b ∷ os) (sym same);
      threads =
          subst (λ (os : List ℕ). Threads os (slabs.held v)) (sym same)
          (subst (Threads rest) (sym is) (listed_taken rest m b t));
    }
