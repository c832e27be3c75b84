-- What a rebuild and its refusal promise, as callers read it, and a release with them.
use Rattle.std.proofs.Common.{◌≡◌, ℕ, ◌<◌, ◌≤◌, Bool, false, sym, refl, subst, arith}
use Rattle.block.specs.Blocks.{Blocks, free_count}
use Rattle.block.specs.declared.refusals.Refusal.{Refusal}
use Rattle.block.specs.declared.refusals.Refusal.TheVariants.{NoneFree, NotOut, TooMany, NoWord}
use Rattle.forest.specs.Plans.{needed}
use Rattle.forest.specs.Trees.{let_go}
use Rattle.forest.specs.Balance.{Label, node, Points, Balanced}
use Rattle.forest.specs.Rebuilds.{Counted, Done, Undone, Why}
use Rattle.forest.specs.Promises.{Rebuilt, Refused, Released}
use Rattle.forest.proofs.Balances.{lets_go}
use Rattle.forest.proofs.Frames.{look_grown, fewer_released}
use Rattle.forest.proofs.Digits.{reads_at}
use Rattle.forest.proofs.Restores.{undone_exact}

pub rebuilt : (new : ℕ → ℕ → ℕ) (m n : Blocks) (k p q : ℕ) (t : Bool) → Done new m n k p 0 q t → Counted new m n k p 0 q t → Rebuilt new m n k p q t
rebuilt new m n k p q t d c = record {
  cells = λ i l. reads_at new m n k p q i d.reads l;
  old = λ j r v ds l. look_grown m n d.grown ds j r l v;
  spent = c.spent;
  unchanged = d.same;
  balance = d.balance;
  grown = d.grown;
  live = d.live;
  shape = c.shape;
}

pub rebuilt_same : (new : ℕ → ℕ → ℕ) (m n : Blocks) (k p q : ℕ) (t : Bool) → t ≡ false → Done new m n k p 0 q t → Counted new m n k p 0 q t → Rebuilt new m n k p p false
rebuilt_same new m n k p q t e d c = subst (λ (x : ℕ). Rebuilt new m n k p x false) (d.same e).1 (subst (Rebuilt new m n k p q) e (rebuilt new m n k p q t d c))

pub refused : (new : ℕ → ℕ → ℕ) (m n : Blocks) (k p : ℕ) (e : Refusal) → k ≤ 4 → Undone m n k p 0 → Why e new m k p 0 → Refused new m n k p e
refused new m n k p e h u y = record {
  restored = λ deep t label outside w q. undone_exact m n k p 0 deep t label outside w q u;
  short = go e y;
}
  where
    go : (e : Refusal) → Why e new m k p 0 → (deep : ℕ → ℕ) (t : ℕ) (label : ℕ → Label) (outside : ℕ → ℕ) → Balanced deep m label outside → Points label (node t k 0) p → ((b : ℕ) → outside b < 49000) → (e ≡ NoneFree) × (free_count m < needed new m k p 0)
    go NoneFree y deep t label outside w q f = (refl, y)
    go NotOut y deep t label outside w q f = absurd y
    go TooMany y deep t label outside w q f = let r = y deep t label outside w q in absurd (omega (arith, r.1, f r.0, w.whole.few))
    go NoWord y deep t label outside w q f = absurd y

pub released_all : (m n : Blocks) (k p : ℕ) → n ≡ let_go k m p → Released m n k p
released_all m n k p e = subst (λ (x : Blocks). Released m x k p) (sym e) (record {
  fewer = fewer_released k m p;
  balance = λ deep t a label outside w q. lets_go deep label t k a m p outside w q;
})
