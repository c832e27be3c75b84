-- What `let_go` is, by cases.
use Rattle.std.proofs.Common.{◌≡◌, ℕ, zero, suc, ◌-◌, Bool, true, false, cond, eqb, ◌≢◌, List, [], ◌∷◌, is_ok, Ok, Err, fold, Result, sym, refl, ap, ◌∙◌, arith, eq-eqb, ne_eqb}
use Rattle.std.proofs.Math.Decide.{ℕ_discrete}
use Rattle.std.proofs.lemmas.Bool.Decides.{nat_tests}
use Rattle.block.specs.Blocks.{Blocks, Whole}
use Rattle.block.specs.Calls.{released, release_answer}
use Rattle.block.specs.Refusals.{refusal}
use Rattle.block.specs.declared.refusals.Refusal.{Refusal}
use Rattle.forest.specs.Trees.{words, let_go}

pub released_flat : (m : Blocks) (p : ℕ) → let_go 0 m p ≡ m
unfolding let_go
released_flat m p = refl

pub released_null : (o : ℕ) (m : Blocks) → let_go o m 0 ≡ m
unfolding let_go
released_null zero m = refl
released_null (suc k) m = refl

pub released_step : (k b : ℕ) (m : Blocks) → let_go (suc k) m (suc b) ≡ cond (eqb (m.holders b) 1) (fold (let_go k) (released m b) (words m (suc b))) (released m b)
unfolding let_go
released_step k b m = refl

pub folded_flat : (m : Blocks) (ws : List ℕ) → fold (let_go 0) m ws ≡ m
folded_flat m [] = refl
folded_flat m (w ∷ ws) = ap (λ n. fold (let_go 0) n ws) (released_flat m w) ∙ folded_flat m ws

abbrev pub Step : ℕ → ℕ → Blocks → Type 0
Step o p m = let_go o m p ≡ cond (eqb (m.holders (p - 1)) 1) (fold (let_go (o - 1)) (released m (p - 1)) (words m p)) (released m (p - 1))

pub released_at : (o p : ℕ) (m : Blocks) → o ≢ 0 → p ≢ 0 → Step o p m
released_at zero p m ho hp = absurd (ho refl)
released_at (suc k) zero m ho hp = absurd (hp refl)
released_at (suc k) (suc b) m ho hp =
    let e : suc k - 1 ≡ k = omega arith in
    let f : suc b - 1 ≡ b = omega arith in
    rw (e, f) (released_step k b m)

pub released_last : (o p : ℕ) (m : Blocks) → o ≢ 0 → p ≢ 0 → m.holders (p - 1) ≡ 1 → let_go o m p ≡ fold (let_go (o - 1)) (released m (p - 1)) (words m p)
released_last o p m ho hp h = released_at o p m ho hp ∙ ap (λ t. cond t (fold (let_go (o - 1)) (released m (p - 1)) (words m p)) (released m (p - 1))) (eq-eqb _ _ h)

pub released_more : (o p : ℕ) (m : Blocks) → o ≢ 0 → p ≢ 0 → m.holders (p - 1) ≢ 1 → let_go o m p ≡ released m (p - 1)
released_more o p m ho hp h = released_at o p m ho hp ∙ ap (λ t. cond t (fold (let_go (o - 1)) (released m (p - 1)) (words m p)) (released m (p - 1))) (ne_eqb _ _ h)

cond_same : {X : Type 0} (t : Bool) (x y : X) → x ≡ y → cond t x y ≡ y
cond_same true x y e = e
cond_same false x y e = refl

pub released_leaf : (p : ℕ) (m : Blocks) → p ≢ 0 → let_go 1 m p ≡ released m (p - 1)
released_leaf p m hp = released_at 1 p m (omega arith) hp ∙ cond_same (eqb (m.holders (p - 1)) 1) _ _ (folded_flat (released m (p - 1)) (words m p))

-- a block that is not out has no holder to lose
pub released_free : (m : Blocks) (b : ℕ) → Whole m → m.holders b ≡ 0 → released m b ≡ m
released_free m b w e = λ i. record { size = m.size; holders = λ c. same_holders c i; word = λ c j. same_words c j i }
  where
    same_holders : (c : ℕ) → (released m b).holders c ≡ m.holders c
    same_holders c = elim (ℕ_discrete c b) [ yes y ↦ let x = ap m.holders y in grind (arith, nat_tests) | no d ↦ grind (arith, nat_tests) ]

    same_words : (c j : ℕ) → (released m b).word c j ≡ m.word c j
    same_words c j = elim (ℕ_discrete c b) [ yes y ↦ let x = ap (λ (v : ℕ). m.word v j) y in let z = w.blank b j e in grind (arith, nat_tests) | no d ↦ grind (arith, nat_tests) ]

-- what `release` leaves, refused or not
pub released_anyway : (m n : Blocks) (b : ℕ) (r : Result Unit Refusal) → Whole m → r ≡ release_answer m b → n ≡ cond (is_ok r) (released m b) m → n ≡ released m b
released_anyway m n b r w a e =
    elim (ℕ_discrete (m.holders b) 0) [
      | yes z ↦ e ∙ ap (λ x. cond (is_ok x) (released m b) m) (a ∙ ap (λ t. cond t (Err (refusal 2)) (Ok tt)) (eq-eqb (m.holders b) 0 z)) ∙ sym (released_free m b w z)
      | no d ↦ e ∙ ap (λ x. cond (is_ok x) (released m b) m) (a ∙ ap (λ t. cond t (Err (refusal 2)) (Ok tt)) (ne_eqb (m.holders b) 0 d))
    ]
