-- A block is taken and filled.
use Rattle.std.proofs.Common.{◌≡◌, ℕ, zero, suc, ◌+◌, ◌<◌, ◌≤◌, Bool, true, false, cond, ltb, ◌≢◌, is_ok, Ok, Result, sym, refl, ap, ◌∙◌, subst, add-one, arith, le-ltb, ne_eqb}
use Rattle.std.proofs.Math.Decide.{ℕ_discrete}
use Rattle.std.proofs.lemmas.Bool.Decides.{nat_tests}
use Rattle.block.specs.Blocks.{Blocks, sum_to}
use Rattle.block.specs.Calls.{taken, written, put_answer, refused_if, Picked}
use Rattle.forest.specs.Balance.{hold}
use Rattle.forest.specs.Fills.{Room, held}
use Rattle.block.specs.declared.refusals.Refusal.{Refusal}
use Rattle.block.proofs.Sums.{sum_ones}

pub hold_one : (k w c : ℕ) → hold k w c ≤ 1
hold_one zero w c = omega arith
hold_one (suc k) w c = grind (arith, nat_tests)

pub cond_one : (t : Bool) (x : ℕ) → x ≤ 1 → cond t 0 x ≤ 1
cond_one true x h = omega arith
cond_one false x h = h

-- the first i words are there
pub record Filling (m n : Blocks) (k b : ℕ) (new : ℕ → ℕ) (fresh : ℕ → Bool) (i : ℕ) : Type 0 where
  pub out : 0 < m.holders b
  pub size : n.size ≡ m.size
  pub holders : (c : ℕ) → n.holders c ≡ m.holders c + sum_to i (λ j. cond (fresh j) 0 (hold k (new j) c))
  pub filled : (j : ℕ) → j < i → n.word b j ≡ new j
  pub others : (c j : ℕ) → c ≢ b → n.word c j ≡ m.word c j

module _ (k b : ℕ) (new : ℕ → ℕ) (fresh : ℕ → Bool) where
  pub fill_none : (m : Blocks) → 0 < m.holders b → Filling m m k b new fresh 0
  unfolding sum_to
  fill_none m o = record { out = o; size = refl; holders = λ c. omega arith; filled = λ j l. absurd (omega arith); others = λ c j d. refl }

  cond_holders : (t : Bool) (w : ℕ) (m : Blocks) (c : ℕ) → (cond t m (held k w m)).holders c ≡ m.holders c + cond t 0 (hold k w c)
  cond_holders true w m c = omega arith
  cond_holders false w m c = refl

  cond_word : (t : Bool) (w : ℕ) (m : Blocks) → (cond t m (held k w m)).word ≡ m.word
  cond_word true w m = refl
  cond_word false w m = refl

  cond_size : (t : Bool) (w : ℕ) (m : Blocks) → (cond t m (held k w m)).size ≡ m.size
  cond_size true w m = refl
  cond_size false w m = refl

  pub fill_more : (m n : Blocks) (i : ℕ) → Filling m n k b new fresh i → Filling m (written (cond (fresh i) n (held k (new i) n)) b i (new i)) k b new fresh (i + 1)
  unfolding sum_to
  fill_more m n i f = rw add-one (record {
    out = f.out;
    size = cond_size (fresh i) (new i) n ∙ f.size;
    holders = λ c. omega (arith, cond_holders (fresh i) (new i) n c, f.holders c);
    filled = λ j l. let z = ap (λ (v : ℕ → ℕ → ℕ). v b j) (cond_word (fresh i) (new i) n) in elim (ℕ_discrete j i) [
      | yes y ↦ let x = ap new y in grind (arith, nat_tests)
      | no d ↦ let h = f.filled j (omega arith) in grind (arith, nat_tests)
    ];
    others = λ c j d. let z = ap (λ (v : ℕ → ℕ → ℕ). v c j) (cond_word (fresh i) (new i) n) in let h = f.others c j d in grind (arith, nat_tests);
  })

  put_taken : (n : Blocks) (i : ℕ) → 0 < n.holders b → i < 16 → is_ok (put_answer n b i) ≡ true
  put_taken n i h l = ap is_ok (ap (λ t. refused_if t 2 (refused_if (ltb 15 i) 4 (Ok tt))) (ne_eqb (n.holders b) 0 (omega arith)) ∙ ap (λ t. refused_if t 4 (Ok tt)) (le-ltb 15 i (omega arith)))

  pub fill_step : (m n n₁ n₂ : Blocks) (i : ℕ) (r : Result Unit Refusal) → Filling m n k b new fresh i → i < 16 → n₁ ≡ cond (fresh i) n (held k (new i) n) → r ≡ put_answer n₁ b i → n₂ ≡ cond (is_ok r) (written n₁ b i (new i)) n₁ → Filling m n₂ k b new fresh (i + 1)
  fill_step m n n₁ n₂ i r f l e a e₂ =
      let h = ap (λ (x : Blocks). x.holders b) e ∙ cond_holders (fresh i) (new i) n b in
      let o : is_ok r ≡ true = ap is_ok a ∙ put_taken n₁ i (omega (arith, h, f.out, f.holders b)) l in
      let z : n₂ ≡ written (cond (fresh i) n (held k (new i) n)) b i (new i) = e₂ ∙ ap (λ t. cond t (written n₁ b i (new i)) n₁) o ∙ ap (λ (x : Blocks). written x b i (new i)) e in
      subst (λ (x : Blocks). Filling m x k b new fresh (i + 1)) (sym z) (fill_more m n i f)

  -- sixteen holders at most come on top
  pub fill_holdable : (m n : Blocks) (i : ℕ) → Room k new fresh m 16 → Filling m n k b new fresh i → i < 16 → fresh i ≡ false → (c : ℕ) → 0 < hold k (new i) c → (0 < n.holders c) × (n.holders c < 65535)
  fill_holdable m n i r f l e c h =
      let x = r i l e c h in
      let s = sum_ones i (λ j. cond (fresh j) 0 (hold k (new j) c)) (λ j l. cond_one (fresh j) (hold k (new j) c) (hold_one k (new j) c)) in
      (omega (arith, x.0, f.holders c), omega (arith, x.1, f.holders c, s))

  pub room_taken : (m : Blocks) → m.holders b ≡ 0 → Room k new fresh m 16 → Room k new fresh (taken m b) 16
  room_taken m z r j l e c h =
      let x = r j l e c h in
      let d : c ≢ b = λ y. omega (arith, x.0, z, ap m.holders y) in
      let u : (taken m b).holders c ≡ m.holders c = grind (arith, nat_tests) in
      (omega (arith, u, x.0), omega (arith, u, x.1))

  -- a block was picked, and nothing is put yet
  pub fill_begin : (m u : Blocks) → Picked m b u → Room k new fresh m 16 → Room k new fresh u 16 × Filling u u k b new fresh 0
  fill_begin m u q r =
      let o : (taken m b).holders b ≡ 1 = grind (arith, nat_tests) in
      subst (λ (v : Blocks). Room k new fresh v 16 × Filling v v k b new fresh 0) (sym q.is) (room_taken m q.was r, fill_none (taken m b) (omega (arith, o)))
