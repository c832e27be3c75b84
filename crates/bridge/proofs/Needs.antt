-- The blocks that a rebuild needs are those that the history says.
use Rattle.std.proofs.Common.{◌≡◌, ℕ, suc, ◌+◌, ◌-◌, ◌*◌, ◌/◌, ◌%◌, ◌^◌, ◌<◌, ◌≤◌, Bool, false, cond, not, T, eqb, sym, ap, ◌∙◌, subst, mod-lt, div-add-mod', arith, eqb→eq, T_not, eq-eqb, ne_eqb}
use Rattle.std.proofs.Math.Decide.{ℕ_discrete}
use Rattle.std.proofs.Math.Nat.{one-le-pow, mul-add-div_right, div-eq_of_lt}
use Rattle.std.proofs.Math.Dec.{eqb_refl, not_T}
use Rattle.std.specs.List.{flat_map}
use Rattle.forest.specs.Plans.{any_to}
use Rattle.count.specs.Tally.{bit, all_stretches}
use Rattle.forest.proofs.Counts.{any_at}
use Rattle.count.proofs.Sums.{any_some}
use Rattle.rules.specs.Cells.{depth}
use Rattle.rules.specs.Sheets.{Sheet, Edit, draw, tree_of, changed, word_of}
use Rattle.rules.specs.Stretches.{same_stretch, stretches_of, touched, touches, need, Proper}
use Rattle.rules.specs.DrawLaws.{Layered, OffSheet}
use Rattle.rules.proofs.Tests.{is_true, is_false}
use Rattle.rules.proofs.Onces.{distinct_once}
use Rattle.rules.proofs.Touched.{stretch_self, stretch_tells, tree_below, touched_proper, touched_means}
use Rattle.history.proofs.Finds.{same_truth}
use Rattle.bridge.specs.Draws.{Draws}
use Rattle.bridge.specs.Shows.{alters, stretch}
use Rattle.count.proofs.Laws.{inside}
use Rattle.bridge.proofs.Lengths.{stretch_length}

-- a quotient is known between two products
quotient_back : (q b i : ℕ) → i < b → q ≡ (q * b + i) / b
quotient_back q b i l = sym (mul-add-div_right {m = b} (omega arith) q i ∙ ap (λ (v : ℕ). q + v) (div-eq_of_lt l) ∙ (let e : q + 0 ≡ q = omega arith in e))

-- the need, over all stretches
pub need_sum : (w h : ℕ) (e : Edit) (s : Sheet) → w ≤ 256 → h ≤ 256 → Layered e → need w h e s ≡ suc (all_stretches depth (λ t k q. bit (touches w h e s (stretch t (suc k) q))))
need_sum w h e s a b layered =
    omega (arith, stretch_length (touched w h e s) (distinct_once same_stretch stretch_self stretch_tells (flat_map (stretches_of (tree_of e)) (changed w h e s))) (λ q t. (touched_proper w h e s q a b layered t).1))

-- what a plan alters is what the edit touches
pub alters_touches : (w h : ℕ) (e : Edit) (s : Sheet) (new : ℕ → ℕ → ℕ) → w ≤ 256 → h ≤ 256 → Layered e → OffSheet w h s → Draws w h e s new
    → (t k q : ℕ) → t < 16 → k < depth t → q < 16 ^ (depth t - suc k) → alters (tree_of e) new (word_of s) t (suc k) q ≡ touches w h e s (stretch t (suc k) q)
alters_touches w h e s new a b layered off draws t k q lt lk lq = elim (ℕ_discrete t (tree_of e)) [
  | no d ↦ ap (λ c. cond c some false) (ne_eqb t (tree_of e) d) ∙ sym (is_false (touches w h e s (stretch t (suc k) q)) (λ u. d (touched_proper w h e s (stretch t (suc k) q) a b layered u).0))
  | yes z ↦ ap (λ c. cond c some false) (eq-eqb t (tree_of e) z) ∙ same_truth some (touches w h e s (stretch t (suc k) q)) (to z) (from z)
]
  where
    differs : ℕ → Bool
    differs i = not (eqb (new (q * 16 ^ suc k + i) (word_of s t (q * 16 ^ suc k + i))) (word_of s t (q * 16 ^ suc k + i)))

    some : Bool
    some = any_to (16 ^ suc k) differs

    low : t ≡ tree_of e → t < 10
    low z = subst (λ (v : ℕ). v < 10) (sym z) (tree_below e layered)

    proper : t ≡ tree_of e → Proper (stretch t (suc k) q)
    proper z = record { tree = low z; low = omega arith; high = omega (arith, lk); within = lq }

    new_word : t ≡ tree_of e → (i : ℕ) → i < 16 ^ depth t → new i (word_of s t i) ≡ word_of (draw w h e s) t i
    new_word z i l = subst (λ (v : ℕ). i < 16 ^ depth v → new i (word_of s v i) ≡ word_of (draw w h e s) v i) (sym z) (draws i) l

    pos : 0 < 16 ^ suc k
    pos = one-le-pow (suc k) 16 (omega arith)

    within : t ≡ tree_of e → (i : ℕ) → i < 16 ^ suc k → q * 16 ^ suc k + i < 16 ^ depth t
    within z i l = let y : depth t - suc k + suc k ≡ depth t = omega (arith, lk) in subst (λ (v : ℕ). q * 16 ^ suc k + i < 16 ^ v) y (inside (depth t - suc k) (suc k) q i lq l)

    to : t ≡ tree_of e → T some → T (touches w h e s (stretch t (suc k) q))
    to z u =
        let r = any_some (16 ^ suc k) differs (is_true some u) in
        let c = q * 16 ^ suc k + r.0 in
        let l = within z r.0 r.1 in
        (touched_means w h e s (stretch t (suc k) q) a b layered off).0 (
          proper z,
          record {
            cell = c;
            within = l;
            held = quotient_back q (16 ^ suc k) r.0 r.1;
            differs = λ g. T_not (eqb (new c (word_of s t c)) (word_of s t c)) (rw r.2 tt) (rw (new_word z c l ∙ sym g) (eqb_refl (word_of s t c)));
          },
        )

    from : t ≡ tree_of e → T (touches w h e s (stretch t (suc k) q)) → T some
    from z u =
        let y = ((touched_means w h e s (stretch t (suc k) q) a b layered off).1 u).1 in
        let c = y.cell in
        let e₁ : q * 16 ^ suc k + c % 16 ^ suc k ≡ c = ap (λ (v : ℕ). v * 16 ^ suc k + c % 16 ^ suc k) y.held ∙ div-add-mod' c (16 ^ suc k) in
        rw (any_at (16 ^ suc k) differs (c % 16 ^ suc k) (mod-lt c pos) (is_true (differs (c % 16 ^ suc k))
        (subst (λ (v : ℕ). T (not (eqb (new v (word_of s t v)) (word_of s t v)))) (sym e₁)
        (not_T (eqb (new c (word_of s t c)) (word_of s t c)) (λ g. y.differs (sym (eqb→eq (new c (word_of s t c)) (word_of s t c) g) ∙ new_word z c y.within)))))) tt
