-- The length of a list without repetitions, as a sum over all that could be on it.
use Rattle.std.proofs.Common.{◌≡◌, ℕ, suc, ◌+◌, ◌-◌, ◌^◌, ◌<◌, Bool, true, false, ◌||◌, T, eqb, List, [], ◌∷◌, length, sym, refl, ap, ◌∙◌, subst, zero-add, arith, eqb→eq}
use Rattle.std.proofs.Math.Dec.{eqb_refl}
use Rattle.std.specs.List.{list_any}
use Rattle.block.specs.Blocks.{sum_to}
use Rattle.block.proofs.Sums.{sum_same, sum_none}
use Rattle.forest.proofs.Sums.{some_part}
use Rattle.count.specs.Tally.{bit, all_stretches}
use Rattle.count.proofs.Sums.{sum_add, sum_only}
use Rattle.count.proofs.Totals.{stretches_same, stretches_none, stretches_only}
use Rattle.count.proofs.Tallies.{stretches_add}
use Rattle.rules.specs.Lists.{Once}
use Rattle.rules.specs.Cells.{depth}
use Rattle.rules.specs.Stretches.{Stretch, same_stretch, Proper}
use Rattle.rules.proofs.Tests.{or_left, or_right, is_false}
use Rattle.rules.proofs.Onces.{In}
use Rattle.rules.proofs.Touched.{stretch_self, stretch_tells}
use Rattle.history.specs.Counts.{Mark, same_mark, mark}
use Rattle.history.proofs.Marked.{mark_self, mark_tells}
use Rattle.bridge.specs.Shows.{stretch}

bit_some : (b : Bool) → 0 < bit b → T b
bit_some true h = tt
bit_some false h = absurd (omega arith)

bit_on : (b : Bool) → T b → bit b ≡ 1
bit_on true t = refl
bit_on false t = absurd t

module _ {A : Type 0} (same : A → A → Bool) (tells : (a b : A) → T (same a b) → a ≡ b) where
  -- y is the first or on the rest, not both
  pub bit_first : (x y : A) (xs : List A) → (T (list_any (same x) xs) → ⊥) → bit (list_any (same y) (x ∷ xs)) ≡ bit (same y x) + bit (list_any (same y) xs)
  bit_first x y xs o = go (same y x) refl
    where
      go : (b : Bool) → same y x ≡ b → bit (b || list_any (same y) xs) ≡ bit b + bit (list_any (same y) xs)
      go true e = ap (λ c. 1 + bit c) (sym (is_false (list_any (same y) xs) (λ t. o (subst (λ (z : A). T (list_any (same z) xs)) (tells y x (rw e tt)) t))))
      go false e = sym (zero-add (bit (list_any (same y) xs)))

-- numbers below n
pub number_length : (n : ℕ) (xs : List ℕ) → Once eqb xs → ((x : ℕ) → In eqb x xs → x < n) → length xs ≡ sum_to n (λ b. bit (list_any (eqb b) xs))
number_length n [] o r = sym (sum_none n _ (λ b l. refl))
number_length n (x ∷ xs) o r =
    let a = sum_same n (λ b. bit (list_any (eqb b) (x ∷ xs))) (λ b. bit (eqb b x) + bit (list_any (eqb b) xs)) (λ b l. bit_first eqb eqb→eq x b xs o.0) in
    let c = sum_add n (λ b. bit (eqb b x)) (λ b. bit (list_any (eqb b) xs)) in
    let d = sum_only n (λ b. bit (eqb b x)) x (r x (or_left (eqb x x) (list_any (eqb x) xs) (eqb_refl x))) (λ j z. ap bit (is_false (eqb j x) (λ t. z (eqb→eq j x t)))) in
    let e = bit_on (eqb x x) (eqb_refl x) in
    omega (arith, a, c, d, e, number_length n xs o.1 (λ y t. r y (or_right (eqb y x) (list_any (eqb y) xs) t)))

more_trees : (t : ℕ) → t < 10 → t < 16
more_trees t l = omega arith

-- a proper stretch has an order above some other
abbrev under : Stretch → ℕ
under q = q.order - 1

under_order : (q : Stretch) → Proper q → suc (under q) ≡ q.order
under_order q g = omega (arith, g.low)

under_deep : (q : Stretch) → Proper q → under q < depth q.tree
under_deep q g = omega (arith, g.low, g.high)

under_within : (q : Stretch) → Proper q → q.quotient < 16 ^ (depth q.tree - suc (under q))
under_within q g = subst (λ (k : ℕ). q.quotient < 16 ^ (depth q.tree - k)) (sym (under_order q g)) g.within

same_at : (u j r : ℕ) (x : Stretch) (g : Proper x) → T (same_stretch (stretch u (suc j) r) x) → (u ≡ x.tree) × (j ≡ under x) × (r ≡ x.quotient)
same_at u j r x g t =
    let e = stretch_tells (stretch u (suc j) r) x t in
    (ap (λ (s : Stretch). s.tree) e, (let f : suc j ≡ x.order = ap (λ (s : Stretch). s.order) e in omega (arith, f, g.low)), ap (λ (s : Stretch). s.quotient) e)

self_at : (x : Stretch) (g : Proper x) → T (same_stretch (stretch x.tree (suc (under x)) x.quotient) x)
self_at x g = subst (λ (k : ℕ). T (same_stretch (stretch x.tree k x.quotient) x)) (sym (under_order x g)) (stretch_self x)

-- stretches
pub stretch_length : (xs : List Stretch) → Once same_stretch xs → ((x : Stretch) → In same_stretch x xs → Proper x) → length xs ≡ all_stretches depth (λ t k q. bit (list_any (same_stretch (stretch t (suc k) q)) xs))
stretch_length [] o r = sym (stretches_none depth _ (λ t k q. refl))
stretch_length (x ∷ xs) o r =
    let g = r x (or_left (same_stretch x x) (list_any (same_stretch x) xs) (stretch_self x)) in
    let a = stretches_same depth (λ t k q. bit (list_any (same_stretch (stretch t (suc k) q)) (x ∷ xs))) (λ t k q. bit (same_stretch (stretch t (suc k) q) x) + bit (list_any (same_stretch (stretch t (suc k) q)) xs)) (λ t k q _ _ _. bit_first same_stretch stretch_tells x (stretch t (suc k) q) xs o.0) in
    let c = stretches_add depth (λ t k q. bit (same_stretch (stretch t (suc k) q) x)) (λ t k q. bit (list_any (same_stretch (stretch t (suc k) q)) xs)) in
    let d = stretches_only depth (λ t k q. bit (same_stretch (stretch t (suc k) q) x)) x.tree (under x) x.quotient (more_trees x.tree g.tree) (under_deep x g) (under_within x g) (λ u j s h. same_at u j s x g (bit_some (same_stretch (stretch u (suc j) s) x) h)) in
    let e = bit_on (same_stretch (stretch x.tree (suc (under x)) x.quotient) x) (self_at x g) in
    omega (arith, a, c, d, e, stretch_length xs o.1 (λ y t. r y (or_right (same_stretch y x) (list_any (same_stretch y) xs) t)))

some_bit : (n : ℕ) (f : ℕ → Bool) → 0 < sum_to n (λ b. bit (f b)) → (b : ℕ) × T (f b)
some_bit n f h = let r = some_part n (λ b. bit (f b)) h in (r.0, bit_some (f r.0) r.2)

-- marks with places below n
pub mark_length : (n : ℕ) (xs : List Mark) → Once same_mark xs → ((x : Mark) → In same_mark x xs → Proper x.stretch × (x.place < n)) → length xs ≡ all_stretches depth (λ t k q. sum_to n (λ b. bit (list_any (same_mark (mark b (stretch t (suc k) q))) xs)))
mark_length n [] o r = sym (stretches_none depth _ (λ t k q. sum_none n _ (λ b l. refl)))
mark_length n (x ∷ xs) o r =
    let z = r x (or_left (same_mark x x) (list_any (same_mark x) xs) (mark_self x)) in
    let g = z.0 in
    let st = x.stretch in
    let f : ℕ → ℕ → ℕ → ℕ → ℕ = λ t k q b. bit (same_mark (mark b (stretch t (suc k) q)) x) in
    let a = stretches_same depth (λ t k q. sum_to n (λ b. bit (list_any (same_mark (mark b (stretch t (suc k) q))) (x ∷ xs)))) (λ t k q. sum_to n (λ b. bit (same_mark (mark b (stretch t (suc k) q)) x)) + sum_to n (λ b. bit (list_any (same_mark (mark b (stretch t (suc k) q))) xs)))
    (λ t k q _ _ _. sum_same n _ _ (λ b l. bit_first same_mark mark_tells x (mark b (stretch t (suc k) q)) xs o.0) ∙ sum_add n (λ b. bit (same_mark (mark b (stretch t (suc k) q)) x)) (λ b. bit (list_any (same_mark (mark b (stretch t (suc k) q))) xs))) in
    let c = stretches_add depth (λ t k q. sum_to n (λ b. bit (same_mark (mark b (stretch t (suc k) q)) x))) (λ t k q. sum_to n (λ b. bit (list_any (same_mark (mark b (stretch t (suc k) q))) xs))) in
    let d = stretches_only depth (λ t k q. sum_to n (λ b. bit (same_mark (mark b (stretch t (suc k) q)) x))) st.tree (under st) st.quotient (more_trees st.tree g.tree) (under_deep st g) (under_within st g) (λ u j s h. let y = some_bit n (λ b. same_mark (mark b (stretch u (suc j) s)) x) h in same_at u j s st g (at_stretch (mark y.0 (stretch u (suc j) s)) y.1)) in
    let e = sum_only n (λ b. bit (same_mark (mark b (stretch st.tree (suc (under st)) st.quotient)) x)) x.place z.1 (λ j w. ap bit (is_false (same_mark (mark j (stretch st.tree (suc (under st)) st.quotient)) x) (λ t. w (ap (λ (m : Mark). m.place) (mark_tells (mark j (stretch st.tree (suc (under st)) st.quotient)) x t))))) in
    let i = bit_on (same_mark (mark x.place (stretch st.tree (suc (under st)) st.quotient)) x) (subst (λ (k : ℕ). T (same_mark (mark x.place (stretch st.tree k st.quotient)) x)) (sym (under_order st g)) (mark_self x)) in
    omega (arith, a, c, d, e, i, mark_length n xs o.1 (λ y t. r y (or_right (same_mark y x) (list_any (same_mark y) xs) t)))
  where
    at_stretch : (m : Mark) → T (same_mark m x) → T (same_stretch m.stretch x.stretch)
    at_stretch m t = subst (λ (s : Stretch). T (same_stretch m.stretch s)) (ap (λ (m : Mark). m.stretch) (mark_tells m x t)) (stretch_self m.stretch)
