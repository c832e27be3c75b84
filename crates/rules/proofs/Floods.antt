-- The rounds of a fill find what is reached by steps, and nothing else.
use Rattle.std.proofs.Common.{◌≡◌, ℕ, zero, suc, ◌+◌, ◌*◌, ◌<◌, Bool, ◌&&◌, ◌||◌, T, eqb, ltb, ◌⊎◌, List, [], ◌∷◌, length, sym, ap, ◌∙◌, subst, subst₂, inl, inr, ⊎_elim, arith, eqb→eq, ltb→lt}
use Rattle.std.proofs.lemmas.Bool.Decides.{eqb_tells}
use Rattle.std.proofs.Math.Dec.{eqb_refl}
use Rattle.std.specs.List.{filter}
use Rattle.std.proofs.Math.Facts.{yes_and}
use Rattle.rules.specs.Lists.{apart}
use Rattle.rules.specs.Lines.{Point, on_sheet}
use Rattle.rules.specs.Reach.{Reach, here, right, left, up, down, listed, beside, points_on, next_round, rounds, reached}
use Rattle.rules.specs.DrawLaws.{RoundsReach}
use Rattle.rules.proofs.Tests.{and_left, and_right, or_left, or_right, or_either}
use Rattle.rules.proofs.Members.{on_points, length_points, kept_listed, listed_kept, length_filter_le, kept_more}

-- (a, b) and (x, y) are one step apart
abbrev Next : ℕ → ℕ → ℕ → ℕ → Type 0
Next a b x y = apart a x + apart b y ≡ 1

beside_from : (ps : List Point) (x y : ℕ) → T (beside ps x y) → (a : ℕ) × (b : ℕ) × T (listed ps a b) × Next a b x y
beside_from [] x y t = absurd t
beside_from (p ∷ ps) x y t =
    ⊎_elim
    (λ u. (p.0, p.1, or_left (eqb p.0 p.0 && eqb p.1 p.1) (listed ps p.0 p.1) (yes_and (eqb p.0 p.0) (eqb p.1 p.1) (eqb_refl p.0) (eqb_refl p.1)), eqb→eq (apart p.0 x + apart p.1 y) 1 u))
    (λ u. let r = beside_from ps x y u in (r.0, r.1, or_right (eqb p.0 r.0 && eqb p.1 r.1) (listed ps r.0 r.1) r.2, r.3))
    (or_either (eqb (apart p.0 x + apart p.1 y) 1) (beside ps x y) t)

to_beside : (ps : List Point) (a b x y : ℕ) → T (listed ps a b) → Next a b x y → T (beside ps x y)
to_beside [] a b x y t n = t
to_beside (p ∷ ps) a b x y t n =
    ⊎_elim
    (λ u. or_left (eqb (apart p.0 x + apart p.1 y) 1) (beside ps x y)
    (let e : apart p.0 x + apart p.1 y ≡ 1
    = let k = eqb→eq p.0 a (and_left (eqb p.0 a) (eqb p.1 b) u) in let l = eqb→eq p.1 b (and_right (eqb p.0 a) (eqb p.1 b) u) in
    ap (λ m. apart m x + apart p.1 y) k ∙ ap (λ m. apart a x + apart m y) l ∙ n
    in rw e tt))
    (λ u. or_right (eqb (apart p.0 x + apart p.1 y) 1) (beside ps x y) (to_beside ps a b x y u n))
    (or_either (eqb p.0 a && eqb p.1 b) (listed ps a b) t)

module _ (w h : ℕ) (through : ℕ → ℕ → Bool) (p : Point) (inside : (x y : ℕ) → T (through x y) → T (on_sheet w h (x, y))) where
  R : ℕ → ℕ → Type 0
  R x y = Reach through p.0 p.1 x y

  -- a step to a dot beside
  further : (a b x y : ℕ) → R a b → Next a b x y → T (through x y) → R x y
  unfolding R
  further a b x y r n t =
      ⊎_elim
      (λ e. let k = e.1 in let l : b ≡ y = omega arith in
      subst (λ (m : ℕ). Reach through p.0 p.1 m y) k (right (subst (λ (m : ℕ). Reach through p.0 p.1 a m) l r) (subst (λ (m : ℕ). T (through m y)) (sym k) t)))
      (λ ne. ⊎_elim
      (λ e. let k = e.1 in let l : b ≡ y = omega arith in
      left (subst₂ (λ (m n : ℕ). Reach through p.0 p.1 m n) k l r) t)
      (λ nf. ⊎_elim
      (λ e. let k = e.1 in let l : a ≡ x = omega arith in
      subst (λ (m : ℕ). Reach through p.0 p.1 x m) k (down (subst (λ (m : ℕ). Reach through p.0 p.1 m b) l r) (subst (λ (m : ℕ). T (through x m)) (sym k) t)))
      (λ ng. let na = ne.1 in let nb = nf.1 in let nc = ng.1 in
      let k : b ≡ suc y = omega arith in let l : a ≡ x = omega arith in
      up (subst₂ (λ (m n : ℕ). Reach through p.0 p.1 m n) l k r) t)
      (eqb_tells (suc b) y))
      (eqb_tells a (suc x)))
      (eqb_tells (suc a) x)

  -- what a round lists is reached
  sound : (n x y : ℕ) → T (listed (rounds w h through p n) x y) → R x y
  unfolding R
  sound zero x y t =
      let k = (kept_listed (λ q. eqb q.0 p.0 && eqb q.1 p.1 && through q.0 q.1) (points_on w h) x y t).1 in
      let k₁ = and_left (eqb x p.0 && eqb y p.1) (through x y) k in
      let k₂ = and_right (eqb x p.0 && eqb y p.1) (through x y) k in
      let a = eqb→eq x p.0 (and_left (eqb x p.0) (eqb y p.1) k₁) in
      let b = eqb→eq y p.1 (and_right (eqb x p.0) (eqb y p.1) k₁) in
      subst₂ (λ (m n : ℕ). Reach through p.0 p.1 m n) (sym a) (sym b) (here (subst₂ (λ (m n : ℕ). T (through m n)) a b k₂))
  sound (suc n) x y t =
      let old = rounds w h through p n in
      let k = (kept_listed (λ q. listed old q.0 q.1 || (through q.0 q.1 && beside old q.0 q.1)) (points_on w h) x y t).1 in
      ⊎_elim
      (λ u. sound n x y u)
      (λ u. let r = beside_from old x y (and_right (through x y) (beside old x y) u) in
      further r.0 r.1 x y (sound n r.0 r.1 r.2) r.3 (and_left (through x y) (beside old x y) u))
      (or_either (listed old x y) (through x y && beside old x y) k)

  -- a further round finds nothing more
  Stable : ℕ → Type 0
  Stable n = rounds w h through p (suc n) ≡ rounds w h through p n

  among : (x y : ℕ) → T (through x y) → T (listed (points_on w h) x y)
  among x y t =
      let k = inside x y t in
      on_points w h x y (ltb→lt x w (and_left (ltb x w) (ltb y h) k)) (ltb→lt y h (and_right (ltb x w) (ltb y h) k))

  -- what the old round kept, the next one keeps, or it is longer
  grows : (f : Point → Bool) → (let old = filter f (points_on w h) in (next_round w h through old ≡ old) ⊎ (length old < length (next_round w h through old)))
  grows f =
      let old = filter f (points_on w h) in
      kept_more f (λ q. listed old q.0 q.1 || (through q.0 q.1 && beside old q.0 q.1)) (points_on w h)
      (λ x y t u. or_left (listed old x y) (through x y && beside old x y) (listed_kept f (points_on w h) x y t u))

  grows_at : (n : ℕ) → Stable n ⊎ (length (rounds w h through p n) < length (rounds w h through p (suc n)))
  unfolding Stable
  grows_at zero = grows (λ q. eqb q.0 p.0 && eqb q.1 p.1 && through q.0 q.1)
  grows_at (suc n) = grows (λ q. listed (rounds w h through p n) q.0 q.1 || (through q.0 q.1 && beside (rounds w h through p n) q.0 q.1))

  long : (n : ℕ) → Stable n ⊎ (n < length (rounds w h through p (suc n)))
  unfolding Stable
  long zero = ⊎_elim (λ e. inl e) (λ l. inr (omega arith)) (grows_at zero)
  long (suc n) =
      ⊎_elim
      (λ e. inl (ap (next_round w h through) e))
      (λ l. ⊎_elim (λ e. inl e) (λ m. inr (omega arith)) (grows_at (suc n)))
      (long n)

  stable : Stable (w * h)
  stable =
      ⊎_elim
      (λ e. e)
      (λ l. absurd (let m = length_filter_le (λ q. listed (rounds w h through p (w * h)) q.0 q.1 || (through q.0 q.1 && beside (rounds w h through p (w * h)) q.0 q.1)) (points_on w h) in
      omega (arith, length_points w h)))
      (long (w * h))

  -- the start is found in every round
  begun : (n : ℕ) → T (through p.0 p.1) → T (listed (rounds w h through p n) p.0 p.1)
  begun zero t =
      listed_kept (λ q. eqb q.0 p.0 && eqb q.1 p.1 && through q.0 q.1) (points_on w h) p.0 p.1 (among p.0 p.1 t)
      (yes_and (eqb p.0 p.0 && eqb p.1 p.1) (through p.0 p.1) (yes_and (eqb p.0 p.0) (eqb p.1 p.1) (eqb_refl p.0) (eqb_refl p.1)) t)
  begun (suc n) t =
      let old = rounds w h through p n in
      listed_kept (λ q. listed old q.0 q.1 || (through q.0 q.1 && beside old q.0 q.1)) (points_on w h) p.0 p.1 (among p.0 p.1 t)
      (or_left (listed old p.0 p.1) (through p.0 p.1 && beside old p.0 p.1) (begun n t))

  -- what is beside a dot that was found is found
  closed : (a b x y : ℕ) → T (listed (reached w h through p) a b) → Next a b x y → T (through x y) → T (listed (reached w h through p) x y)
  unfolding Stable
  closed a b x y l n t =
      let old = rounds w h through p (w * h) in
      subst (λ (ps : List Point). T (listed ps x y)) stable
      (listed_kept (λ q. listed old q.0 q.1 || (through q.0 q.1 && beside old q.0 q.1)) (points_on w h) x y (among x y t)
      (or_right (listed old x y) (through x y && beside old x y) (yes_and (through x y) (beside old x y) t (to_beside old a b x y l n))))

  complete : {x y : ℕ} → Reach through p.0 p.1 x y → T (listed (reached w h through p) x y)
  complete (here t) = begun (w * h) t
  complete (right {x} {y} r t) = closed x y (suc x) y (complete r) (omega arith) t
  complete (left {x} {y} r t) = closed (suc x) y x y (complete r) (omega arith) t
  complete (down {x} {y} r t) = closed x y x (suc y) (complete r) (omega arith) t
  complete (up {x} {y} r t) = closed x (suc y) x y (complete r) (omega arith) t

  both_ways : (x y : ℕ) → (Reach through p.0 p.1 x y → T (listed (reached w h through p) x y)) × (T (listed (reached w h through p) x y) → Reach through p.0 p.1 x y)
  unfolding R
  both_ways x y = ((λ r. complete r), sound (w * h) x y)

pub rounds_reach : RoundsReach
rounds_reach w h through p inside x y = both_ways w h through p inside x y
