-- What is on a list.
use Rattle.std.proofs.Common.{◌≡◌, ℕ, zero, suc, ◌+◌, ◌*◌, ◌<◌, ◌≤◌, Bool, true, false, cond, ◌&&◌, ◌||◌, T, eqb, ◌⊎◌, List, [], ◌∷◌, map, length, sym, refl, ap, ◌∙◌, subst, ap₂, inl, inr, ⊎_elim, add-zero, suc-mul, mul_comm, add_comm, zero-mul, arith, eqb→eq, length-append}
use Rattle.std.proofs.Math.Path.{fun_ext}
use Rattle.std.proofs.lemmas.Bool.Decides.{eqb_tells}
use Rattle.std.proofs.Math.Dec.{eqb_refl}
use Rattle.std.proofs.Math.ListN.{length-map}
use Rattle.std.specs.List.{filter, flat_map, list_any, range_with_len}
use Rattle.std.proofs.Math.Facts.{yes_and}
use Rattle.std.proofs.lemmas.List.Folds.{list_any-append}
use Rattle.std.proofs.lemmas.List.Sums.{length-filter, count_by-le-length}
use Rattle.std.proofs.lemmas.List.FromFn.{length-range_with_len}
use Rattle.rules.specs.Lists.{below}
use Rattle.rules.specs.Lines.{Point}
use Rattle.rules.specs.Reach.{listed, points_on}
use Rattle.rules.proofs.Tests.{and_left, and_right, or_left, or_right, or_either}

module _ {A : Type 0} where
  pub list_any_flat_map : {B : Type 0} (f : A → Bool) (g : B → List A) (xs : List B) → list_any f (flat_map g xs) ≡ list_any (λ b. list_any f (g b)) xs
  list_any_flat_map f g [] = refl
  list_any_flat_map f g (x ∷ xs) = list_any-append f (g x) (flat_map g xs) ∙ ap (λ r. list_any f (g x) || r) (list_any_flat_map f g xs)

  pub list_any_map : {B : Type 0} (f : A → Bool) (g : B → A) (xs : List B) → list_any f (map g xs) ≡ list_any (λ b. f (g b)) xs
  list_any_map f g [] = refl
  list_any_map f g (x ∷ xs) = ap (λ r. f (g x) || r) (list_any_map f g xs)

same_point : (p : Point) (x y : ℕ) → T (eqb p.0 x && eqb p.1 y) → p ≡ (x, y)
same_point p x y t i = (eqb→eq p.0 x (and_left (eqb p.0 x) (eqb p.1 y) t) i, eqb→eq p.1 y (and_right (eqb p.0 x) (eqb p.1 y) t) i)

pub in_row : (f : ℕ → Bool) (a n x : ℕ) → a ≤ x → x < a + n → T (f x) → T (list_any f (range_with_len a n))
in_row f a zero x p q t = absurd (let h : x < a = rw add-zero at q in omega arith)
in_row f a (suc n) x p q t =
    ⊎_elim
    (λ e. or_left (f a) (list_any f (range_with_len (a + 1) n)) (rw e.1 t))
    (λ e. or_right (f a) (list_any f (range_with_len (a + 1) n)) (in_row f (a + 1) n x (let ne = e.1 in omega arith) (omega arith) t))
    (eqb_tells a x)

-- every point of the sheet is among its points
pub on_points : (w h x y : ℕ) → x < w → y < h → T (listed (points_on w h) x y)
on_points w h x y p q =
    let f : ℕ → Bool = λ b. list_any (λ a. eqb a x && eqb b y) (below w) in
    let e : list_any f (below h) ≡ listed (points_on w h) x y
    = ap (λ (g : ℕ → Bool). list_any g (below h)) (fun_ext (λ b. sym (list_any_map (λ (p : Point). eqb p.0 x && eqb p.1 y) (λ a. (a, b)) (below w))))
    ∙ sym (list_any_flat_map (λ (p : Point). eqb p.0 x && eqb p.1 y) (λ b. map (λ a. (a, b)) (below w)) (below h))
    in
    subst T e (in_row f 0 h y (omega arith) (omega arith)
    (in_row (λ a. eqb a x && eqb y y) 0 w x (omega arith) (omega arith) (yes_and (eqb x x) (eqb y y) (eqb_refl x) (eqb_refl y))))

-- how many they are
pub length_flat_map_same : {A B : Type 0} (f : A → List B) (n : ℕ) → ((a : A) → length (f a) ≡ n) → (xs : List A) → length (flat_map f xs) ≡ length xs * n
length_flat_map_same f n e [] = sym (zero-mul n)
length_flat_map_same f n e (x ∷ xs) =
    length-append (f x) (flat_map f xs) ∙ ap₂ ◌+◌ (e x) (length_flat_map_same f n e xs) ∙ add_comm n (length xs * n) ∙ sym (suc-mul (length xs) n)

pub length_points : (w h : ℕ) → length (points_on w h) ≡ w * h
length_points w h =
    length_flat_map_same (λ y. map (λ x. (x, y)) (below w)) w (λ y. length-map (below w) (λ x. (x, y)) ∙ length-range_with_len 0 w) (below h)
    ∙ ap (λ n. n * w) (length-range_with_len 0 h) ∙ mul_comm h w

-- a point that is on a list
module _ (f : Point → Bool) where
  pub kept_listed : (ps : List Point) (x y : ℕ) → T (listed (filter f ps) x y) → T (listed ps x y) × T (f (x, y))
  kept_listed [] x y t = absurd t
  kept_listed (p ∷ ps) x y t = go (λ u. kept_listed ps x y u) (f p) refl t
    where
      at_p : Bool
      at_p = eqb p.0 x && eqb p.1 y

      IH : Type 0
      IH = T (listed (filter f ps) x y) → T (listed ps x y) × T (f (x, y))

      on : IH → T (listed (filter f ps) x y) → T (at_p || listed ps x y) × T (f (x, y))
      on ih u = (or_right at_p (listed ps x y) (ih u).0, (ih u).1)

      go : IH → (b : Bool) → f p ≡ b → T (listed (cond b (p ∷ filter f ps) (filter f ps)) x y) → T (at_p || listed ps x y) × T (f (x, y))
      go ih true e u =
          ⊎_elim
          (λ v. (or_left at_p (listed ps x y) v, subst (λ (q : Point). T (f q)) (same_point p x y v) (rw e tt)))
          (on ih)
          (or_either at_p (listed (filter f ps) x y) u)
      go ih false e u = on ih u

  pub listed_kept : (ps : List Point) (x y : ℕ) → T (listed ps x y) → T (f (x, y)) → T (listed (filter f ps) x y)
  listed_kept [] x y t u = t
  listed_kept (p ∷ ps) x y t u = go (λ v. listed_kept ps x y v u) (f p) refl
    where
      at_p : Bool
      at_p = eqb p.0 x && eqb p.1 y

      go : (T (listed ps x y) → T (listed (filter f ps) x y)) → (b : Bool) → f p ≡ b → T (listed (cond b (p ∷ filter f ps) (filter f ps)) x y)
      go ih true e =
          ⊎_elim
          (λ v. or_left at_p (listed (filter f ps) x y) v)
          (λ v. or_right at_p (listed (filter f ps) x y) (ih v))
          (or_either at_p (listed ps x y) t)
      go ih false e =
          ⊎_elim
          (λ v. absurd (subst T (sym (ap f (same_point p x y v)) ∙ e) u))
          ih
          (or_either at_p (listed ps x y) t)

-- what passes a test is no longer than the list
pub length_filter_le : {A : Type 0} (f : A → Bool) (xs : List A) → length (filter f xs) ≤ length xs
length_filter_le f xs = rw (length-filter f xs) (count_by-le-length f xs)

-- a test that lets more through keeps the same, or a longer list
pub kept_more : (f g : Point → Bool) (ps : List Point) → ((x y : ℕ) → T (listed ps x y) → T (f (x, y)) → T (g (x, y)))
    → (filter g ps ≡ filter f ps) ⊎ (length (filter f ps) < length (filter g ps))
kept_more f g [] k = inl refl
kept_more f g (p ∷ ps) k = go (f p) (g p) refl refl (kept_more f g ps (λ x y t. k x y (or_right (eqb p.0 x && eqb p.1 y) (listed ps x y) t)))
  where
    at_p : Bool → Bool → Type 0
    at_p a b = (cond b (p ∷ filter g ps) (filter g ps) ≡ cond a (p ∷ filter f ps) (filter f ps)) ⊎ (length (cond a (p ∷ filter f ps) (filter f ps)) < length (cond b (p ∷ filter g ps) (filter g ps)))

    go : (a b : Bool) → f p ≡ a → g p ≡ b → (filter g ps ≡ filter f ps) ⊎ (length (filter f ps) < length (filter g ps)) → at_p a b
    go true true e d i = ⊎_elim (λ q. inl (ap {B = List Point} (λ r. p ∷ r) q)) (λ q. inr (omega arith)) i
    go true false e d i =
        absurd (subst T d (k p.0 p.1 (or_left (eqb p.0 p.0 && eqb p.1 p.1) (listed ps p.0 p.1) (yes_and (eqb p.0 p.0) (eqb p.1 p.1) (eqb_refl p.0) (eqb_refl p.1))) (rw e tt)))
    go false true e d i = inr (⊎_elim (λ q. let z = ap length q in omega arith) (λ q. omega arith) i)
    go false false e d i = i

-- what passes a test somewhere
pub some_of : {A : Type 0} (f : A → Bool) (xs : List A) (same : A → A → Bool) (self : (a : A) → T (same a a)) → T (list_any f xs) → (x : A) × T (list_any (same x) xs) × T (f x)
some_of f [] same self t = absurd t
some_of f (x ∷ xs) same self t =
    ⊎_elim
    (λ u. (x, or_left (same x x) (list_any (same x) xs) (self x), u))
    (λ u. let r = some_of f xs same self u in (r.0, or_right (same r.0 x) (list_any (same r.0) xs) r.1, r.2))
    (or_either (f x) (list_any f xs) t)

-- what is on a list passes a test, so some of it does
pub of_some : {A : Type 0} (f : A → Bool) (x : A) (xs : List A) (same : A → A → Bool) (tells : (a b : A) → T (same a b) → a ≡ b) → T (list_any (same x) xs) → T (f x) → T (list_any f xs)
of_some f x [] same tells t u = t
of_some f x (y ∷ xs) same tells t u =
    ⊎_elim
    (λ v. or_left (f y) (list_any f xs) (subst (λ z. T (f z)) (tells x y v) u))
    (λ v. or_right (f y) (list_any f xs) (of_some f x xs same tells v u))
    (or_either (same x y) (list_any (same x) xs) t)

-- what is in a row of numbers
pub in_bounds : (i a n : ℕ) → T (list_any (eqb i) (range_with_len a n)) → (a ≤ i) × (i < a + n)
in_bounds i a zero t = absurd t
in_bounds i a (suc n) t =
    ⊎_elim
    (λ u. let e = eqb→eq i a u in omega arith)
    (λ u. let r = in_bounds i (a + 1) n u in let p = r.0 in let q = r.1 in omega arith)
    (or_either (eqb i a) (list_any (eqb i) (range_with_len (a + 1) n)) t)

pub some_in_row : (f : ℕ → Bool) (n : ℕ) → T (list_any f (below n)) → (x : ℕ) × (x < n) × T (f x)
some_in_row f n t = let r = some_of f (below n) eqb eqb_refl t in (r.0, (let b = in_bounds r.0 0 n r.1 in let c = b.1 in omega arith), r.2)
