-- Lists without repetitions: how long they are goes by what is on them.
use Rattle.std.proofs.Common.{◌≡◌, suc, ◌≤◌, Bool, true, false, cond, ◌||◌, T, ◌⊎◌, List, [], ◌∷◌, ◌++◌, length, sym, refl, ap, ◌∙◌, subst, ⊎_elim, le_antisymm, arith}
use Rattle.std.specs.List.{filter, list_any}
use Rattle.std.proofs.lemmas.List.Folds.{list_any-append}
use Rattle.rules.specs.Lists.{distinct, Once}
use Rattle.rules.proofs.Tests.{or_left, or_right, or_either}

module _ {A : Type 0} (same : A → A → Bool) where
  -- x is on the list
  abbrev pub In : A → List A → Type 0
  In x xs = T (list_any (same x) xs)

  pub in_left : (x : A) (xs ys : List A) → In x xs → In x (xs ++ ys)
  in_left x xs ys t = rw list_any-append (or_left (list_any (same x) xs) (list_any (same x) ys) t)

  pub in_right : (x : A) (xs ys : List A) → In x ys → In x (xs ++ ys)
  in_right x xs ys t = rw list_any-append (or_right (list_any (same x) xs) (list_any (same x) ys) t)

  pub in_either : (x : A) (xs ys : List A) → In x (xs ++ ys) → In x xs ⊎ In x ys
  in_either x xs ys t = or_either (list_any (same x) xs) (list_any (same x) ys) (rw list_any-append at t)

  module _ (self : (a : A) → T (same a a)) (tells : (a b : A) → T (same a b) → a ≡ b) where
    pub from_distinct : (x : A) (xs : List A) → In x (distinct same xs) → In x xs
    from_distinct x [] t = t
    from_distinct x (y ∷ xs) t = go (λ u. from_distinct x xs u) (list_any (same y) xs) t
      where
        go : (In x (distinct same xs) → In x xs) → (b : Bool) → In x (cond b (distinct same xs) (y ∷ distinct same xs)) → T (same x y || list_any (same x) xs)
        go ih true u = or_right (same x y) (list_any (same x) xs) (ih u)
        go ih false u =
            ⊎_elim
            (λ v. or_left (same x y) (list_any (same x) xs) v)
            (λ v. or_right (same x y) (list_any (same x) xs) (ih v))
            (or_either (same x y) (list_any (same x) (distinct same xs)) u)

    pub to_distinct : (x : A) (xs : List A) → In x xs → In x (distinct same xs)
    to_distinct x [] t = t
    to_distinct x (y ∷ xs) t = go (λ u. to_distinct x xs u) (list_any (same y) xs) refl
      where
        go : (In x xs → In x (distinct same xs)) → (b : Bool) → list_any (same y) xs ≡ b → In x (cond b (distinct same xs) (y ∷ distinct same xs))
        go ih true e =
            ⊎_elim
            (λ v. ih (subst (λ (z : A). In z xs) (sym (tells x y v)) (rw e tt)))
            ih
            (or_either (same x y) (list_any (same x) xs) t)
        go ih false e =
            ⊎_elim
            (λ v. or_left (same x y) (list_any (same x) (distinct same xs)) v)
            (λ v. or_right (same x y) (list_any (same x) (distinct same xs)) (ih v))
            (or_either (same x y) (list_any (same x) xs) t)

    pub distinct_once : (xs : List A) → Once same (distinct same xs)
    distinct_once [] = tt
    distinct_once (y ∷ xs) = go (distinct_once xs) (list_any (same y) xs) refl
      where
        go : Once same (distinct same xs) → (b : Bool) → list_any (same y) xs ≡ b → Once same (cond b (distinct same xs) (y ∷ distinct same xs))
        go ih true e = ih
        go ih false e = ((λ u. subst T e (from_distinct y xs u)), ih)

    -- the list without the first x
    without : A → List A → List A
    without x [] = []
    without x (y ∷ ys) = cond (same x y) ys (y ∷ without x ys)

    without_length : (x : A) (ys : List A) → In x ys → suc (length (without x ys)) ≡ length ys
    unfolding without
    without_length x [] t = absurd t
    without_length x (y ∷ ys) t = go (λ u. without_length x ys u) (same x y) t
      where
        go : (In x ys → suc (length (without x ys)) ≡ length ys) → (b : Bool) → T (b || list_any (same x) ys) → suc (length (cond b ys (y ∷ without x ys))) ≡ suc (length ys)
        go ih true u = refl
        go ih false u = ap suc (ih u)

    without_in : (x z : A) (ys : List A) → (z ≡ x → ⊥) → In z ys → In z (without x ys)
    unfolding without
    without_in x z [] ne t = t
    without_in x z (y ∷ ys) ne t = go (λ u. without_in x z ys ne u) (same x y) refl
      where
        go : (In z ys → In z (without x ys)) → (b : Bool) → same x y ≡ b → In z (cond b ys (y ∷ without x ys))
        go ih true e =
            ⊎_elim
            (λ v. absurd (ne (tells z y v ∙ sym (tells x y (rw e tt)))))
            (λ v. v)
            (or_either (same z y) (list_any (same z) ys) t)
        go ih false e =
            ⊎_elim
            (λ v. or_left (same z y) (list_any (same z) (without x ys)) v)
            (λ v. or_right (same z y) (list_any (same z) (without x ys)) (ih v))
            (or_either (same z y) (list_any (same z) ys) t)

    -- a list without repetitions is no longer than one that holds all of it
    pub fits : (xs ys : List A) → Once same xs → ((z : A) → In z xs → In z ys) → length xs ≤ length ys
    fits [] ys o i = omega arith
    fits (x ∷ xs) ys o i =
        let e = without_length x ys (i x (or_left (same x x) (list_any (same x) xs) (self x))) in
        let l = fits xs (without x ys) o.1
        (λ z t. without_in x z ys (λ q. o.0 (subst (λ (a : A). In a xs) q t)) (i z (or_right (same z x) (list_any (same z) xs) t))) in
        omega arith

    -- two that hold the same are equally long
    pub as_long : (xs ys : List A) → Once same xs → Once same ys → ((z : A) → In z xs → In z ys) → ((z : A) → In z ys → In z xs) → length xs ≡ length ys
    as_long xs ys o p i j = le_antisymm (fits xs ys o i) (fits ys xs p j)

    pub once_append : (xs ys : List A) → Once same xs → Once same ys → ((z : A) → In z xs → In z ys → ⊥) → Once same (xs ++ ys)
    once_append [] ys o p n = p
    once_append (x ∷ xs) ys o p n = (
      (λ t. ⊎_elim (λ u. o.0 u) (λ u. n x (or_left (same x x) (list_any (same x) xs) (self x)) u) (in_either x xs ys t)),
      once_append xs ys o.1 p (λ z t u. n z (or_right (same z x) (list_any (same z) xs) t) u),
    )

    pub from_filter : (f : A → Bool) (x : A) (xs : List A) → In x (filter f xs) → In x xs × T (f x)
    from_filter f x [] t = absurd t
    from_filter f x (y ∷ xs) t = go (λ u. from_filter f x xs u) (f y) refl t
      where
        IH : Type 0
        IH = In x (filter f xs) → In x xs × T (f x)

        go : IH → (b : Bool) → f y ≡ b → In x (cond b (y ∷ filter f xs) (filter f xs)) → T (same x y || list_any (same x) xs) × T (f x)
        go ih true e u =
            ⊎_elim
            (λ v. (or_left (same x y) (list_any (same x) xs) v, subst (λ (z : A). T (f z)) (sym (tells x y v)) (rw e tt)))
            (λ v. (or_right (same x y) (list_any (same x) xs) (ih v).0, (ih v).1))
            (or_either (same x y) (list_any (same x) (filter f xs)) u)
        go ih false e u = (or_right (same x y) (list_any (same x) xs) (ih u).0, (ih u).1)

    pub to_filter : (f : A → Bool) (x : A) (xs : List A) → In x xs → T (f x) → In x (filter f xs)
    to_filter f x [] t u = t
    to_filter f x (y ∷ xs) t u = go (λ v. to_filter f x xs v u) (f y) refl
      where
        go : (In x xs → In x (filter f xs)) → (b : Bool) → f y ≡ b → In x (cond b (y ∷ filter f xs) (filter f xs))
        go ih true e =
            ⊎_elim
            (λ v. or_left (same x y) (list_any (same x) (filter f xs)) v)
            (λ v. or_right (same x y) (list_any (same x) (filter f xs)) (ih v))
            (or_either (same x y) (list_any (same x) xs) t)
        go ih false e =
            ⊎_elim
            (λ v. absurd (subst T (ap f (tells x y v) ∙ e) u))
            ih
            (or_either (same x y) (list_any (same x) xs) t)
