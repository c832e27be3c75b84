-- What holds of every snapshot, and the snapshot that is found by its number.
use Rattle.std.proofs.Common.{◌≡◌, ℕ, Bool, true, false, cond, ◌||◌, T, eqb, List, [], ◌∷◌, ◌++◌, map, sym, refl, ap, ◌∙◌, subst, ⊎_elim, eqb→eq}
use Rattle.std.specs.List.{AllByRecursion, list_any}
use Rattle.std.proofs.Math.Dec.{eqb_refl}
use Rattle.std.proofs.lemmas.List.Folds.{list_any-append}
use Rattle.rules.specs.Lists.{Once}
use Rattle.rules.proofs.Tests.{or_left, or_right, or_either, is_false}
use Rattle.history.specs.Histories.{Snapshot, find}

pub all_mono : {A : Type 0} {P Q : A → Type 0} → ((x : A) → P x → Q x) → (xs : List A) → AllByRecursion P xs → AllByRecursion Q xs
all_mono f [] a = tt
all_mono f (x ∷ xs) a = (f x a.0, all_mono f xs a.1)

pub all_push : {A : Type 0} (P : A → Type 0) (x : A) (xs : List A) → P x → AllByRecursion P xs → AllByRecursion P (xs ++ (x ∷ []))
all_push P x [] p a = (p, tt)
all_push P x (y ∷ xs) p a = (a.0, all_push P x xs p a.1)

pub same_truth : (a b : Bool) → (T a → T b) → (T b → T a) → a ≡ b
same_truth true true f g = refl
same_truth true false f g = absurd (f tt)
same_truth false true f g = absurd (g tt)
same_truth false false f g = refl

pub eqb_sym : (a b : ℕ) → eqb a b ≡ eqb b a
eqb_sym a b = same_truth (eqb a b) (eqb b a) (λ t. rw (eqb→eq a b t) (eqb_refl b)) (λ t. rw (eqb→eq b a t) (eqb_refl a))

-- the number s is that of one of the snapshots
abbrev pub Among : ℕ → List Snapshot → Type 0
Among s ps = T (list_any (λ p. eqb p.number s) ps)

-- a number is on the list of numbers when a snapshot has it
pub among_numbers : (s : ℕ) (ps : List Snapshot) → list_any (eqb s) (map (λ p. p.number) ps) ≡ list_any (λ p. eqb p.number s) ps
among_numbers s [] = refl
among_numbers s (p ∷ ps) = ap (λ b. b || list_any (eqb s) (map (λ p. p.number) ps)) (eqb_sym s p.number) ∙ ap (λ b. eqb p.number s || b) (among_numbers s ps)

-- the snapshot found, where there is one: what holds of each holds of it, and it has the number
pub found_all : (P : Snapshot → Type 0) (other : Snapshot) (s : ℕ) (ps : List Snapshot) → AllByRecursion P ps → Among s ps → P (find other s ps)
found_all P other s [] a l = absurd l
found_all P other s (p ∷ ps) a l = go (found_all P other s ps a.1) (eqb p.number s) l
  where
    go : (Among s ps → P (find other s ps)) → (c : Bool) → T (c || list_any (λ p. eqb p.number s) ps) → P (cond c p (find other s ps))
    go ih true k = a.0
    go ih false k = ih k

pub found_number : (other : Snapshot) (s : ℕ) (ps : List Snapshot) → Among s ps → (find other s ps).number ≡ s
found_number other s [] l = absurd l
found_number other s (p ∷ ps) l = go (found_number other s ps) (eqb p.number s) refl l
  where
    go : (Among s ps → (find other s ps).number ≡ s) → (c : Bool) → eqb p.number s ≡ c → T (c || list_any (λ p. eqb p.number s) ps) → (cond c p (find other s ps)).number ≡ s
    go ih true e k = eqb→eq p.number s (rw e tt)
    go ih false e k = ih k

-- where there may be none
pub found_or : (P : Snapshot → Type 0) (other : Snapshot) (s : ℕ) (ps : List Snapshot) → P other → AllByRecursion P ps → P (find other s ps)
found_or P other s [] o a = o
found_or P other s (p ∷ ps) o a = go (found_or P other s ps o a.1) (eqb p.number s)
  where
    go : P (find other s ps) → (c : Bool) → P (cond c p (find other s ps))
    go ih true = a.0
    go ih false = ih

-- with one snapshot more on the list
pub find_still : (other new : Snapshot) (q : ℕ) (ps : List Snapshot) → Among q ps → find other q (ps ++ (new ∷ [])) ≡ find other q ps
find_still other new q [] t = absurd t
find_still other new q (p ∷ ps) t = go (find_still other new q ps) (eqb p.number q) t
  where
    go : (Among q ps → find other q (ps ++ (new ∷ [])) ≡ find other q ps) → (b : Bool) → T (b || list_any (λ p. eqb p.number q) ps) → cond b p (find other q (ps ++ (new ∷ []))) ≡ cond b p (find other q ps)
    go ih true u = refl
    go ih false u = ih u

pub find_else : (other new : Snapshot) (q : ℕ) (ps : List Snapshot) → eqb new.number q ≡ false → find other q (ps ++ (new ∷ [])) ≡ find other q ps
find_else other new q [] e = ap (λ c. cond c new other) e
find_else other new q (p ∷ ps) e = ap (cond (eqb p.number q) p) (find_else other new q ps e)

pub find_new : (other new : Snapshot) (q : ℕ) (ps : List Snapshot) → list_any (λ p. eqb p.number q) ps ≡ false → eqb new.number q ≡ true → find other q (ps ++ (new ∷ [])) ≡ new
find_new other new q [] a e = ap (λ c. cond c new other) e
find_new other new q (p ∷ ps) a e = go (find_new other new q ps) (eqb p.number q) a
  where
    go : (list_any (λ p. eqb p.number q) ps ≡ false → eqb new.number q ≡ true → find other q (ps ++ (new ∷ [])) ≡ new) → (b : Bool) → (b || list_any (λ p. eqb p.number q) ps) ≡ false → cond b p (find other q (ps ++ (new ∷ []))) ≡ new
    go ih true f = absurd (subst T f tt)
    go ih false f = ih f e

pub once_push : (new : Snapshot) (ps : List Snapshot) → Once eqb (map (λ p. p.number) ps) → list_any (λ q. eqb q.number new.number) ps ≡ false → Once eqb (map (λ p. p.number) (ps ++ (new ∷ [])))
once_push new [] o a = ((λ t. t), tt)
once_push new (p ∷ ps) o a = (
  (λ t. ⊎_elim
      (λ u. o.0 (subst T (sym (among_numbers p.number ps)) u))
      (λ u. ⊎_elim
      (λ v. subst T a (or_left (eqb p.number new.number) (list_any (λ q. eqb q.number new.number) ps) (subst (λ (z : ℕ). T (eqb p.number z)) (sym (eqb→eq new.number p.number v)) (eqb_refl p.number))))
      (λ v. v)
      (or_either (eqb new.number p.number) false u))
      (or_either (list_any (λ q. eqb q.number p.number) ps) (list_any (λ q. eqb q.number p.number) (new ∷ []))
      (subst T (list_any-append (λ q. eqb q.number p.number) ps (new ∷ [])) (subst T (among_numbers p.number (ps ++ (new ∷ []))) t)))),
  once_push new ps o.1 (is_false (list_any (λ q. eqb q.number new.number) ps) (λ t. subst T a (or_right (eqb p.number new.number) (list_any (λ q. eqb q.number new.number) ps) t))),
)
