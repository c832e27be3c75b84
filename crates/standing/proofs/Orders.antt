-- Of snapshots that stand in the order of their making the one made latest is the last.
use Rattle.std.proofs.Common.{◌≡◌, ℕ, ◌<◌, Bool, true, false, cond, eqb, List, [], ◌∷◌, Some, None, sym, refl, ap, ◌∙◌, lt-ltb, Option}
use Rattle.std.specs.List.{AllByRecursion, filter}
use Rattle.std.specs.Option.{option_or}
use Rattle.history.specs.Histories.{Snapshot, last_place, stands_under, latest_from}
use Rattle.table.specs.Tables.{parent_at, is_number}
use Rattle.table.specs.declared.records.Snapshot as table
use Rattle.standing.specs.Standing.{Ordered}

-- the last of p and some others
abbrev last_from : Snapshot → List Snapshot → Snapshot
last_from p [] = p
last_from p (q ∷ qs) = last_from q qs

last_is_latest : (p : Snapshot) (ps : List Snapshot) → Ordered (p ∷ ps) → latest_from p ps ≡ last_from p ps
last_is_latest p [] o = refl
last_is_latest p (q ∷ qs) o =
    ap (λ b. latest_from (cond b q p) qs) (lt-ltb (last_place p.line) (last_place q.line) o.0.0) ∙ last_is_latest q qs o.1

all_filter : {A : Type 0} (P : A → Type 0) (f : A → Bool) (xs : List A) → AllByRecursion P xs → AllByRecursion P (filter f xs)
all_filter P f [] a = tt
all_filter {A} P f (x ∷ xs) a = go (f x) (all_filter P f xs a.1)
  where
    go : (b : Bool) → AllByRecursion P (filter f xs) → AllByRecursion P (cond b (x ∷ filter f xs) (filter f xs))
    go true r = (a.0, r)
    go false r = r

pub filter_ordered : (f : Snapshot → Bool) (ps : List Snapshot) → Ordered ps → Ordered (filter f ps)
filter_ordered f [] o = tt
filter_ordered f (p ∷ ps) o = go (f p) (filter_ordered f ps o.1)
  where
    go : (b : Bool) → Ordered (filter f ps) → Ordered (cond b (p ∷ filter f ps) (filter f ps))
    go true r = (all_filter (λ q. last_place p.line < last_place q.line) f ps o.0, r)
    go false r = r

-- whether a snapshot of the table stands under s
same_parent : (s : ℕ) (o : Option ℕ) → is_number s o ≡ elim o [ None ↦ false | Some r ↦ eqb r s ]
same_parent s None = refl
same_parent s (Some r) = refl

abbrev pub Agrees : List (Option table.Snapshot) → Snapshot → Type 0
Agrees ss p = parent_at ss p.number ≡ p.parent

pub same_under : (ss : List (Option table.Snapshot)) (s : ℕ) (p : Snapshot) → Agrees ss p → is_number s (parent_at ss p.number) ≡ stands_under s p
same_under ss s p a = ap (is_number s) a ∙ same_parent s p.parent

-- the number of the last on a list
abbrev last_number : List Snapshot → Option ℕ
last_number [] = None
last_number (p ∷ ps) = Some (last_from p ps).number

or_last : (o : Option ℕ) (q : ℕ) (ps : List Snapshot) (p : Snapshot) → p.number ≡ q → o ≡ last_number ps → option_or o (Some q) ≡ last_number (p ∷ ps)
or_last None q [] p e f = ap Some (sym e)
or_last (Some r) q [] p e f = cc
or_last None q (r ∷ ps) p e f = cc
or_last (Some t) q (r ∷ ps) p e f = f
