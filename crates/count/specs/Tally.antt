-- The count of blocks, from what is known of the snapshots' edits alone.
--
--   bit t            1 where the test holds
--   live n f         how many of f 0 .. f (n - 1) are not 0
--   distinct n f     how many different numbers other than 0 are among them
--   all_stretches    the sum over every stretch of every tree: tree t, order k + 1, quotient q
--   Last             of each snapshot and stretch: 0, or 1 plus the place of the last edit on the snapshot's line that changed a cell there
--   tally            the count: one for each snapshot, and for each stretch the number of different last edits
--   Alike            two functions tell the same numbers apart
--   Tied             blocks are shared just where the last edits are
use Rattle.std.specs.Prelude.{◌≡◌, ℕ, zero, suc, ◌+◌, ◌-◌, ◌^◌, ◌<◌, Bool, cond, ◌↔◌, ◌==◌, nat_eq}
use Rattle.block.specs.Blocks.{Blocks, sum_to}
use Rattle.forest.specs.Balance.{node}
use Rattle.forest.specs.Plans.{any_to}
use Rattle.count.specs.Paths.{path}

abbrev pub bit : Bool → ℕ
bit t = cond t 1 0

abbrev pub live : ℕ → (ℕ → ℕ) → ℕ
live n f = sum_to n (λ s. cond (f s == 0) 0 1)

-- 1 where v is not 0 and none of f 0 .. f (n - 1)
abbrev pub new : ℕ → (ℕ → ℕ) → ℕ → ℕ
new n f v = cond (v == 0) 0 (cond (any_to n (λ s. nat_eq (f s) v)) 0 1)

abbrev pub distinct : ℕ → (ℕ → ℕ) → ℕ
distinct zero f = 0
distinct (suc n) f = new n f (f n) + distinct n f

-- `deep t` is the depth of the tree t, 0 where there is none
unfoldable pub all_stretches : (ℕ → ℕ) → (ℕ → ℕ → ℕ → ℕ) → ℕ
all_stretches deep f = sum_to 16 (λ t. sum_to (deep t) (λ k. sum_to (16 ^ (deep t - suc k)) (f t k)))

abbrev pub Last : Type 0
Last = ℕ → ℕ → ℕ → ℕ → ℕ

abbrev pub tally : (ℕ → ℕ) → ℕ → (ℕ → ℕ) → Last → ℕ
tally deep n roots last = live n roots + all_stretches deep (λ t k q. distinct n (λ s. last s t (suc k) q))

pub record Alike (n : ℕ) (f g : ℕ → ℕ) : Type 0 where
  pub none : (s : ℕ) → s < n → f s ≡ 0 ↔ g s ≡ 0
  pub same : (s r : ℕ) → s < n → r < n → f s ≡ f r ↔ g s ≡ g r

abbrev pub Tied : (ℕ → ℕ) → ℕ → Blocks → (ℕ → ℕ) → Last → Type 0
Tied deep n m roots last = (t k q : ℕ) → t < 16 → k < deep t → q < 16 ^ (deep t - suc k) → Alike n (λ s. path deep m (roots s) (node t (suc k) q)) (λ s. last s t (suc k) q)
