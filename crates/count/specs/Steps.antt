-- What a new snapshot and a forgotten one are.
--
--   put x u f      f, but u at x
--   changed_by     whether a plan for the tree u of the snapshot with the root p changes a cell of a stretch
--   edited         the last edits once there is a new snapshot x, made by an edit of the snapshot h
--   forgotten      the last edits once the snapshot x is gone
--   Later          a later place than any before
--   Keeps m o      the words of every block that is out stay
--   Renewed        the snapshot r in o is the snapshot p in m, but for fresh blocks at the stretches that changed
--   gone           the blocks after the root block b was let go, and then its first i trees
use Rattle.std.specs.Prelude.{◌≡◌, ℕ, zero, suc, ◌-◌, ◌^◌, ◌<◌, Bool, true, false, cond, ◌≢◌, ◌==◌}
use Rattle.block.specs.Blocks.{Blocks}
use Rattle.block.specs.Calls.{released}
use Rattle.forest.specs.Trees.{let_go}
use Rattle.forest.specs.Balance.{node}
use Rattle.forest.specs.Plans.{changes}
use Rattle.count.specs.Paths.{path}
use Rattle.count.specs.Tally.{Last}

abbrev pub put : {X : Type 0} → ℕ → X → (ℕ → X) → ℕ → X
put x u f s = cond (s == x) u (f s)

abbrev pub changed_by : (ℕ → ℕ) → (ℕ → ℕ → ℕ) → Blocks → ℕ → ℕ → ℕ → ℕ → ℕ → Bool
changed_by deep new m p t u k q = cond (u == t) (changes new m k (path deep m p (node u k q)) q) false

-- at a stretch that changed it is the edit, by its place, and elsewhere what it was at h
abbrev pub edited : Last → ℕ → ℕ → (ℕ → ℕ → ℕ → Bool) → ℕ → Last
edited last x h changed place s t k q = put x (cond (changed t k q) (suc place) (last h t k q)) (λ s. last s t k q) s

abbrev pub forgotten : Last → ℕ → Last
forgotten last x s t k q = put x 0 (λ s. last s t k q) s

abbrev pub Later : ℕ → Last → ℕ → Type 0
Later n last place = (s t k q : ℕ) → s < n → last s t k q ≢ suc place

abbrev pub Keeps : Blocks → Blocks → Type 0
Keeps m o = (b i : ℕ) → 0 < m.holders b → o.word b i ≡ m.word b i

pub record Renewed (deep : ℕ → ℕ) (m o : Blocks) (p r : ℕ) (changed : ℕ → ℕ → ℕ → Bool) : Type 0 where
  pub fresh : (t k q : ℕ) → t < 16 → k < deep t → q < 16 ^ (deep t - suc k) → changed t (suc k) q ≡ true → (b : ℕ) × (path deep o r (node t (suc k) q) ≡ suc b) × (m.holders b ≡ 0)
  pub same : (t k q : ℕ) → t < 16 → k < deep t → q < 16 ^ (deep t - suc k) → changed t (suc k) q ≡ false → path deep o r (node t (suc k) q) ≡ path deep m p (node t (suc k) q)

abbrev pub gone : (ℕ → ℕ) → Blocks → ℕ → ℕ → Blocks
gone deep m b zero = released m b
gone deep m b (suc i) = let_go (deep i) (gone deep m b i) (m.word b i)
