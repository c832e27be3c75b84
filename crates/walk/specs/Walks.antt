-- What a walk over the cells of a tree is.
--
--   Clear has k a     no index of the stretch a of order k is in the region
--   visit             what happens at one index: the cell's word is shown to the visitor where the region has the index
--   over f a n v      what becomes of v when f is done at the n indices from a on, in order
use Rattle.std.specs.Prelude.{ℕ, zero, suc, ◌+◌, ◌*◌, ◌^◌, ◌<◌, ◌≤◌, ◌≡◌, Bool, false, cond}

-- `has i` says whether the region has the index i
abbrev pub Clear : (ℕ → Bool) → ℕ → ℕ → Type 0
Clear has k a = (i : ℕ) → a * 16 ^ k ≤ i → i < (a + 1) * 16 ^ k → has i ≡ false

-- `step i w v` is the visitor v after it was shown the word w of the cell at i
abbrev pub visit : {V : Type 0} → (ℕ → Bool) → (ℕ → ℕ → V → V) → (ℕ → ℕ) → ℕ → V → V
visit has step cell i v = cond (has i) (step i (cell i) v) v

abbrev pub over : {V : Type 0} → (ℕ → V → V) → ℕ → ℕ → V → V
over f a zero v = v
over f a (suc n) v = f (a + n) (over f a n v)
