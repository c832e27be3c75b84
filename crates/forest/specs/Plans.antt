-- What a plan changes in a tree.
--
--   new i w          the plan: the new word of the cell at the index i, whose old word is w
--   differs          whether that is another word
--   Quiet new k a    the plan gives no cell of the stretch a of order k another word, whatever the cells are
--   one_cell j v     the plan that gives the cell at the index j the word v, and leaves all others
--   any_to n f       whether f holds of any number below n
--   changes          whether a cell of the stretch gets another word: the stretch a of order k, whose word is w
--   needed           how many stretches in it, of order 1 and above and itself included, hold a cell that gets another word
use Rattle.std.specs.Prelude.{◌≡◌, ℕ, zero, suc, ◌+◌, ◌*◌, ◌^◌, ◌<◌, ◌≤◌, Bool, false, cond, not, ◌||◌, ◌==◌}
use Rattle.block.specs.Blocks.{Blocks, sum_to}
use Rattle.forest.specs.Trees.{child}

abbrev pub differs : (ℕ → ℕ → ℕ) → ℕ → ℕ → Bool
differs new i w = not (new i w == w)

abbrev pub Quiet : (ℕ → ℕ → ℕ) → ℕ → ℕ → Type 0
Quiet new k a = (i w : ℕ) → a * 16 ^ k ≤ i → i < (a + 1) * 16 ^ k → new i w ≡ w

abbrev pub one_cell : ℕ → ℕ → ℕ → ℕ → ℕ
one_cell j v i w = cond (i == j) v w

abbrev pub any_to : ℕ → (ℕ → Bool) → Bool
any_to zero f = false
any_to (suc n) f = any_to n f || f n

abbrev pub changes : (ℕ → ℕ → ℕ) → Blocks → ℕ → ℕ → ℕ → Bool
changes new m zero w a = differs new a w
changes new m (suc k) w a = any_to 16 (λ j. changes new m k (child m w j) (a * 16 + j))

abbrev pub needed : (ℕ → ℕ → ℕ) → Blocks → ℕ → ℕ → ℕ → ℕ
needed new m zero w a = 0
needed new m (suc k) w a = cond (changes new m (suc k) w a) (suc (sum_to 16 (λ j. needed new m k (child m w j) (a * 16 + j)))) 0
