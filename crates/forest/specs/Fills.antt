-- What filling one block with sixteen words does.
--
--   fresh j      whether word j is new, so that its one holder, so far its maker, is now the block
--   held         one more holder for what a word leads to
--   Filled       a block b was taken and the words put into it; what is not fresh has one more holder
--   Holdable     what a word leads to is out, with fewer holders than a limit; a fresh word needs none
--   Room         so is what each of the first words leads to, with sixteen to spare
--   Cramped      a word leads to a block that cannot take sixteen holders more
--   Blocked      why sixteen words get no block
use Rattle.std.specs.Prelude.{◌≡◌, ℕ, suc, ◌+◌, ◌<◌, ◌≤◌, Bool, false, cond, ◌≢◌}
use Rattle.block.specs.Blocks.{Blocks, sum_to}
use Rattle.block.specs.declared.refusals.Refusal.{Refusal}
use Rattle.block.specs.declared.refusals.Refusal.TheVariants.{NoneFree, NotOut, TooMany, NoWord}
use Rattle.forest.specs.Balance.{hit, hold}

abbrev pub held : ℕ → ℕ → Blocks → Blocks
held k w m = record { size = m.size; holders = λ c. m.holders c + hold k w c; word = m.word }

-- the words are of order k
pub record Filled (m n : Blocks) (k b : ℕ) (words : ℕ → ℕ) (fresh : ℕ → Bool) : Type 0 where
  pub was : m.holders b ≡ 0
  pub inside : b < m.size
  pub size : n.size ≡ m.size
  pub holders : (c : ℕ) → n.holders c ≡ m.holders c + hit (suc b) c + sum_to 16 (λ j. cond (fresh j) 0 (hold k (words j) c))
  pub filled : (j : ℕ) → j < 16 → n.word b j ≡ words j
  pub others : (c j : ℕ) → c ≢ b → n.word c j ≡ m.word c j

abbrev pub Holdable : ℕ → ℕ → Bool → Blocks → ℕ → Type 0
Holdable k w fresh m limit = fresh ≡ false → (c : ℕ) → 0 < hold k w c → (0 < m.holders c) × (m.holders c < limit)

abbrev pub Room : ℕ → (ℕ → ℕ) → (ℕ → Bool) → Blocks → ℕ → Type 0
Room k words fresh m i = (j : ℕ) → j < i → Holdable k (words j) (fresh j) m 65520

abbrev pub Cramped : ℕ → ℕ → Blocks → Type 0
Cramped k w m = (c : ℕ) × (0 < hold k w c) × (0 < m.holders c → 65520 ≤ m.holders c)

abbrev pub Blocked : Refusal → ℕ → (ℕ → ℕ) → Blocks → Type 0
Blocked NoneFree k words m = (b : ℕ) → b < m.size → 0 < m.holders b
Blocked TooMany k words m = (j : ℕ) × (j < 16) × Cramped k (words j) m
Blocked NotOut k words m = ⊥
Blocked NoWord k words m = ⊥
