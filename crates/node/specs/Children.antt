-- The children that a block is filled with.
--
--   word_of c       the word of a child
--   is_fresh c      whether its one holder, so far its maker, is now the block
--   word_at cs j    the word of child j, and 0 past the last
--   fresh_at cs j   whether child j is fresh, and not past the last
use Rattle.std.specs.Prelude.{ℕ, Bool, true, false, List, slice_index_or}
use Rattle.node.specs.declared.children.Child.{Child}
use Rattle.node.specs.declared.children.Child.TheVariants.{Kept, Fresh}

abbrev pub word_of : Child → ℕ
word_of (Kept w) = w
word_of (Fresh w) = w

abbrev pub is_fresh : Child → Bool
is_fresh (Kept w) = false
is_fresh (Fresh w) = true

abbrev pub word_at : List Child → ℕ → ℕ
word_at cs j = word_of (slice_index_or cs j (Kept 0))

abbrev pub fresh_at : List Child → ℕ → Bool
fresh_at cs j = is_fresh (slice_index_or cs j (Kept 0))
