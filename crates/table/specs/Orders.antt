-- What a contract sees of an order of making.
use Rattle.std.specs.Prelude.{ℕ, List}

-- the numbers of the live snapshots, the one made first at the front; and the places that are left, of which no clause says anything
pub record Numbers : Type 0 where
  pub made : List ℕ
  pub spare : List ℕ
