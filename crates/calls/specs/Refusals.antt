-- The numbers of a canvas's refusals.
--
--   number_of    the refusal's own number
--   cause_of     behind it, that of the store's refusal where that was the cause
--   numbers_of   both, the canvas's first
use Rattle.std.specs.Prelude.{ℕ, List, [], ◌∷◌}
use Rattle.block.specs.Refusals.{number}
use Rattle.calls.specs.declared.refusals.Refusal.{Refusal}
use Rattle.calls.specs.declared.refusals.Refusal.TheVariants.{NotStarted, AlreadyStarted, BadSize, StoreInUse, BadNumber, NotLive, BadLayer, BadPoints, NoChange, NoBlocks, Nowhere}

abbrev pub number_of : Refusal → ℕ
number_of NotStarted = 10
number_of AlreadyStarted = 11
number_of BadSize = 12
number_of StoreInUse = 13
number_of BadNumber = 14
number_of NotLive = 15
number_of BadLayer = 16
number_of BadPoints = 17
number_of NoChange = 19
number_of (NoBlocks e) = 20
number_of Nowhere = 21

abbrev pub cause_of : Refusal → List ℕ
cause_of NotStarted = []
cause_of AlreadyStarted = []
cause_of BadSize = []
cause_of StoreInUse = []
cause_of BadNumber = []
cause_of NotLive = []
cause_of BadLayer = []
cause_of BadPoints = []
cause_of NoChange = []
cause_of (NoBlocks e) = number e ∷ []
cause_of Nowhere = []

abbrev pub numbers_of : Refusal → List ℕ
numbers_of r = number_of r ∷ cause_of r
