-- Where the trees of a sheet stand.
--
--   slot p    the word of the root block that leads to the tree p: 0 to 7 the dots of a layer, 8 the strips, 9 the layers' records
use Rattle.std.specs.Prelude.{ℕ}
use Rattle.root.specs.declared.parts.Part.{Part}
use Rattle.root.specs.declared.parts.Part.TheVariants.{Dots, Strips, Records}

abbrev pub slot : Part → ℕ
slot (Dots layer) = layer.number
slot Strips = 8
slot Records = 9
