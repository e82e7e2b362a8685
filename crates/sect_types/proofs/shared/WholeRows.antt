-- The objects and the ends of worked examples, on which definitions are tested.
use Rattle.std.proofs.Common.{ℕ, List}
use Rattle.std.specs.Prelude.{pos, map}
use Rattle.sect_types.specs.{declared.meaning.store.Datum.{Datum}, declared.meaning.store.Datum.TheVariants.{Number}}
use Rattle.sect_types.specs.{declared.meaning.store.End.{End}, Store.{ObjectView}, Whole.{SerialEndView}}

-- a number as a datum
abbrev pub int : ℕ → Datum
int n = Number (pos n)

-- an object by its site and fields
abbrev pub object : ℕ → List Datum → ObjectView
object site fields = record { site = site; fields = fields }

-- an ending by its objects, output and ends
abbrev pub ending : List ObjectView → List (List ObjectView) → List ℕ → List End → SerialEndView
ending globals made output ends =
    record { store = record { globals = globals; made = made }; output = map pos output; ends = ends }
