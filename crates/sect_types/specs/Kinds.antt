-- Types as they are written: what can be set to what, and compared with what.
use Rattle.std.specs.Prelude.{Bool, true, false, ◌&&◌, if◌then◌else◌}
use Rattle.sect_front.specs.{declared.tree.Kind.{Kind}, declared.tree.Comparison.{Comparison}}
use Rattle.sect_types.specs.{declared.rules.resolve.Given.{Given}, Sight.{same_name, kind_of}}
use Rattle.sect_front.specs.declared.tree.Kind.TheVariants as kind
use Rattle.sect_front.specs.declared.tree.Comparison.TheVariants as comparison
use Rattle.sect_types.specs.declared.rules.resolve.Given.TheVariants as given

abbrev pub same_kind : Kind → Kind → Bool
same_kind kind.Int kind.Int = true
same_kind kind.Int (kind.Record s) = false
same_kind (kind.Record r) kind.Int = false
same_kind (kind.Record r) (kind.Record s) = same_name r s

abbrev pub is_reference : Kind → Bool
is_reference kind.Int = false
is_reference (kind.Record r) = true

-- a place of that kind can hold it
abbrev pub accepts : Kind → Given → Bool
accepts kind.Int (given.Number n) = true
accepts kind.Int given.Null = false
accepts (kind.Record r) (given.Number n) = false
accepts (kind.Record r) given.Null = true
accepts k (given.Base d) = same_kind k (kind_of d)

-- the two may be equal
abbrev pub of_one_kind : Given → Given → Bool
of_one_kind (given.Number n) v = accepts kind.Int v
of_one_kind given.Null (given.Number n) = false
of_one_kind given.Null given.Null = true
of_one_kind given.Null (given.Base d) = is_reference (kind_of d)
of_one_kind (given.Base d) v = accepts (kind_of d) v

-- `<` and `<=` compare integers alone
abbrev pub compares_integers : Comparison → Bool
compares_integers comparison.Equal = false
compares_integers comparison.NotEqual = false
compares_integers comparison.Less = true
compares_integers comparison.LessOrEqual = true

abbrev pub comparable : Comparison → Given → Given → Bool
comparable c v w = if compares_integers c then (accepts kind.Int v && accepts kind.Int w) else of_one_kind v w
