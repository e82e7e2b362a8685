-- The names that all procedures and threads see.
use Rattle.std.specs.Prelude.{◌≡◌}
use Rattle.sect_front.specs.TreeView.{TreeView}
use Rattle.sect_types.specs.declared.declarations.shown.Shown.{Shown}
use Rattle.sect_types.specs.Sight.{names_of_records, names_of_globals, all_fields}
use Rattle.sect_types.specs.steps.Listing.{Knows}

-- they are those of this tree
pub record Shows (s : Shown) (t : TreeView) : Type 0 where
  pub known : Knows s.known t.records
  pub records : s.record_names ≡ names_of_records t.records
  pub fields : s.field_names.items ≡ all_fields t.records
  pub globals : s.global_names ≡ names_of_globals t.globals
