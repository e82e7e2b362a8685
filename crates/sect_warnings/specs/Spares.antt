-- What is told of the declarations of a text.
use Rattle.std.specs.{Prelude.{◌≡◌, List, [], ◌∷◌, ◌++◌, map}, List.{flat_map}}
use Rattle.sect_front.specs.declared.span.Span.{Span}
use Rattle.sect_places.specs.{declared.name_use.NameSpan.{NameSpan}, declared.name_use.Role.{Role}}
use Rattle.sect_names.specs.Schemes.{SchemeView}
use Rattle.sect_lint.specs.{Unused.{AreUnused}, Idle.{idle_from}}
use Rattle.sect_warnings.specs.{declared.warning.Spare.{Spare}, Placed.{PlacedView}, Titles.{spare_note}}
use Rattle.sect_places.specs.declared.name_use.Role.TheVariants as role
use Rattle.sect_warnings.specs.declared.warning.Spare.TheVariants as spare
use Rattle.sect_warnings.specs.declared.warning.Told.TheVariants as told

abbrev pub spare_at : Span → Spare → PlacedView
spare_at span s = record { told = told.Declaration s; span = span; label = []; note = spare_note s }

-- at a name that is declared: that nothing uses it
abbrev pub unused_by : Span → Role → List PlacedView
unused_by span (role.Declared what) = spare_at span (spare.Unused what) ∷ []
unused_by span _ = []

abbrev pub unused_at : NameSpan → List PlacedView
unused_at n = unused_by n.span n.used.role

-- at the name of a record: that its hint has nothing to protect
abbrev pub hint_at : NameSpan → PlacedView
hint_at n = spare_at n.span spare.Hint

-- what is declared and never used, and then the records with such a hint, each in text order
abbrev pub AreSpares : SchemeView → List NameSpan → List PlacedView → Type 0
AreSpares s names ps =
    (unused : List NameSpan) × AreUnused names unused
    × (ps ≡ flat_map unused_at unused ++ map hint_at (idle_from s 0 names))
