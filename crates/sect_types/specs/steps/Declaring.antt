-- A declaration that is passed, of any kind.
use Rattle.std.specs.Prelude.{◌≡◌, ◌<◌, ◌+◌, ℕ, ⊤, Bool, true, false, List}
use Rattle.sect_front.specs.TreeView.{TreeView}
use Rattle.sect_types.specs.Limits.{most_records, most_fields, most_globals, most_procedures, most_threads, most_locals}
use Rattle.sect_types.specs.{Limits.{most_sites}, declared.declarations.declare.Declared.{Declared}}
use Rattle.sect_types.specs.Sight.{has_name, names_of_globals}
use Rattle.sect_types.specs.Items.{Item, ARecord, AField, AGlobal, AProcedure, AThread, ALocal}
use Rattle.sect_types.specs.Rules.{Counts, knows_kind}
use Rattle.sect_types.specs.declared.declarations.declare.Declared.TheVariants as declared

-- its name
abbrev pub name_of : Declared → List ℕ
name_of (declared.Record x) = x
name_of (declared.Field d) = d.name
name_of (declared.Global g) = g.name
name_of (declared.Procedure x) = x
name_of (declared.Thread x) = x
name_of (declared.Local d taken) = d.name

-- the item that it is, behind these names of its list
abbrev pub item_of : Declared → List (List ℕ) → Item
item_of (declared.Record x) before = ARecord x before
item_of (declared.Field d) before = AField d.kind d.name before
item_of (declared.Global g) before = AGlobal g.of g.name before
item_of (declared.Procedure x) before = AProcedure x before
item_of (declared.Thread x) before = AThread x before
item_of (declared.Local d taken) before = ALocal d.kind d.name before

-- how many of its kind one list may have
abbrev pub most_of : Declared → ℕ
most_of (declared.Record x) = most_records
most_of (declared.Field d) = most_fields
most_of (declared.Global g) = most_globals
most_of (declared.Procedure x) = most_procedures
most_of (declared.Thread x) = most_threads
most_of (declared.Local d taken) = most_locals

-- the type that it names is known, where the records have these names
abbrev pub is_known : List (List ℕ) → Declared → Bool
is_known records (declared.Field d) = knows_kind records d.kind
is_known records (declared.Global g) = has_name g.of records
is_known records (declared.Local d taken) = knows_kind records d.kind
is_known records _ = true

-- a global has its name, which only variables mind
abbrev pub is_taken : Declared → Bool
is_taken (declared.Local d taken) = taken
is_taken _ = false

-- the counts behind it: a global is a site
abbrev pub behind : Declared → Counts → Counts
behind (declared.Global g) c = record c { items = c.items + 1; sites = c.sites + 1 }
behind _ c = record c { items = c.items + 1 }

-- there is room for its site
abbrev pub HasSite : Counts → Declared → Type 0
HasSite c (declared.Global g) = c.sites < most_sites
HasSite c _ = ⊤

-- what is told of it is so, and there is room for its site
abbrev pub IsToldOf : TreeView → Counts → Declared → Type 0
IsToldOf t c (declared.Global g) = HasSite c (declared.Global g)
IsToldOf t c (declared.Local d taken) = taken ≡ has_name d.name (names_of_globals t.globals)
IsToldOf t c _ = ⊤
