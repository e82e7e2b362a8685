-- Declarations of which the first have been passed.
use Rattle.std.specs.Prelude.{◌≡◌, ◌≤◌, ℕ, ◌+◌, Bool, true, ◌&&◌, nat_le, List, [], ◌∷◌, ◌++◌, length}
use Rattle.sect_front.specs.{declared.tree.Record.{Record}, declared.tree.GlobalObject.{GlobalObject}}
use Rattle.sect_front.specs.{declared.tree.Declaration.{Declaration}, declared.tree.Thread.{Thread}}
use Rattle.sect_types.specs.Limits.{most_fields, most_globals, most_locals, most_records}
use Rattle.sect_types.specs.Sight.{has_name, names_of_records, names_of_globals, names_of_declared, all_fields}
use Rattle.sect_types.specs.declared.declarations.types.ValueType.{ValueType}
use Rattle.sect_types.specs.Environments.{types_of, field_types, global_records}
use Rattle.sect_types.specs.Items.{Item, record_items, field_items, global_items, local_items}
use Rattle.sect_types.specs.Rules.{Declared, Counts, knows_kind}
use Rattle.sect_types.specs.steps.Judging.{judge}

-- the set has the names of these records
abbrev pub Knows : List (List ℕ) → List Record → Type 0
Knows known rs = (x : List ℕ) → has_name x known ≡ has_name x (names_of_records rs)

-- all types that the declarations name are known, where the records have these names
abbrev pub all_known : List (List ℕ) → List Declaration → Bool
all_known records [] = true
all_known records (d ∷ ds) = knows_kind records d.kind && all_known records ds

-- the fields of each record are of known types, and few
abbrev pub fields_fine : List (List ℕ) → List Record → Bool
fields_fine records [] = true
fields_fine records (r ∷ rs) =
    (all_known records r.fields && nat_le (length r.fields) most_fields) && fields_fine records rs

abbrev pub globals_known : List (List ℕ) → List GlobalObject → Bool
globals_known records [] = true
globals_known records (g ∷ gs) = has_name g.of records && globals_known records gs

-- the locals of each thread are of known types, and few
abbrev pub locals_fine : List (List ℕ) → List Thread → Bool
locals_fine records [] = true
locals_fine records (t ∷ ts) =
    (all_known records t.locals && nat_le (length t.locals) most_locals) && locals_fine records ts

-- the fields `rest` of `all` are left, and those before them have these names
pub record IsListed (d : Declared) (all rest : List Declaration) (names : List (List ℕ))
    (old now : Counts) : Type 0 where
  pub walks : (w : List Item) → judge d old (field_items [] all w) ≡ judge d now (field_items names rest w)
  pub named : names ++ names_of_declared rest ≡ names_of_declared all
  pub sites : now.sites ≡ old.sites
  pub few : length names ≤ most_fields
  pub known : all_known (names_of_records d.records) all ≡ all_known (names_of_records d.records) rest

-- the records `rest` of `all` are left
pub record AreRecords (d : Declared) (all rest : List Record) (names : List (List ℕ))
    (fields : List (List (List ℕ))) (old now : Counts) : Type 0 where
  pub walks : (w : List Item) → judge d old (record_items [] all w) ≡ judge d now (record_items names rest w)
  pub named : names ++ names_of_records rest ≡ names_of_records all
  pub with_fields : fields ++ all_fields rest ≡ all_fields all
  pub sites : now.sites ≡ old.sites
  pub few : length names ≤ most_records
  pub fine : fields_fine (names_of_records d.records) all ≡ fields_fine (names_of_records d.records) rest

pub record AreGlobals (d : Declared) (all rest : List GlobalObject) (names : List (List ℕ))
    (old now : Counts) : Type 0 where
  pub walks : (w : List Item) → judge d old (global_items [] all w) ≡ judge d now (global_items names rest w)
  pub named : names ++ names_of_globals rest ≡ names_of_globals all
  pub sites : now.sites ≡ old.sites + length names
  pub few : length names ≤ most_globals
  pub known : globals_known (names_of_records d.records) all ≡ globals_known (names_of_records d.records) rest

-- the locals `rest` of `all` are left, before which these names stand
pub record AreLocals (d : Declared) (all rest : List Declaration) (names : List (List ℕ))
    (old now : Counts) : Type 0 where
  pub walks : (w : List Item) → judge d old (local_items [] all w) ≡ judge d now (local_items names rest w)
  pub named : names ++ names_of_declared rest ≡ names_of_declared all
  pub few : length names ≤ most_locals
  pub known : all_known (names_of_records d.records) all ≡ all_known (names_of_records d.records) rest

-- the declarations `rest` of `all` have no types yet, and those before them have these
pub record AreTyped (records : List (List ℕ)) (all rest : List Declaration) (types : List ValueType) : Type 0 where
  pub typed : types ++ types_of records rest ≡ types_of records all
  pub known : all_known records rest ≡ true

pub record AreFieldsTyped (records : List (List ℕ)) (all rest : List Record)
    (types : List (List ValueType)) : Type 0 where
  pub typed : types ++ field_types records rest ≡ field_types records all
  pub fine : fields_fine records rest ≡ true

pub record AreGlobalsNumbered (records : List (List ℕ)) (all rest : List GlobalObject) (numbers : List ℕ) : Type 0 where
  pub numbered : numbers ++ global_records records rest ≡ global_records records all
  pub known : globals_known records rest ≡ true
