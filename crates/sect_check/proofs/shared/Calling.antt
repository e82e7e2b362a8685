-- A variable, a field and a path of a program are what their names stand for.
use Rattle.std.proofs.Common.{◌≡◌, ℕ, zero, suc, List, [], ◌∷◌, ◌++◌, map, Option, Some, None, sym, ap, ◌∙◌, subst}
use Rattle.std.proofs.{Common.{append_assoc}, lemmas.List.{append-nil, map-append}}
use Rattle.std.proofs.lemmas.Option.{get_or_from_slice_get}
use Rattle.std.specs.{Prelude.{slice_get, slice_index_or, option_and_then}, Option.{option_map}}
use Rattle.sect_lemmas.proofs.Elements.{row_there}
use Rattle.sect_front.specs.{declared.tree.Record.{Record}, declared.tree.GlobalObject.{GlobalObject}}
use Rattle.sect_front.specs.declared.tree.Declaration.{Declaration}
use Rattle.sect_types.specs.First.{IsTyped}
use Rattle.sect_types.specs.Sight.{place, names_of_records, names_of_globals, names_of_declared, all_fields}
use Rattle.sect_types.specs.{Environments.{type_of, types_of, record_number}, Programs.{ProgramView, IsOfTree}}
use Rattle.sect_types.specs.{Sound.{type_in}, declared.expansion.action.Field.{Field}}
use Rattle.sect_types.specs.declared.declarations.types.ValueType.{ValueType}
use Rattle.sect_types.specs.declared.declarations.types.ValueType.TheVariants.{Refers}
use Rattle.sect_types.specs.declared.declarations.local_name.LocalName.{LocalName}
use Rattle.sect_types.specs.LocalNames.{all_local_names, place_of_local}
use Rattle.sect_lemmas.proofs.Replaced.{slice_get-map as mapped_at, at_map}
use Rattle.sect_types.proofs.shared.Repeating.{globals_apart, fields_apart, own_place}
use Rattle.sect_points.specs.declared.holders.Variable.{Variable}
use Rattle.sect_points.specs.declared.holders.Variable.TheVariants.{Global, Local}
use Rattle.sect_points.specs.Paths.{PathView, var, dot, base_of, fields_of}
use Rattle.sect_names.specs.{Locks.{IsOwn, VariableTo, FieldTo, PathTo}, Printing.{global_name, local_at, field_name}}
use Rattle.sect_check.specs.Names.{local_named, global_named, or_variable, variable_named, field_named, referred}
use Rattle.sect_check.specs.Names.{record_of_variable, record_of_field, path_from, path_named, base_named}
use Rattle.sect_check.specs.Names.{words_of_local, words_of_variable}
use Rattle.sect_check.proofs.Rows.{row_of}
use Rattle.sect_check.proofs.{LocalLaws.{local_has_name, own_place_of_local, no_local_of_global}, Standing.{numbered}}

-- a type that stands in a row
typed_in_row : (rows : List (List ValueType)) (i n : ℕ) (v : ValueType) → type_in (slice_get rows i) n ≡ Some v
    → slice_get (slice_index_or rows i []) n ≡ Some v
typed_in_row [] i n v e = absurd cc
typed_in_row (row ∷ rows) zero n v e = e
typed_in_row (row ∷ rows) (suc i) n v e = typed_in_row rows i n v e

module _ (p : ProgramView) (typed : IsTyped p.source) (tree : IsOfTree p) where
  -- a field that has a type is declared
  field_declared : (r n : ℕ) (v : ValueType) → slice_get (slice_index_or p.records r []) n ≡ Some v
      → (shape : Record) × (slice_get p.source.records r ≡ Some shape)
      × ((d : Declaration) × (slice_get shape.fields n ≡ Some d))
  field_declared r n v e =
      let names = names_of_records p.source.records in
      let row = row_there p.records r n v e in
      let shape = mapped_at (λ (z : Record). types_of names z.fields) p.source.records r row.0
      (subst (λ (l : List (List ValueType)). slice_get l r ≡ Some row.0) tree.records_are row.1) in
      let d = mapped_at (λ (z : Declaration). type_of names z.kind) shape.0.fields n v
      (subst (λ (l : List ValueType). slice_get l n ≡ Some v) (sym shape.2) row.2) in
      (shape.0, shape.1, (d.0, d.1))

  -- the words for a local stand for the place at which it is found
  found_by_words : (t i : ℕ) (x : List ℕ) (c : Option ℕ)
      → place_of_local (record { name = x; call = c }) (slice_index_or (all_local_names p.source) t []) ≡ Some i
      → base_named p.source t (words_of_local x c) ≡ Some (Local t i)
  found_by_words t i x None e =
      ap (λ o. or_variable (option_map (λ j. Local t j) o) (global_named p.source x)) e
  found_by_words t i x (Some c) e = ap (option_map (λ j. Local t j)) e

  local_called : (t x r : ℕ) → VariableTo p (Local t x) r
      → base_named p.source t (words_of_variable p.source (Local t x)) ≡ Some (Local t x)
  local_called t x r to =
      let names = slice_index_or (all_local_names p.source) t [] in
      let found = local_has_name p tree t x (Refers r) to in
      let l = found.0 in
      let called : local_at p.source t x ≡ l =
      get_or_from_slice_get names x l (record { name = []; call = None }) found.1 in
      ap (λ (k : LocalName). base_named p.source t (words_of_local k.name k.call)) called
      ∙ found_by_words t x l.name l.call (own_place_of_local p.source typed t x l found.1)

  -- in no thread a local has the name of a global
  no_local_called : (t g : ℕ) (name : List ℕ) → slice_get (names_of_globals p.source.globals) g ≡ Some name
      → local_named p.source t (record { name = name; call = None }) ≡ None
  no_local_called t g name at = ap (option_map (λ i. Local t i)) (no_local_of_global p.source typed t g name at)

  global_called : (t g r : ℕ) → VariableTo p (Global g) r
      → base_named p.source t (words_of_variable p.source (Global g)) ≡ Some (Global g)
  global_called t g r to =
      let names = names_of_globals p.source.globals in
      let found = mapped_at (λ (z : GlobalObject). record_number (names_of_records p.source.records) z.of)
      p.source.globals g r (subst (λ (l : List ℕ). slice_get l g ≡ Some r) tree.globals_are to) in
      let name = found.0.name in
      let at : slice_get names g ≡ Some name =
      at_map (λ (z : GlobalObject). z.name) p.source.globals g found.0 found.1 in
      let called : global_name p.source g ≡ name = get_or_from_slice_get names g name [] at in
      ap (variable_named p.source t) called
      ∙ ap (λ o. or_variable o (global_named p.source name)) (no_local_called t g name at)
      ∙ ap (option_map (λ i. Global i)) (own_place names g name at (globals_apart p.source typed g name at))

  -- a variable of a thread is what its words stand for there
  variable_called : (t : ℕ) (v : Variable) (r : ℕ) → IsOwn t (var v) → VariableTo p v r
      → base_named p.source t (words_of_variable p.source v) ≡ Some v
  variable_called t (Global g) r own to = global_called t g r to
  variable_called t (Local u x) r own to =
      subst (λ n. base_named p.source n (words_of_variable p.source (Local u x)) ≡ Some (Local u x)) own
      (local_called u x r to)

  -- a reference field is what its name stands for
  field_called : (f : Field) (r : ℕ) → FieldTo p f.of f.number r
      → field_named p.source f.of (field_name p.source f) ≡ Some f
  field_called f r to =
      let found = field_declared f.of f.number (Refers r) (typed_in_row p.records f.of f.number (Refers r) to) in
      let shape = found.0 in
      let d = found.2.0 in
      let names = names_of_declared shape.fields in
      let rows : slice_index_or (all_fields p.source.records) f.of [] ≡ names =
      row_of (λ (z : Record). names_of_declared z.fields) p.source.records f.of shape found.1 in
      let at : slice_get names f.number ≡ Some d.name =
      at_map (λ (z : Declaration). z.name) shape.fields f.number d found.2.1 in
      let called : field_name p.source f ≡ d.name = ap (λ ns. slice_index_or ns f.number []) rows
      ∙ get_or_from_slice_get names f.number d.name [] at in
      ap (λ n. option_map (numbered f.of) (place n (slice_index_or (all_fields p.source.records) f.of []))) called
      ∙ ap (λ ns. option_map (numbered f.of) (place d.name ns)) rows
      ∙ ap (option_map (numbered f.of))
      (own_place names f.number d.name at (fields_apart p.source typed f.of shape found.1 f.number d.name at))

  -- the record to whose objects a field or a variable refers
  field_record : (f : Field) (r : ℕ) → FieldTo p f.of f.number r → record_of_field p f ≡ Some r
  field_record f r to = ap (option_and_then referred) (typed_in_row p.records f.of f.number (Refers r) to)

  variable_record : (v : Variable) (r : ℕ) → VariableTo p v r → record_of_variable p v ≡ Some r
  variable_record (Global g) r to = to
  variable_record (Local t x) r to = ap (option_and_then referred) to

  -- the names of the fields of a path lead along it, whatever follows
  goes_along : (q : PathView) (r : ℕ) (xs : List (List ℕ)) → PathTo p q r
      → path_from p (var (base_of q)) (record_of_variable p (base_of q)) (map (field_name p.source) (fields_of q) ++ xs)
      ≡ path_from p q (Some r) xs
  goes_along (var v) r xs to = ap (λ o. path_from p (var v) o xs) (variable_record v r to)
  goes_along (dot q f) r xs to =
      let name = field_name p.source in
      let from = path_from p (var (base_of q)) (record_of_variable p (base_of q)) in
      let lists : map name (fields_of q ++ f ∷ []) ++ xs ≡ map name (fields_of q) ++ name f ∷ xs
      = ap (λ l. l ++ xs) (map-append name (fields_of q) (f ∷ []))
      ∙ append_assoc (map name (fields_of q)) (name f ∷ []) xs in
      ap from lists ∙ goes_along q f.of (name f ∷ xs) to.0
      ∙ ap (option_and_then (λ g. path_from p (dot q g) (record_of_field p g) xs)) (field_called f r to.1)
      ∙ ap (λ o. path_from p (dot q f) o xs) (field_record f r to.1)

  -- a path begins with a variable of the thread that refers to objects
  begins : (t : ℕ) (q : PathView) (r : ℕ) → IsOwn t q → PathTo p q r
      → IsOwn t (var (base_of q)) × ((n : ℕ) × VariableTo p (base_of q) n)
  begins t (var v) r own to = (own, (r, to))
  begins t (dot q f) r own to = begins t q f.of own to.0

  -- a path of a thread is what its names stand for there
  pub path_called : (t : ℕ) (q : PathView) (r : ℕ) → IsOwn t q → PathTo p q r
      → path_named p t (record {
        base = words_of_variable p.source (base_of q);
        fields =
            map (field_name p.source) (fields_of q);
      }) ≡ Some q
  path_called t q r own to =
      let start = begins t q r own to in
      let fields = map (field_name p.source) (fields_of q) in
      ap (option_and_then (λ v. path_from p (var v) (record_of_variable p v) fields))
      (variable_called t (base_of q) start.1.0 start.0 start.1.1)
      ∙ ap (path_from p (var (base_of q)) (record_of_variable p (base_of q))) (sym (append-nil fields))
      ∙ goes_along q r [] to
