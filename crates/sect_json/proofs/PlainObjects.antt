-- Objects as JSON have no float.
use Rattle.std.proofs.{Common.{ℕ, List, refl}, lemmas.Bool.{or_from}}
use Rattle.sect_types.specs.{Programs.{ProgramView}, Store.{ObjectView, StoreView}}
use Rattle.sect_types.specs.declared.meaning.store.ObjectName.TheVariants.{Global, Made}
use Rattle.sect_types.specs.declared.meaning.store.Datum.{Datum}
use Rattle.sect_types.specs.declared.meaning.store.Datum.TheVariants.{Number, Null, Refers}
use Rattle.sect_store.specs.Printing.{object_name, fields_at}
use Rattle.sect_json.specs.Values.{by_place, all_by_place}
use Rattle.sect_json.specs.Objects.{datum_json, field_json, object_json, global_json, made_json, row_json, objects_json}
use Rattle.sect_json.proofs.Plain.{IsPlain, ArePlain, plain_by_place, plain_append, plain_all_by_place, plain_integer}

module _ (p : ProgramView) where
  pub plain_datum : (d : Datum) → IsPlain (datum_json p d)
  plain_datum (Number n) = plain_integer n
  plain_datum Null = refl
  plain_datum (Refers o) = refl

  plain_field : (names : List (List ℕ)) (f : ℕ) (d : Datum) → IsPlain (field_json p names f d)
  plain_field names f d = or_from _ _ (plain_datum d) refl

  plain_object : (name : List ℕ) (o : ObjectView) → IsPlain (object_json p name o)
  plain_object name o =
      or_from _ _ (plain_by_place (field_json p (fields_at p o.site)) (plain_field (fields_at p o.site)) 0 o.fields)
      refl

  pub plain_objects : (s : StoreView) → ArePlain (objects_json p s)
  plain_objects s =
      plain_append (by_place (global_json p) 0 s.globals) (all_by_place (row_json p) 0 s.made)
      (plain_by_place (global_json p) (λ g o. plain_object (object_name p (Global g)) o) 0 s.globals)
      (plain_all_by_place (row_json p)
      (λ t row. plain_by_place (made_json p t) (λ n o. plain_object (object_name p (Made t n)) o) 0 row) 0 s.made)
