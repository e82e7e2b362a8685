-- What a turn changes has no float.
use Rattle.std.proofs.{Common.{ℕ, List, [], ◌∷◌, Option, Some, None, Bool, true, false, refl}, lemmas.Bool.{or_from}}
use Rattle.std.specs.Prelude.{slice_get, if◌then◌else◌}
use Rattle.serde_json.specs.Data.{Data}
use Rattle.sect_types.specs.{Programs.{ProgramView}, Store.{ObjectView, StoreView, object_at, same_datum}}
use Rattle.sect_types.specs.Meaning.{Change, Unchanged, Written, Added, datum_or_null}
use Rattle.sect_types.specs.declared.meaning.store.{Datum.{Datum}, ObjectName.{ObjectName}}
use Rattle.sect_types.specs.declared.meaning.store.ObjectName.TheVariants.{Made}
use Rattle.sect_store.specs.Printing.{fields_at}
use Rattle.sect_json.specs.Changes.{placed_json, written_json, changes_json}
use Rattle.sect_json.proofs.{Plain.{IsPlain, ArePlain, plain_by_place}, PlainObjects.{plain_datum}}

plain_if : (b : Bool) (value : Data) → IsPlain value → ArePlain (if b then [] else value ∷ [])
plain_if true value p = refl
plain_if false value p = or_from _ _ p refl

module _ (p : ProgramView) where
  plain_placed : (o : ObjectName) (names : List (List ℕ)) (f : ℕ) (d : Datum) → IsPlain (placed_json p o names f d)
  plain_placed o names f d = or_from _ _ (plain_datum p d) refl

  plain_written : (o : ObjectName) (f : ℕ) (d : Datum) (x : Option ObjectView) → ArePlain (written_json p o f d x)
  plain_written o f d None = refl
  plain_written o f d (Some x) =
      plain_if (same_datum (datum_or_null (slice_get x.fields f)) d) (placed_json p o (fields_at p x.site) f d)
      (plain_placed o (fields_at p x.site) f d)

  pub plain_changes : (s : StoreView) (t n : ℕ) (change : Change) → ArePlain (changes_json p s t n change)
  plain_changes s t n Unchanged = refl
  plain_changes s t n (Written o f d) = plain_written o f d (object_at s o)
  plain_changes s t n (Added x) =
      let of = placed_json p (Made t n) (fields_at p x.site) in
      plain_by_place of (plain_placed (Made t n) (fields_at p x.site)) 0 x.fields
