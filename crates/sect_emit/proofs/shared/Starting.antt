-- At the start no local and no field refers to anything, and the globals are there.
use Rattle.std.proofs.Common.{◌≡◌, ℕ, ◌<◌, List, [], length, None, Some, sym, ap, ◌∙◌, arith}
use Rattle.std.proofs.lemmas.List.{length-replicate}
use Rattle.std.specs.Prelude.{slice_get, slice_index_or}
use Rattle.sect_types.specs.declared.declarations.types.ValueType.{ValueType}
use Rattle.sect_types.specs.declared.meaning.store.ObjectName.{ObjectName}
use Rattle.sect_types.specs.declared.meaning.store.Datum.TheVariants.{Refers}
use Rattle.sect_types.specs.{Store.{ObjectView, StoreView, object_at, row}, Meaning.{datum_or_null}}
use Rattle.sect_types.specs.Whole.{first_store, first_work}
use Rattle.sect_names.specs.Schemes.{SchemeView}
use Rattle.sect_types.proofs.shared.{Data.{fresh_refers}, Starts.{global_there, global_is, no_row}}
use Rattle.sect_emit.specs.Pointed.{IsPointedStore, IsPointed}
use Rattle.sect_types.specs.declared.meaning.store.ObjectName.TheVariants as object

module _ (s : SchemeView) where
  abbrev begun : StoreView
  begun = first_store s.program

  -- no thread has made an object
  pub none_made : (t : ℕ) → row begun t ≡ []
  none_made t = no_row (length s.program.texts) t

  -- and no field of the globals' objects refers to anything
  pub no_reference : (o : ObjectName) (x : ObjectView) (f : ℕ) (b : ObjectName) → object_at begun o ≡ Some x
      → datum_or_null (slice_get x.fields f) ≡ Refers b → ⊥
  no_reference (object.Global g) x f b at e =
      let h = global_is s.program.records 0 s.program.globals g x at in
      fresh_refers (slice_index_or s.program.records h.0 []) f b
      (ap (λ (y : ObjectView). datum_or_null (slice_get y.fields f)) (sym h.2) ∙ e)
  no_reference (object.Made t n) x f b at e = let none : None ≡ Some x = sym (ap (λ os. slice_get os n) (none_made t))
      ∙ at in absurd cc

  -- what the first store refers to lies in its sets
  pub first_store_pointed : IsPointedStore s begun
  first_store_pointed = record {
    globals = λ g there. (let h = global_there s.program.records 0 s.program.globals g there in
        (h.0, h.1, let e = h.2 in omega (arith, e)));
    fields = λ o x f at b e. absurd (no_reference o x f b at e);
  }

  -- at the start each thread is pointed
  pub starts_pointed : (fuel t : ℕ) → t < length s.program.texts → (types : List ValueType)
      → IsPointed s t begun (first_work fuel types)
  starts_pointed fuel t lt types = record {
    objects = first_store_pointed;
    locals = λ x b e. absurd (fresh_refers types x b e);
    row = let many = length-replicate {A = List ObjectView} (length s.program.texts) [] in omega (arith, many, lt);
    made = sym (ap length (none_made t));
  }
