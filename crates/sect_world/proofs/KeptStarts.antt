-- The store and the work at the start of a run are kept.
use Rattle.std.proofs.Common.{◌≡◌, ℕ, ◌+◌, sym, ap, ◌∙◌, subst, List, [], length, Some, arith}
use Rattle.std.proofs.lemmas.List.{length-replicate}
use Rattle.std.specs.Prelude.{slice_get, slice_index_or}
use Rattle.sect_types.specs.{declared.declarations.types.ValueType.{ValueType}, Programs.{sites_of, all_made}}
use Rattle.sect_types.specs.declared.meaning.store.ObjectName.{ObjectName}
use Rattle.sect_types.specs.declared.meaning.store.ObjectName.TheVariants.{Global, Made}
use Rattle.sect_types.specs.{Store.{ObjectView, object_at}, Whole.{first_store, first_work}}
use Rattle.sect_lemmas.proofs.{Options.{none_or_some}, Elements.{slice_get-left}}
use Rattle.sect_types.proofs.shared.{Data.{fresh_refers, length-fresh}, Starts.{global_is}}
use Rattle.sect_names.specs.Records.{SiteOf}
use Rattle.sect_emit.specs.Compiled.{CompiledView, program_of}
use Rattle.sect_emit.proofs.shared.Starting.{none_made, first_store_pointed}
use Rattle.sect_world.specs.Kept.{IsStoreKept, IsWorkKept}

-- the first store is kept
pub first_store_kept : (c : CompiledView) → IsStoreKept c (first_store (program_of c))
first_store_kept c = record {
  rows = length-replicate (length (program_of c).texts) [];
  pointed =
      first_store_pointed c.scheme;
  sited = sited;
} where
  sited : (o : ObjectName) (x : ObjectView) → object_at (first_store (program_of c)) o ≡ Some x
      → (r : ℕ) × SiteOf (program_of c) x.site r
      × (length x.fields ≡ length (slice_index_or (program_of c).records r []))
  sited (Global g) x at =
      let h = global_is (program_of c).records 0 (program_of c).globals g x at in
      let site : g ≡ x.site = (let e : g ≡ 0 + g = omega arith in e) ∙ ap (λ (z : ObjectView). z.site) (sym h.2) in (
        h.0,
        subst (λ n. slice_get (sites_of (program_of c).globals (program_of c).texts) n ≡ Some h.0) site
            (slice_get-left (program_of c).globals (all_made (program_of c).texts) g h.0 h.1),
        ap (λ (z : ObjectView). length z.fields) h.2 ∙ length-fresh (slice_index_or (program_of c).records h.0 []),
      )
  sited (Made t n) x at = absurd (none_or_some x (ap (λ os. slice_get os n) (sym (none_made c.scheme t)) ∙ at))

-- and so is the first work of each thread
pub first_work_kept : (c : CompiledView) (fuel t : ℕ) (types : List ValueType)
    → IsWorkKept c (first_store (program_of c)) t (first_work fuel types)
first_work_kept c fuel t types = record {
  made = sym (ap length (none_made c.scheme t));
  locals = λ x o e. absurd (fresh_refers types x o e);
}
