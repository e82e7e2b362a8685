-- Procedures and calls as JSON have no float.
use Rattle.std.proofs.{Common.{ℕ, List, refl}, lemmas.Bool.{or_from}}
use Rattle.sect_front.specs.declared.tree.Procedure.{Procedure}
use Rattle.sect_places.specs.declared.name_use.NameSpan.{NameSpan}
use Rattle.sect_json.specs.Calls.{procedure_json, from_item, calls_within, call_json, calls_json, thread_item}
use Rattle.sect_json.proofs.{Plain.{IsPlain, plain_by_place}, PlainSites.{plain_bytes}}

module _ (source : List ℕ) (names : List NameSpan) where
  pub plain_procedure : (p : Procedure) → IsPlain (procedure_json source names p)
  plain_procedure p = or_from _ _ (plain_bytes source _) refl

  pub plain_calls : (most : ℕ) (x : List ℕ) → IsPlain (calls_json source names most x)
  plain_calls most x =
      plain_by_place (call_json source) (λ n y. refl) 0 (from_item (calls_within most names) (thread_item names x))
