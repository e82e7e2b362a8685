-- The document of outcomes has no float.
use Rattle.std.proofs.{Common.{refl}, lemmas.Bool.{or_from}}
use Rattle.sect_types.specs.Programs.{ProgramView}
use Rattle.sect_store.specs.Outcomes.{OutcomeView}
use Rattle.sect_serial.specs.{Judging.{outcome_of}, Exploring.{OutcomesView}}
use Rattle.sect_json.specs.{Values.{count, integer}, Outcomes.{thread_json, outcome_json, found_json, outcomes_json}}
use Rattle.sect_json.proofs.{Plain.{IsPlain, plain_map, plain_integer}, PlainObjects.{plain_objects}}

module _ (p : ProgramView) where
  pub plain_outcome : (o : OutcomeView) → IsPlain (outcome_json p o)
  plain_outcome o =
      or_from _ _ (plain_objects p o.store)
      (or_from _ _ (plain_map count (λ n. refl) o.order)
      (or_from _ _ (plain_map integer plain_integer o.output)
      (or_from _ _ (plain_map thread_json (λ e. refl) o.ends) refl)))

  pub plain_outcomes : (o : OutcomesView) → IsPlain (outcomes_json p o)
  plain_outcomes o = or_from _ _ (plain_map (found_json p) (λ x. plain_outcome (outcome_of x.1 x.0)) o.found) refl
