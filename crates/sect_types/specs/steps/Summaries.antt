-- What a call of a procedure comes to, as the code keeps it: the calls in its body apart from the rest.
use Rattle.std.specs.{Prelude.{◌≡◌, ℕ, ◌+◌, List, [], ◌∷◌, Some, map}, List.{AllByRecursion}}
use Rattle.sect_front.specs.declared.tree.Procedure.{Procedure}
use Rattle.sect_types.specs.{Sums.{nothing, both, sums_at, procedure_sums}, declared.counting.sums.Sums.{Sums}}
use Rattle.sect_types.specs.{declared.counting.sums.Met.{Met}, declared.counting.sums.Summary.{Summary}}
use Rattle.sect_types.specs.steps.Capped.{capped, IsSmall}

-- the same in n blocks
abbrev pub deeper : ℕ → Sums → Sums
deeper n a = record {
  statements = a.statements;
  sites = a.sites;
  calls = a.calls;
  fresh = a.fresh;
  deep = n + a.deep;
}

-- of calls, where the table has what each comes to
abbrev pub met_sums : List Sums → List Met → Sums
met_sums table [] = nothing
met_sums table (m ∷ ms) = both (deeper m.depth (sums_at table (Some m.callee))) (met_sums table ms)

abbrev pub summary_sums : List Sums → Summary → Sums
summary_sums table s = both s.own (met_sums table s.calls.items)

-- a summary to which more was added, whatever the table has
pub record HasMore (old new : Summary) (more : List Sums → Sums) : Type 0 where
  pub small : IsSmall new.own
  pub sums : (table : List Sums) → capped (summary_sums table new) ≡ capped (both (summary_sums table old) (more table))

-- the summary says what a call of the procedure comes to
pub record IsSummary (ps : List Procedure) (p : Procedure) (s : Summary) : Type 0 where
  pub small : IsSmall s.own
  pub sums : (table : List Sums) → capped (summary_sums table s) ≡ capped (procedure_sums ps table p)

-- the summaries say what a call of each procedure comes to
pub record AreSummaries (ps : List Procedure) (ss : List Summary) : Type 0 where
  pub small : AllByRecursion (λ (s : Summary). IsSmall s.own) ss
  pub sums : (table : List Sums) → map (λ (s : Summary). capped (summary_sums table s)) ss
      ≡ map (λ (p : Procedure). capped (procedure_sums ps table p)) ps
