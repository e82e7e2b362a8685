-- The sums as the code keeps them: counting stops one past each limit.
use Rattle.std.specs.{Prelude.{◌≤◌, ◌+◌, min, List, length}, List.{AllByRecursion}}
use Rattle.sect_front.specs.declared.tree.Procedure.{Procedure}
use Rattle.sect_types.specs.{Limits.{most_locals}, declared.counting.sums.Sums.{Sums}}
use Rattle.sect_types.specs.declared.counting.sums.TheConstants.{PAST_STATEMENTS, PAST_SITES, PAST_CALLS, PAST_DEPTH}

abbrev pub capped : Sums → Sums
capped s = record {
  statements = min s.statements PAST_STATEMENTS;
  sites = min s.sites PAST_SITES;
  calls = min s.calls PAST_CALLS;
  fresh = min s.fresh PAST_STATEMENTS;
  deep = min s.deep PAST_DEPTH;
}

-- none is more than one past its limit
pub record IsSmall (s : Sums) : Type 0 where
  pub statements : s.statements ≤ PAST_STATEMENTS
  pub sites : s.sites ≤ PAST_SITES
  pub calls : s.calls ≤ PAST_CALLS
  pub fresh : s.fresh ≤ PAST_STATEMENTS
  pub deep : s.deep ≤ PAST_DEPTH

abbrev pub AreSmall : List Sums → Type 0
AreSmall table = AllByRecursion IsSmall table

-- each has at most `most_locals` parameters and locals
abbrev pub HaveFewVariables : List Procedure → Type 0
HaveFewVariables ps = AllByRecursion (λ (p : Procedure). length p.parameters + length p.locals ≤ most_locals) ps
