-- What a walk through a whole tree tells.
use Rattle.std.specs.Prelude.{◌≡◌, ◌≤◌, true, length}
use Rattle.sect_front.specs.{TreeView.{TreeView}, Depth.{threads_depth}, Limits.{most_depth}}
use Rattle.sect_types.specs.Limits.{most_globals, most_procedures, most_records, most_threads}
use Rattle.sect_types.specs.{Sight.{names_of_records}, Items.{items}, Rules.{Counts, declared_in}, First.{none_yet}}
use Rattle.sect_types.specs.steps.{Judging.{judge, Fine}, Listing.{fields_fine, globals_known, locals_fine}}
use Rattle.sect_types.specs.steps.Threads.{variables_fine}

-- what a walk through all items has told: that none breaks a rule, the counts at the end, and that all is few, known
-- and shallow
pub record IsCounted (t : TreeView) (end : Counts) : Type 0 where
  pub fine : judge (declared_in t) none_yet (items t) ≡ Fine end
  pub few_records : length t.records ≤ most_records
  pub fine_fields : fields_fine (names_of_records t.records) t.records ≡ true
  pub few_globals : length t.globals ≤ most_globals
  pub known_globals : globals_known (names_of_records t.records) t.globals ≡ true
  pub few_procedures : length t.procedures ≤ most_procedures
  pub fine_variables : variables_fine (names_of_records t.records) t.procedures ≡ true
  pub few_threads : length t.threads ≤ most_threads
  pub fine_locals : locals_fine (names_of_records t.records) t.threads ≡ true
  pub shallow : threads_depth t.threads ≤ most_depth
