-- Procedures and threads of which the first have been passed.
use Rattle.std.specs.Prelude.{◌≡◌, ◌≤◌, ℕ, ◌+◌, Bool, true, ◌&&◌, nat_le, List, [], ◌∷◌, ◌++◌, map, length}
use Rattle.sect_front.specs.{declared.tree.Declaration.{Declaration}, declared.tree.Procedure.{Procedure}}
use Rattle.sect_front.specs.declared.tree.Thread.{Thread}
use Rattle.sect_types.specs.Limits.{most_locals, most_procedures, most_threads}
use Rattle.sect_types.specs.Sight.{names_of_records, names_of_declared}
use Rattle.sect_types.specs.{Items.{Item, variables, procedure_items, thread_items}, Rules.{Declared, Counts}}
use Rattle.sect_types.specs.steps.{Judging.{judge}, Listing.{all_known, locals_fine}}

-- the variables of a procedure with their names
pub record VariablesView : Type 0 where
  pub list : List Declaration
  pub names : List (List ℕ)

abbrev pub variables_shown : Procedure → VariablesView
variables_shown p = record { list = variables p; names = names_of_declared (variables p) }

-- the variables of each procedure are of known types, and few
abbrev pub variables_fine : List (List ℕ) → List Procedure → Bool
variables_fine records [] = true
variables_fine records (p ∷ ps) =
    (all_known records (variables p) && nat_le (length (variables p)) most_locals) && variables_fine records ps

abbrev pub local_names : List Thread → List (List (List ℕ))
local_names ts = map (λ (t : Thread). names_of_declared t.locals) ts

-- the procedures `rest` of `all` are left
pub record AreProcedures (d : Declared) (all rest : List Procedure) (names : List (List ℕ))
    (scopes : List VariablesView) (old now : Counts) : Type 0 where
  pub walks : (w : List Item)
      → judge d old (procedure_items 0 [] all w) ≡ judge d now (procedure_items (length names) names rest w)
  pub shown : scopes ++ map variables_shown rest ≡ map variables_shown all
  pub few : length names ≤ most_procedures
  pub long : length names + length rest ≡ length all
  pub fine : variables_fine (names_of_records d.records) all ≡ variables_fine (names_of_records d.records) rest

-- the threads `rest` of `all` are left
pub record AreThreads (d : Declared) (all rest : List Thread) (names : List (List ℕ))
    (locals : List (List (List ℕ))) (old now : Counts) : Type 0 where
  pub walks : (w : List Item) → judge d old (thread_items [] all w) ≡ judge d now (thread_items names rest w)
  pub named : locals ++ local_names rest ≡ local_names all
  pub few : length names ≤ most_threads
  pub long : length names + length rest ≡ length all
  pub fine : locals_fine (names_of_records d.records) all ≡ locals_fine (names_of_records d.records) rest
