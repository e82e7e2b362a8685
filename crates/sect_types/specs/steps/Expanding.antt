-- How far an expansion has come.
use Rattle.std.specs.Prelude.{◌≡◌, ◌≤◌, ◌+◌, ◌*◌, ℕ, ⊤, List, [], ◌∷◌, ◌++◌, map, length, slice_get, Option, Some}
use Rattle.std.specs.Prelude.{IsSome}
use Rattle.sect_front.specs.{declared.tree.Thread.{Thread}, TreeView.{TreeView}, declared.tree.Record.{Record}}
use Rattle.sect_front.specs.{declared.tree.GlobalObject.{GlobalObject}, declared.tree.Procedure.{Procedure}}
use Rattle.sect_front.specs.{Syntax.{StatementView, BlockView}, Trees.{block_size}}
use Rattle.sect_types.specs.Limits.{most_locals, most_all_locals, most_sites, most_sections, most_calls}
use Rattle.sect_types.specs.{Rules.{sight}, declared.expansion.expand.Fresh.{Fresh}}
use Rattle.sect_types.specs.Expanded.{block_sections, fresh_in, Scene, NextNumbers, past_statement, past_block}
use Rattle.sect_types.specs.Expanded.{statement_fresh, block_fresh, fresh_within, expanded_statement, expanded_block}
use Rattle.sect_types.specs.Expanded.{expand_within, expanded_threads}
use Rattle.sect_types.specs.{declared.declarations.shown.Shown.{Shown}, Statements.{TextView, joined}}
use Rattle.sect_types.specs.Sums.{sums_within, statement_sums, block_sums}
use Rattle.sect_types.specs.steps.Written.{written_threads, written_texts, written_statement}
use Rattle.sect_types.specs.steps.{Written.{written_block, written_within}, Shown.{Shows}}
use Rattle.sect_types.specs.steps.Threads.{VariablesView, variables_shown}

-- what all threads see
pub record SettingView : Type 0 where
  pub records : List Record
  pub globals : List GlobalObject
  pub procedures : List Procedure

-- no body of a procedure has a section
abbrev pub AreFlat : List Procedure → Type 0
AreFlat ps = (q : ℕ) (p : Procedure) → slice_get ps q ≡ Some p → block_sections p.body ≡ 0

abbrev pub setting_of : TreeView → SettingView
setting_of t = record { records = t.records; globals = t.globals; procedures = t.procedures }

-- the names are those of the tree, and the variables those of its procedures
pub record IsSetting (t : TreeView) (shown : Shown) (procedures : List Procedure) (variables : List VariablesView) :
    Type 0 where
  pub shows : Shows shown t
  pub of_procedures : procedures ≡ t.procedures
  pub of_variables : variables ≡ map variables_shown t.procedures
  pub flat : AreFlat t.procedures

-- the next site, section and fresh local, the number of the next call of the thread, and its fresh locals
pub record FrontView : Type 0 where
  pub at : NextNumbers
  pub calls : ℕ
  pub fresh : List Fresh

-- all is within the limits
pub record Fits (f : FrontView) : Type 0 where
  pub few_sites : f.at.sites ≤ most_sites
  pub few_sections : f.at.sections ≤ most_sections
  pub few_locals : f.at.fresh ≤ most_all_locals
  pub few_calls : f.calls ≤ most_calls

-- past a statement, where calls stand in one another at most n deep
abbrev pub front_past_statement : SettingView → ℕ → FrontView → StatementView → FrontView
front_past_statement w n f s = record {
  at = past_statement w.procedures (sums_within n w.procedures) f.at s;
  calls = f.calls + (statement_sums w.procedures (sums_within n w.procedures) s).calls;
  fresh = f.fresh ++ statement_fresh w.procedures (sums_within n w.procedures) (fresh_within n w.procedures) f.calls s;
}

abbrev pub front_past_block : SettingView → ℕ → FrontView → BlockView → FrontView
front_past_block w n f b = record {
  at = past_block w.procedures (sums_within n w.procedures) f.at b;
  calls = f.calls + (block_sums w.procedures (sums_within n w.procedures) b).calls;
  fresh = f.fresh ++ block_fresh w.procedures (sums_within n w.procedures) (fresh_within n w.procedures) f.calls b;
}

-- the statement that is expanded, and what follows it
abbrev pub expanded_there : SettingView → ℕ → Scene → FrontView → StatementView → TextView → TextView
expanded_there w n v f s k =
    written_statement w.procedures (sums_within n w.procedures) (written_within n w.records w.globals w.procedures) v
    f.at s k

abbrev pub block_there : SettingView → ℕ → Scene → FrontView → BlockView → TextView
block_there w n v f b =
    written_block w.procedures (sums_within n w.procedures) (written_within n w.records w.globals w.procedures) v f.at b

-- the same by numbers, if all names are known
abbrev pub numbered_there : SettingView → ℕ → Scene → FrontView → StatementView → Option TextView
numbered_there w n v f s =
    expanded_statement w.procedures (sums_within n w.procedures) (expand_within n w.records w.globals w.procedures) v
    f.at s

abbrev pub numbered_block : SettingView → ℕ → Scene → FrontView → BlockView → Option TextView
numbered_block w n v f b =
    expanded_block w.procedures (sums_within n w.procedures) (expand_within n w.records w.globals w.procedures) v f.at b

-- where a thread begins
abbrev pub thread_start : ℕ → ℕ → Thread → FrontView
thread_start sites sections h = record {
  at = record { sites = sites; sections = sections; fresh = length h.locals };
  calls = 0;
  fresh = [];
}

abbrev pub thread_end : SettingView → ℕ → ℕ → Thread → FrontView
thread_end w sites sections h = front_past_block w (length w.procedures) (thread_start sites sections h) h.body

abbrev pub thread_text : SettingView → ℕ → ℕ → Thread → TextView
thread_text w sites sections h =
    block_there w (length w.procedures) (record { sight = sight w.records w.globals h.locals; first = 0 })
    (thread_start sites sections h) h.body

abbrev pub numbered_thread : SettingView → ℕ → ℕ → Thread → Option TextView
numbered_thread w sites sections h =
    numbered_block w (length w.procedures) (record { sight = sight w.records w.globals h.locals; first = 0 })
    (thread_start sites sections h) h.body

-- the expansion of each thread is within the limits
abbrev pub AllFit : SettingView → ℕ → ℕ → List Thread → Type 0
AllFit w sites sections [] = ⊤
AllFit w sites sections (h ∷ hs) =
    (length h.locals ≤ most_locals) × Fits (thread_end w sites sections h)
    × AllFit w (thread_end w sites sections h).at.sites (thread_end w sites sections h).at.sections hs

abbrev pub tree_of : SettingView → List Thread → TreeView
tree_of w hs = record { records = w.records; globals = w.globals; procedures = w.procedures; threads = hs }

-- more than twice the blocks of any procedure
abbrev pub most_size : List Procedure → ℕ
most_size [] = 3
most_size (p ∷ ps) = most_size ps + 2 * block_size p.body

-- the statements `rest` of `all` are left
pub record IsFront (w : SettingView) (n : ℕ) (v : Scene) (block all rest : BlockView) (old now : FrontView)
    (before text : TextView) : Type 0 where
  pub whole : all ≡ block
  pub written : (k : TextView)
      → joined text (joined (block_there w n v now rest) k) ≡ joined before (joined (block_there w n v old block) k)
  pub past : front_past_block w n now rest ≡ front_past_block w n old block
  pub known : IsSome (numbered_block w n v now rest)

-- the threads `rest` are left, before which these texts were written and these fresh locals listed
pub record AreWritten (w : SettingView) (all rest : List Thread) (sites sections : ℕ) (texts : List TextView)
    (fresh : List (List Fresh)) : Type 0 where
  pub written : texts ++ written_threads (tree_of w all) (record { sites = sites; sections = sections; fresh = 0 })
      rest
      ≡ written_texts (tree_of w all)
  pub listed : fresh ++ map (fresh_in (tree_of w all)) rest ≡ map (fresh_in (tree_of w all)) all
  pub fits : AllFit w sites sections rest
  pub known : IsSome (expanded_threads (tree_of w all) (record { sites = sites; sections = sections; fresh = 0 }) rest)
