-- Programs.
use Rattle.std.specs.Prelude.{◌≡◌, ◌≤◌, ◌<◌, ℕ, ◌+◌, List, [], ◌∷◌, ◌++◌, length, All, Some, slice_index_or}
use Rattle.sect_front.specs.{TreeView.{TreeView}, Limits.{most_depth}, declared.tree.Procedure.{Procedure}}
use Rattle.sect_front.specs.{declared.tree.Thread.{Thread}, declared.tree.Locking.{Locking}}
use Rattle.sect_types.specs.Limits.{most_records, most_fields, most_globals, most_threads, most_calls, most_all_locals}
use Rattle.sect_types.specs.{Limits.{most_statements, most_sites, most_sections}, Sums.{sums, block_sums}}
use Rattle.sect_types.specs.{declared.declarations.types.ValueType.{ValueType}, Sight.{names_of_records}}
use Rattle.sect_types.specs.{Statements.{TextView, statement_count, text_depth, made_in}, Lockings.{lockings_of}}
use Rattle.sect_types.specs.Expanded.{texts_of, all_local_types}
use Rattle.sect_types.specs.{Environments.{Environment, field_types, global_records, IsInRange}, Sound.{AreSound}}
use Rattle.sect_types.specs.{Sections.{sections_of, AllNumbered, AllSited}, First.{IsTyped}}

-- a program: its tree; the types of the fields of each record; the record of each global; the types of the locals of
-- each thread, the fresh ones after its own; the expanded text of each thread; which locks each section takes
pub record ProgramView : Type 0 where
  pub source : TreeView
  pub records : List (List ValueType)
  pub globals : List ℕ
  pub locals : List (List ValueType)
  pub texts : List TextView
  pub lockings : List Locking

-- what the statements of a thread see
abbrev pub environment_at : ProgramView → ℕ → Environment
environment_at p t = record { records = p.records; globals = p.globals; locals = slice_index_or p.locals t [] }

-- how many statements the texts have together
abbrev pub total_statements : List TextView → ℕ
total_statements [] = 0
total_statements (p ∷ ps) = statement_count p + total_statements ps

-- how many calls are met in expanding these threads, those in the bodies of the called procedures counted
abbrev pub calls_met : List Procedure → List Thread → ℕ
calls_met ps [] = 0
calls_met ps (t ∷ ts) = (block_sums ps (sums ps) t.body).calls + calls_met ps ts

-- the records of the `new` statements of the texts, in text order
abbrev pub all_made : List TextView → List ℕ
all_made [] = []
all_made (p ∷ ps) = made_in p ++ all_made ps

-- the record of each site: of the globals, then of the `new` statements in text order
abbrev pub sites_of : List ℕ → List TextView → List ℕ
sites_of globals texts = globals ++ all_made texts

-- the counts are within the limits; the braces of a thread are a block too
pub record IsWithinLimits (p : ProgramView) : Type 0 where
  pub few_records : length p.records ≤ most_records
  pub few_fields : All (λ (ts : List ValueType). length ts ≤ most_fields) p.records
  pub few_globals : length p.globals ≤ most_globals
  pub few_threads : length p.texts ≤ most_threads
  pub as_many : length p.locals ≡ length p.texts
  pub few_locals : All (λ (ts : List ValueType). length ts ≤ most_all_locals) p.locals
  pub few_statements : total_statements p.texts ≤ most_statements
  pub few_sections : length (sections_of p.texts) ≤ most_sections
  pub few_sites : length (sites_of p.globals p.texts) ≤ most_sites
  pub few_calls : calls_met p.source.procedures p.source.threads ≤ most_calls
  pub shallow : All (λ (text : TextView). 1 + text_depth text ≤ most_depth) p.texts

-- each reference has its record
pub record AreRecordsThere (p : ProgramView) : Type 0 where
  pub of_fields : All (λ (ts : List ValueType). All (IsInRange (length p.records)) ts) p.records
  pub of_globals : All (λ (r : ℕ). r < length p.records) p.globals
  pub of_locals : All (λ (ts : List ValueType). All (IsInRange (length p.records)) ts) p.locals

-- the numbers are those of the tree
pub record IsOfTree (p : ProgramView) : Type 0 where
  pub records_are : p.records ≡ field_types (names_of_records p.source.records) p.source.records
  pub globals_are : p.globals ≡ global_records (names_of_records p.source.records) p.source.globals
  pub locals_are : p.locals ≡ all_local_types p.source
  pub texts_are : texts_of p.source ≡ Some p.texts
  pub lockings_are : p.lockings ≡ lockings_of p.source

-- what the tree's typing means for the numbers
pub record IsWellNumbered (p : ProgramView) (sections sites statements : ℕ) : Type 0 where
  pub of_tree : IsOfTree p
  pub sound : AreSound p.records p.globals p.locals p.texts
  pub records_there : AreRecordsThere p
  pub limits : IsWithinLimits p
  pub numbered : AllNumbered 0 p.texts
  pub sited : AllSited (length p.globals) p.texts
  pub as_many_lockings : length p.lockings ≡ length (sections_of p.texts)
  pub section_count : sections ≡ length (sections_of p.texts)
  pub site_count : sites ≡ length (sites_of p.globals p.texts)
  pub statement_count : statements ≡ total_statements p.texts

abbrev pub numbered_by : TreeView → List (List ValueType) → List ℕ → List (List ValueType) → List TextView
    → List Locking → ProgramView
numbered_by source records globals locals texts lockings =
    record {
      source = source;
      records = records;
      globals = globals;
      locals = locals;
      texts = texts;
      lockings = lockings;
    }

-- its tree is typed, and the numbers are the tree's
pub record IsProgram (p : ProgramView) (sections sites statements : ℕ) : Type 0 where
  pub typed : IsTyped p.source
  pub numbers : IsWellNumbered p sections sites statements
