-- What is written while a text is expanded.
use Rattle.std.specs.Prelude.{◌≡◌, ◌≤◌, ℕ, true, ◌+◌, List, [], ◌∷◌, ◌++◌, ⊤, length, slice_get, Option}
use Rattle.std.specs.Prelude.{Some, None}
use Rattle.sect_front.specs.{declared.tree.Operand.{Operand}, declared.tree.Procedure.{Procedure}}
use Rattle.sect_front.specs.{declared.tree.Thread.{Thread}, TreeView.{TreeView}, Syntax.{StatementView, BlockView}}
use Rattle.sect_front.specs.Trees.{block_size}
use Rattle.sect_types.specs.Limits.{most_calls, most_locals, most_all_locals, most_sites, most_sections}
use Rattle.sect_types.specs.{declared.counting.sums.Sums.{Sums}, declared.expansion.action.Value.{Value}}
use Rattle.sect_types.specs.{Sight.{Sight, operand_of}, Sums.{sums, sums_within, block_sums}}
use Rattle.sect_types.specs.Statements.{TextView, joined}
use Rattle.sect_types.specs.Expanded.{Scene, NextNumbers, block_sections, fresh_in, past_thread}
use Rattle.sect_types.specs.steps.{Listing.{all_known}, FreshTypes.{fresh_known}}
use Rattle.sect_types.specs.steps.Written.{Writer, argument_in, written_statement, written_block, written_within}
use Rattle.sect_types.specs.steps.Written.{written_threads, written_texts}
use Rattle.sect_types.specs.declared.expansion.action.Value.TheVariants as value

-- the new text is the old one, then what the function puts before what follows
abbrev pub Appends : TextView → TextView → (TextView → TextView) → Type 0
Appends old new f = (k : TextView) → joined new k ≡ joined old (f k)

-- between two positions stands what comes to these sums, and so many sections
pub record IsPast (old new : NextNumbers) (s : Sums) (sections : ℕ) : Type 0 where
  pub of_sites : new.sites ≡ old.sites + s.sites
  pub of_sections : new.sections ≡ old.sections + sections
  pub of_fresh : new.fresh ≡ old.fresh + s.fresh

-- behind it the limits aren't passed
pub record HasRoom (a : NextNumbers) (s : Sums) (sections : ℕ) : Type 0 where
  pub for_sites : a.sites + s.sites ≤ most_sites
  pub for_sections : a.sections + sections ≤ most_sections
  pub for_fresh : a.fresh + s.fresh ≤ most_all_locals

-- what a call comes to, and what is put in its place, where calls stand in one another at most n deep
abbrev pub table_by : TreeView → ℕ → List Sums
table_by t n = sums_within n t.procedures

abbrev pub calls_by : TreeView → ℕ → Writer
calls_by t n = written_within n t.records t.globals t.procedures

abbrev pub view_of : Sight → ℕ → Scene
view_of s n = record { sight = s; first = n }

abbrev pub statement_by : TreeView → ℕ → Sight → ℕ → NextNumbers → StatementView → TextView → TextView
statement_by t n s first a f k = written_statement t.procedures (table_by t n) (calls_by t n) (view_of s first) a f k

abbrev pub block_by : TreeView → ℕ → Sight → ℕ → NextNumbers → BlockView → TextView
block_by t n s first a b = written_block t.procedures (table_by t n) (calls_by t n) (view_of s first) a b

-- how many statements with blocks all bodies have
abbrev pub total_size : List Procedure → ℕ
total_size [] = 0
total_size (p ∷ ps) = block_size p.body + total_size ps

-- the statements `rest` are left of a block
pub record IsExpanding (t : TreeView) (n : ℕ) (s : Sight) (first : ℕ) (block all rest : BlockView)
    (old now : NextNumbers) (before text : TextView) : Type 0 where
  pub whole : all ≡ block
  pub written : (k : TextView)
      → joined text (joined (block_by t n s first now rest) k) ≡ joined before
      (joined (block_by t n s first old block) k)
  pub past : (e : NextNumbers) → IsPast now e (block_sums t.procedures (table_by t n) rest) (block_sections rest)
      → IsPast old e (block_sums t.procedures (table_by t n) block) (block_sections block)
  pub room : HasRoom now (block_sums t.procedures (table_by t n) rest) (block_sections rest)

-- an argument, where there is one
abbrev pub argument_of : Scene → Option Operand → Value
argument_of v None = value.Null
argument_of v (Some u) = argument_in v.first (operand_of v.sight u)

-- the argument at an index; where there is none this says nothing
abbrev pub argument_at : Scene → List Operand → ℕ → Value
argument_at v vs i = argument_of v (slice_get vs i)

-- before the body of a thread
abbrev pub at_thread : NextNumbers → Thread → NextNumbers
at_thread a h = record a { fresh = length h.locals }

-- the expanded texts of these threads pass no limit
abbrev pub RoomFor : TreeView → NextNumbers → List Thread → Type 0
RoomFor t a [] = ⊤
RoomFor t a (h ∷ hs) =
    (length h.locals ≤ most_locals)
    × HasRoom (at_thread a h) (block_sums t.procedures (sums t.procedures) h.body) (block_sections h.body)
    × RoomFor t (past_thread t a h) hs

-- the threads `rest` are left, before which these texts were written
pub record AreExpanded (t : TreeView) (now : NextNumbers) (rest : List Thread) (texts : List TextView) : Type 0 where
  pub written : texts ++ written_threads t now rest ≡ written_texts t
  pub room : RoomFor t now rest

-- all types of a thread's locals are known, and its calls are within the limit
pub record IsReadyForTypes (t : TreeView) (records : List (List ℕ)) (h : Thread) : Type 0 where
  pub known : all_known records h.locals ≡ true
  pub known_fresh : fresh_known records (fresh_in t h) ≡ true
  pub room : (block_sums t.procedures (sums t.procedures) h.body).calls ≤ most_calls

abbrev pub AllReadyForTypes : TreeView → List (List ℕ) → List Thread → Type 0
AllReadyForTypes t records [] = ⊤
AllReadyForTypes t records (h ∷ hs) = IsReadyForTypes t records h × AllReadyForTypes t records hs
