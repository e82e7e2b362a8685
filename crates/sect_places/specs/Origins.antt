-- Which item of a text each node of its program comes from. A call is expanded: it stands for the assignments to the
-- parameters and locals of its procedure and for the statements of the procedure. Each list is given before that of
-- what follows.
use Rattle.std.specs.Prelude.{ℕ, zero, suc, ◌+◌, List, [], ◌∷◌, length, Option, Some, None, slice_get, slice_index_or}
use Rattle.std.specs.Option.{option_or}
use Rattle.sect_front.specs.TreeView.{TreeView}
use Rattle.sect_front.specs.Syntax.{StatementView, BlockView, Primitive, If, IfElse, While, Atomic, Call, End, Then}
use Rattle.sect_front.specs.{declared.tree.Declaration.{Declaration}, declared.tree.Procedure.{Procedure}}
use Rattle.sect_front.specs.declared.tree.Thread.{Thread}
use Rattle.sect_types.specs.Sums.{number_of}
use Rattle.sect_places.specs.declared.origin.Origin.{Origin}
use Rattle.sect_places.specs.ItemCounts.{items_in_block, items_in_statement, items_in_records, items_in_procedure}
use Rattle.sect_places.specs.ItemCounts.{items_in_procedures, items_in_thread}

-- from the item n, in the expansion of that call of the thread, if in one
abbrev pub origin : Option ℕ → ℕ → Origin
origin call n = record { item = n; call = call }

-- what stands for a call of the procedure of that number, in the expansion of that call of the thread
abbrev pub Expansion : Type 0 → Type 0
Expansion A = Option ℕ → Option ℕ → List A → List A

-- of variables, each of which is set; the first is the item n
abbrev pub variable_origins : Option ℕ → ℕ → List Declaration → List Origin → List Origin
variable_origins call n [] w = w
variable_origins call n (d ∷ ds) w = origin call n ∷ variable_origins call (n + 1) ds w

abbrev mutual
  -- of the nodes of a statement that is the item n, in text order; a section is one node
  pub statement_origins : List Procedure → Expansion Origin → Option ℕ → ℕ → StatementView → List Origin → List Origin
  statement_origins ps expand call n (Primitive p) w = origin call n ∷ w
  statement_origins ps expand call n (If t a) w = origin call n ∷ block_origins ps expand call (n + 1) a w
  statement_origins ps expand call n (IfElse t a b) w =
      origin call n ∷ block_origins ps expand call (n + 1) a
      (block_origins ps expand call (n + 1 + items_in_block a) b w)
  statement_origins ps expand call n (While t a) w = origin call n ∷ block_origins ps expand call (n + 1) a w
  statement_origins ps expand call n (Atomic l a) w = origin call n ∷ w
  statement_origins ps expand call n (Call f vs) w = expand (number_of ps f) (option_or call (Some n)) w

  pub block_origins : List Procedure → Expansion Origin → Option ℕ → ℕ → BlockView → List Origin → List Origin
  block_origins ps expand call n End w = w
  block_origins ps expand call n (Then s b) w =
      statement_origins ps expand call n s (block_origins ps expand call (n + items_in_statement s) b w)

-- of a call of a procedure that is the item n: its parameters, its locals and its statements
abbrev pub procedure_origins : List Procedure → Expansion Origin → Option Procedure → ℕ → Option ℕ → List Origin
    → List Origin
procedure_origins ps expand None n call w = w
procedure_origins ps expand (Some p) n call w =
    variable_origins call (n + 1) p.parameters (variable_origins call (n + 1 + length p.parameters) p.locals
    (block_origins ps expand call (n + 1 + length p.parameters + length p.locals) p.body w))

-- of a call, where the procedures are these items
abbrev pub call_origins : List Procedure → List ℕ → Expansion Origin → Expansion Origin
call_origins ps starts expand None call w = w
call_origins ps starts expand (Some q) call w =
    procedure_origins ps expand (slice_get ps q) (slice_index_or starts q 0) call w

-- of a call, where calls stand in one another at most so deep
abbrev pub origins_within : ℕ → List Procedure → List ℕ → Expansion Origin
origins_within zero ps starts q call w = w
origins_within (suc n) ps starts q call w = call_origins ps starts (origins_within n ps starts) q call w

-- Of the nodes of each section, in the same way. Sections stand in the threads' own statements alone; a list is given
-- for each section of the expanded text, whatever it stands in but another section.
abbrev mutual
  pub statement_sections : List Procedure → Expansion Origin → Expansion (List Origin) → Option ℕ → ℕ → StatementView
      → List (List Origin) → List (List Origin)
  statement_sections ps expand sections call n (Primitive p) w = w
  statement_sections ps expand sections call n (If t a) w = block_sections ps expand sections call (n + 1) a w
  statement_sections ps expand sections call n (IfElse t a b) w =
      block_sections ps expand sections call (n + 1) a
      (block_sections ps expand sections call (n + 1 + items_in_block a) b w)
  statement_sections ps expand sections call n (While t a) w = block_sections ps expand sections call (n + 1) a w
  statement_sections ps expand sections call n (Atomic l a) w = block_origins ps expand call (n + 1) a [] ∷ w
  statement_sections ps expand sections call n (Call f vs) w = sections (number_of ps f) (option_or call (Some n)) w

  pub block_sections : List Procedure → Expansion Origin → Expansion (List Origin) → Option ℕ → ℕ → BlockView
      → List (List Origin) → List (List Origin)
  block_sections ps expand sections call n End w = w
  block_sections ps expand sections call n (Then s b) w =
      statement_sections ps expand sections call n s
      (block_sections ps expand sections call (n + items_in_statement s) b w)

abbrev pub procedure_sections : List Procedure → Expansion Origin → Expansion (List Origin) → Option Procedure → ℕ
    → Option ℕ → List (List Origin) → List (List Origin)
procedure_sections ps expand sections None n call w = w
procedure_sections ps expand sections (Some p) n call w =
    block_sections ps expand sections call (n + 1 + length p.parameters + length p.locals) p.body w

abbrev pub call_sections : List Procedure → List ℕ → Expansion Origin → Expansion (List Origin)
    → Expansion (List Origin)
call_sections ps starts expand sections None call w = w
call_sections ps starts expand sections (Some q) call w =
    procedure_sections ps expand sections (slice_get ps q) (slice_index_or starts q 0) call w

abbrev pub sections_within : ℕ → List Procedure → List ℕ → Expansion (List Origin)
sections_within zero ps starts q call w = w
sections_within (suc n) ps starts q call w =
    call_sections ps starts (origins_within n ps starts) (sections_within n ps starts) q call w

-- the item of each procedure, of which the first is the item n
abbrev pub procedure_items : ℕ → List Procedure → List ℕ
procedure_items n [] = []
procedure_items n (p ∷ ps) = n ∷ procedure_items (n + items_in_procedure p) ps

-- the first item behind the records and globals
abbrev pub first_procedure : TreeView → ℕ
first_procedure t = items_in_records t.records + length t.globals

-- the items of the procedures of a tree
abbrev pub starts_of : TreeView → List ℕ
starts_of t = procedure_items (first_procedure t) t.procedures

-- what stands for a call in a tree: without recursion no chain of calls is longer than there are procedures
abbrev pub expansion : TreeView → Expansion Origin
expansion t = origins_within (length t.procedures) t.procedures (starts_of t)

abbrev pub expanded_sections : TreeView → Expansion (List Origin)
expanded_sections t = sections_within (length t.procedures) t.procedures (starts_of t)

-- of the nodes of each thread, of which the first is the item n
abbrev pub threads_origins : List Procedure → Expansion Origin → ℕ → List Thread → List (List Origin)
    → List (List Origin)
threads_origins ps expand n [] w = w
threads_origins ps expand n (t ∷ ts) w =
    block_origins ps expand None (n + 1 + length t.locals) t.body []
    ∷ threads_origins ps expand (n + items_in_thread t) ts w

-- of the nodes of each of their sections
abbrev pub threads_sections : List Procedure → Expansion Origin → Expansion (List Origin) → ℕ → List Thread
    → List (List Origin) → List (List Origin)
threads_sections ps expand sections n [] w = w
threads_sections ps expand sections n (t ∷ ts) w =
    block_sections ps expand sections None (n + 1 + length t.locals) t.body
    (threads_sections ps expand sections (n + items_in_thread t) ts w)

-- the first item behind the procedures
abbrev pub first_thread : TreeView → ℕ
first_thread t = first_procedure t + items_in_procedures t.procedures

-- of the nodes of each thread and of each section of a tree
abbrev pub thread_origins_of : TreeView → List (List Origin)
thread_origins_of t = threads_origins t.procedures (expansion t) (first_thread t) t.threads []

abbrev pub section_origins_of : TreeView → List (List Origin)
section_origins_of t =
    threads_sections t.procedures (expansion t) (expanded_sections t) (first_thread t) t.threads []
