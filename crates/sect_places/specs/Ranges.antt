-- Which tokens of a text each item has, by their numbers. Each list is given before that of what follows.
use Rattle.std.specs.Prelude.{ℕ, ◌+◌, ◌-◌, ◌*◌, ◌<◌, ◌≤◌, List, [], ◌∷◌, length, ⊤}
use Rattle.sect_front.specs.TreeView.{TreeView}
use Rattle.sect_front.specs.Syntax.{StatementView, BlockView, Primitive, If, IfElse, While, Atomic, Call, End, Then}
use Rattle.sect_front.specs.{declared.tree.Declaration.{Declaration}, declared.tree.Record.{Record}}
use Rattle.sect_front.specs.{declared.tree.GlobalObject.{GlobalObject}, declared.tree.Procedure.{Procedure}}
use Rattle.sect_front.specs.declared.tree.Thread.{Thread}
use Rattle.sect_places.specs.declared.range.TokenRange.{TokenRange}
use Rattle.sect_places.specs.Counts.{primitive_count, locking_count, operands_count, parameters_count, test_count}
use Rattle.sect_places.specs.Counts.{statement_count, block_count, record_count, procedure_count, thread_count}
use Rattle.sect_places.specs.Counts.{records_count, procedures_count}

abbrev pub range : ℕ → ℕ → TokenRange
range first count = record { first = first; count = count }

-- each has a token at least, and all of them are among so many
abbrev pub AreAmong : ℕ → List TokenRange → Type 0
AreAmong total [] = ⊤
AreAmong total (r ∷ rs) = (0 < r.count) × (r.first + r.count ≤ total) × AreAmong total rs

abbrev mutual
  -- of a statement whose first token has the number n: a statement without a block, or a call, but for its `;`; an `if`
  -- or a `while` as far as the `)`; `atomic`, and `all` where it stands
  pub statement_ranges : ℕ → StatementView → List TokenRange → List TokenRange
  statement_ranges n (Primitive p) w = range n (primitive_count p - 1) ∷ w
  statement_ranges n (If t a) w = range n 6 ∷ block_ranges (n + test_count) a w
  statement_ranges n (IfElse t a b) w =
      range n 6 ∷ block_ranges (n + test_count) a (block_ranges (n + test_count + block_count a + 3) b w)
  statement_ranges n (While t a) w = range n 6 ∷ block_ranges (n + test_count) a w
  statement_ranges n (Atomic l a) w = range n (1 + locking_count l) ∷ block_ranges (n + (1 + locking_count l) + 1) a w
  statement_ranges n (Call f vs) w = range n (4 + operands_count vs) ∷ w

  pub block_ranges : ℕ → BlockView → List TokenRange → List TokenRange
  block_ranges n End w = w
  block_ranges n (Then s b) w = statement_ranges n s (block_ranges (n + statement_count s) b w)

-- a type and a name each, and one sign behind
abbrev pub declarations_ranges : ℕ → List Declaration → List TokenRange → List TokenRange
declarations_ranges n [] w = w
declarations_ranges n (d ∷ ds) w = range n 2 ∷ declarations_ranges (n + 3) ds w

-- `record NAME`, and the fields
abbrev pub record_ranges : ℕ → Record → List TokenRange → List TokenRange
record_ranges n r w = range n 2 ∷ declarations_ranges (n + 2 + 2 * length r.hints + 1) r.fields w

-- `global NAME NAME`
abbrev pub global_ranges : ℕ → GlobalObject → List TokenRange → List TokenRange
global_ranges n g w = range n 3 ∷ w

-- `proc NAME`, the parameters, the locals and the statements
abbrev pub procedure_ranges : ℕ → Procedure → List TokenRange → List TokenRange
procedure_ranges n p w =
    range n 2 ∷ declarations_ranges (n + 3) p.parameters
    (declarations_ranges (n + 3 + parameters_count p.parameters + 2) p.locals
    (block_ranges (n + 3 + parameters_count p.parameters + 2 + 3 * length p.locals) p.body w))

-- `thread NAME`, the locals and the statements
abbrev pub thread_ranges : ℕ → Thread → List TokenRange → List TokenRange
thread_ranges n t w =
    range n 2 ∷ declarations_ranges (n + 3) t.locals (block_ranges (n + 3 + 3 * length t.locals) t.body w)

abbrev pub records_ranges : ℕ → List Record → List TokenRange → List TokenRange
records_ranges n [] w = w
records_ranges n (r ∷ rs) w = record_ranges n r (records_ranges (n + record_count r) rs w)

abbrev pub globals_ranges : ℕ → List GlobalObject → List TokenRange → List TokenRange
globals_ranges n [] w = w
globals_ranges n (g ∷ gs) w = global_ranges n g (globals_ranges (n + 4) gs w)

abbrev pub procedures_ranges : ℕ → List Procedure → List TokenRange → List TokenRange
procedures_ranges n [] w = w
procedures_ranges n (p ∷ ps) w = procedure_ranges n p (procedures_ranges (n + procedure_count p) ps w)

abbrev pub threads_ranges : ℕ → List Thread → List TokenRange → List TokenRange
threads_ranges n [] w = w
threads_ranges n (t ∷ ts) w = thread_ranges n t (threads_ranges (n + thread_count t) ts w)

-- the tokens of each item of a text, in the order of the items
abbrev pub item_tokens : TreeView → List TokenRange
item_tokens t =
    records_ranges 0 t.records
    (globals_ranges (0 + records_count t.records) t.globals
    (procedures_ranges (0 + records_count t.records + 4 * length t.globals) t.procedures
    (threads_ranges (0 + records_count t.records + 4 * length t.globals + procedures_count t.procedures) t.threads [])))
