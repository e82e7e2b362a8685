-- The names of a text, in text order: the item of each, and what it does there. Each list is given before that of what
-- follows.
use Rattle.std.specs.Prelude.{ℕ, ◌+◌, List, [], ◌∷◌, length}
use Rattle.sect_front.specs.TreeView.{TreeView}
use Rattle.sect_front.specs.Syntax.{StatementView, BlockView, Primitive, If, IfElse, While, Atomic, Call, End, Then}
use Rattle.sect_front.specs.{declared.tree.Operand.{Operand}, declared.tree.Test.{Test}, declared.tree.Kind.{Kind}}
use Rattle.sect_front.specs.{declared.tree.Declaration.{Declaration}, declared.tree.Record.{Record}}
use Rattle.sect_front.specs.{declared.tree.GlobalObject.{GlobalObject}, declared.tree.Procedure.{Procedure}}
use Rattle.sect_front.specs.declared.tree.Thread.{Thread}
use Rattle.sect_places.specs.{declared.name_use.NameUse.{NameUse}, declared.name_use.Thing.{Thing}}
use Rattle.sect_places.specs.declared.name_use.Role.{Role}
use Rattle.sect_places.specs.ItemCounts.{items_in_block, items_in_statement, items_in_records, items_in_procedure}
use Rattle.sect_places.specs.{ItemCounts.{items_in_thread}, Origins.{first_procedure, first_thread}}
use Rattle.sect_front.specs.declared.tree.Operand.TheVariants as operand
use Rattle.sect_front.specs.declared.tree.Primitive as leaf
use Rattle.sect_front.specs.declared.tree.Primitive.TheVariants as primitive
use Rattle.sect_front.specs.declared.tree.Kind.TheVariants as kind
use Rattle.sect_places.specs.declared.name_use.Thing.TheVariants as thing
use Rattle.sect_places.specs.declared.name_use.Role.TheVariants as role

-- the name does this in the item n, which stands in the declaration that is the item m
abbrev pub used : ℕ → ℕ → Role → List ℕ → NameUse
used m n r x = record { scope = m; item = n; role = r; name = x }

abbrev pub kind_uses : ℕ → ℕ → Kind → List NameUse → List NameUse
kind_uses m n kind.Int w = w
kind_uses m n (kind.Record r) w = used m n role.Type r ∷ w

abbrev pub operand_uses : ℕ → ℕ → Role → Operand → List NameUse → List NameUse
operand_uses m n r (operand.Number v) w = w
operand_uses m n r operand.Null w = w
operand_uses m n r (operand.Name x) w = used m n r x ∷ w

abbrev pub primitive_uses : ℕ → ℕ → leaf.Primitive → List NameUse → List NameUse
primitive_uses m n (primitive.Assign x v) w = used m n role.Target x ∷ operand_uses m n (role.Operand 0) v w
primitive_uses m n (primitive.Compute x v o u) w =
    used m n role.Target x ∷ operand_uses m n (role.Operand 0) v (operand_uses m n (role.Operand 1) u w)
primitive_uses m n (primitive.New x r) w = used m n role.Target x ∷ used m n role.Type r ∷ w
primitive_uses m n (primitive.Load x y f) w = used m n role.Target x ∷ used m n role.Base y ∷ used m n role.Field f ∷ w
primitive_uses m n (primitive.Store y f v) w =
    used m n role.Base y ∷ used m n role.Field f ∷ operand_uses m n (role.Operand 0) v w
primitive_uses m n (primitive.Print v) w = operand_uses m n (role.Operand 0) v w

abbrev pub test_uses : ℕ → ℕ → Test → List NameUse → List NameUse
test_uses m n t w = operand_uses m n (role.Operand 0) t.left (operand_uses m n (role.Operand 1) t.right w)

-- arguments, of which the first has the number i
abbrev pub argument_uses : ℕ → ℕ → ℕ → List Operand → List NameUse → List NameUse
argument_uses m n i [] w = w
argument_uses m n i (v ∷ vs) w = operand_uses m n (role.Operand i) v (argument_uses m n (i + 1) vs w)

abbrev mutual
  pub statement_uses : ℕ → ℕ → StatementView → List NameUse → List NameUse
  statement_uses m n (Primitive p) w = primitive_uses m n p w
  statement_uses m n (If t a) w = test_uses m n t (block_uses m (n + 1) a w)
  statement_uses m n (IfElse t a b) w =
      test_uses m n t (block_uses m (n + 1) a (block_uses m (n + 1 + items_in_block a) b w))
  statement_uses m n (While t a) w = test_uses m n t (block_uses m (n + 1) a w)
  statement_uses m n (Atomic l a) w = block_uses m (n + 1) a w
  statement_uses m n (Call f vs) w = used m n role.Procedure f ∷ argument_uses m n 0 vs w

  pub block_uses : ℕ → ℕ → BlockView → List NameUse → List NameUse
  block_uses m n End w = w
  block_uses m n (Then s b) w = statement_uses m n s (block_uses m (n + items_in_statement s) b w)

-- of fields, parameters or locals
abbrev pub declarations_uses : ℕ → ℕ → Thing → List Declaration → List NameUse → List NameUse
declarations_uses m n what [] w = w
declarations_uses m n what (d ∷ ds) w =
    kind_uses m n d.kind (used m n (role.Declared what) d.name ∷ declarations_uses m (n + 1) what ds w)

abbrev pub hints_uses : ℕ → List (List ℕ) → List NameUse → List NameUse
hints_uses n [] w = w
hints_uses n (x ∷ xs) w = used n n role.Guard x ∷ hints_uses n xs w

abbrev pub records_uses : ℕ → List Record → List NameUse → List NameUse
records_uses n [] w = w
records_uses n (r ∷ rs) w =
    used n n (role.Declared thing.Record) r.name
    ∷ hints_uses n r.hints (declarations_uses n (n + 1) thing.Field r.fields
    (records_uses (n + (1 + length r.fields)) rs w))

abbrev pub globals_uses : ℕ → List GlobalObject → List NameUse → List NameUse
globals_uses n [] w = w
globals_uses n (g ∷ gs) w =
    used n n role.Type g.of ∷ used n n (role.Declared thing.Global) g.name ∷ globals_uses (n + 1) gs w

abbrev pub procedure_uses : ℕ → Procedure → List NameUse → List NameUse
procedure_uses n p w =
    used n n (role.Declared thing.Procedure) p.name ∷ declarations_uses n (n + 1) thing.Local p.parameters
    (declarations_uses n (n + 1 + length p.parameters) thing.Local p.locals
    (block_uses n (n + 1 + length p.parameters + length p.locals) p.body w))

abbrev pub procedures_uses : ℕ → List Procedure → List NameUse → List NameUse
procedures_uses n [] w = w
procedures_uses n (p ∷ ps) w = procedure_uses n p (procedures_uses (n + items_in_procedure p) ps w)

abbrev pub thread_uses : ℕ → Thread → List NameUse → List NameUse
thread_uses n t w =
    used n n (role.Declared thing.Thread) t.name
    ∷ declarations_uses n (n + 1) thing.Local t.locals (block_uses n (n + 1 + length t.locals) t.body w)

abbrev pub threads_uses : ℕ → List Thread → List NameUse → List NameUse
threads_uses n [] w = w
threads_uses n (t ∷ ts) w = thread_uses n t (threads_uses (n + items_in_thread t) ts w)

-- of a tree
abbrev pub name_uses : TreeView → List NameUse
name_uses t =
    records_uses 0 t.records (globals_uses (items_in_records t.records) t.globals
    (procedures_uses (first_procedure t) t.procedures (threads_uses (first_thread t) t.threads [])))
