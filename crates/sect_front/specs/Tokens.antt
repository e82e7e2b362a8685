-- The tokens of a part of a tree, before those of what follows it.
use Rattle.std.specs.Prelude.{List, [], ◌∷◌, ℕ}
use Rattle.sect_front.specs.Syntax.{StatementView, BlockView, Primitive, If, IfElse, While, Atomic, Call, End, Then}
use Rattle.sect_front.specs.{TreeView.{TreeView}, Grammar.{operand_token, operator_token, comparison_token, kind_token}}
use Rattle.sect_front.specs.{declared.token.Token.{Token}, declared.tree.Operand.{Operand}, declared.tree.Test.{Test}}
use Rattle.sect_front.specs.{declared.tree.Locking.{Locking}, declared.tree.Declaration.{Declaration}}
use Rattle.sect_front.specs.{declared.tree.Record.{Record}, declared.tree.GlobalObject.{GlobalObject}}
use Rattle.sect_front.specs.{declared.tree.Procedure.{Procedure}, declared.tree.Thread.{Thread}}
use Rattle.sect_front.specs.declared.token.Token.TheVariants as token
use Rattle.sect_front.specs.declared.tree.Primitive as leaf
use Rattle.sect_front.specs.declared.tree.Primitive.TheVariants as primitive
use Rattle.sect_front.specs.declared.tree.Locking.TheVariants as locking

abbrev pub primitive_tokens : leaf.Primitive → List Token → List Token
primitive_tokens (primitive.Assign x v) w = token.Name x ∷ token.Equal ∷ operand_token v ∷ token.Semicolon ∷ w
primitive_tokens (primitive.Compute x v o u) w =
    token.Name x ∷ token.Equal ∷ operand_token v ∷ operator_token o ∷ operand_token u ∷ token.Semicolon ∷ w
primitive_tokens (primitive.New x r) w = token.Name x ∷ token.Equal ∷ token.New ∷ token.Name r ∷ token.Semicolon ∷ w
primitive_tokens (primitive.Load x y f) w =
    token.Name x ∷ token.Equal ∷ token.Name y ∷ token.Dot ∷ token.Name f ∷ token.Semicolon ∷ w
primitive_tokens (primitive.Store y f v) w =
    token.Name y ∷ token.Dot ∷ token.Name f ∷ token.Equal ∷ operand_token v ∷ token.Semicolon ∷ w
primitive_tokens (primitive.Print v) w = token.Print ∷ operand_token v ∷ token.Semicolon ∷ w

abbrev pub test_tokens : Test → List Token → List Token
test_tokens t w =
    token.OpenParen ∷ operand_token t.left ∷ comparison_token t.comparison ∷ operand_token t.right ∷ token.CloseParen
    ∷ w

abbrev pub locking_tokens : Locking → List Token → List Token
locking_tokens locking.Inferred w = w
locking_tokens locking.All w = token.All ∷ w

-- further arguments, each behind a comma
abbrev pub more_operands : List Operand → List Token → List Token
more_operands [] w = w
more_operands (v ∷ vs) w = token.Comma ∷ operand_token v ∷ more_operands vs w

abbrev pub operands_tokens : List Operand → List Token → List Token
operands_tokens [] w = w
operands_tokens (v ∷ vs) w = operand_token v ∷ more_operands vs w

abbrev pub call_tokens : List ℕ → List Operand → List Token → List Token
call_tokens f vs w =
    token.Call ∷ token.Name f ∷ token.OpenParen ∷ operands_tokens vs (token.CloseParen ∷ token.Semicolon ∷ w)

abbrev mutual
  pub statement_tokens : StatementView → List Token → List Token
  statement_tokens (Primitive p) w = primitive_tokens p w
  statement_tokens (If t a) w = token.If ∷ test_tokens t (token.OpenBrace ∷ block_tokens a (token.CloseBrace ∷ w))
  statement_tokens (IfElse t a b) w =
      token.If ∷ test_tokens t (token.OpenBrace
      ∷ block_tokens a (token.CloseBrace ∷ token.Else ∷ token.OpenBrace ∷ block_tokens b (token.CloseBrace ∷ w)))
  statement_tokens (While t a) w = token.While ∷ test_tokens t (token.OpenBrace ∷ block_tokens a (token.CloseBrace ∷ w))
  statement_tokens (Atomic l a) w = token.Atomic
      ∷ locking_tokens l (token.OpenBrace ∷ block_tokens a (token.CloseBrace ∷ w))
  statement_tokens (Call f vs) w = call_tokens f vs w

  pub block_tokens : BlockView → List Token → List Token
  block_tokens End w = w
  block_tokens (Then s b) w = statement_tokens s (block_tokens b w)

abbrev pub declarations_tokens : List Declaration → List Token → List Token
declarations_tokens [] w = w
declarations_tokens (d ∷ ds) w =
    kind_token d.kind ∷ token.Name d.name ∷ token.Semicolon ∷ declarations_tokens ds w

abbrev pub hints_tokens : List (List ℕ) → List Token → List Token
hints_tokens [] w = w
hints_tokens (n ∷ ns) w = token.ProtectedBy ∷ token.Name n ∷ hints_tokens ns w

abbrev pub record_tokens : Record → List Token → List Token
record_tokens r w =
    token.Record ∷ token.Name r.name
    ∷ hints_tokens r.hints (token.OpenBrace ∷ declarations_tokens r.fields (token.CloseBrace ∷ w))

abbrev pub global_tokens : GlobalObject → List Token → List Token
global_tokens g w = token.Global ∷ token.Name g.of ∷ token.Name g.name ∷ token.Semicolon ∷ w

-- further parameters, each behind a comma
abbrev pub more_parameters : List Declaration → List Token → List Token
more_parameters [] w = w
more_parameters (d ∷ ds) w = token.Comma ∷ kind_token d.kind ∷ token.Name d.name ∷ more_parameters ds w

abbrev pub parameters_tokens : List Declaration → List Token → List Token
parameters_tokens [] w = w
parameters_tokens (d ∷ ds) w = kind_token d.kind ∷ token.Name d.name ∷ more_parameters ds w

abbrev pub procedure_tokens : Procedure → List Token → List Token
procedure_tokens p w =
    token.Proc ∷ token.Name p.name ∷ token.OpenParen
    ∷ parameters_tokens p.parameters (token.CloseParen ∷ token.OpenBrace
    ∷ declarations_tokens p.locals (block_tokens p.body (token.CloseBrace ∷ w)))

abbrev pub thread_tokens : Thread → List Token → List Token
thread_tokens t w =
    token.Thread ∷ token.Name t.name ∷ token.OpenBrace
    ∷ declarations_tokens t.locals (block_tokens t.body (token.CloseBrace ∷ w))

abbrev pub records_tokens : List Record → List Token → List Token
records_tokens [] w = w
records_tokens (r ∷ rs) w = record_tokens r (records_tokens rs w)

abbrev pub globals_tokens : List GlobalObject → List Token → List Token
globals_tokens [] w = w
globals_tokens (g ∷ gs) w = global_tokens g (globals_tokens gs w)

abbrev pub procedures_tokens : List Procedure → List Token → List Token
procedures_tokens [] w = w
procedures_tokens (p ∷ ps) w = procedure_tokens p (procedures_tokens ps w)

abbrev pub threads_tokens : List Thread → List Token → List Token
threads_tokens [] w = w
threads_tokens (t ∷ ts) w = thread_tokens t (threads_tokens ts w)

abbrev pub source_tokens : TreeView → List Token → List Token
source_tokens s w =
    records_tokens s.records (globals_tokens s.globals (procedures_tokens s.procedures (threads_tokens s.threads w)))
