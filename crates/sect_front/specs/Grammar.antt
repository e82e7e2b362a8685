-- The tokens of a tree, rule by rule as the grammar has them.
use Rattle.std.specs.{Prelude.{List, [], ◌∷◌, ◌++◌, ℕ}, List.{flat_map}}
use Rattle.sect_front.specs.Syntax.{StatementView, BlockView, Primitive, If, IfElse, While, Atomic, Call, End, Then}
use Rattle.sect_front.specs.{TreeView.{TreeView}, declared.token.Token.{Token}, declared.tree.Operand.{Operand}}
use Rattle.sect_front.specs.{declared.tree.Comparison.{Comparison}, declared.tree.Operator.{Operator}}
use Rattle.sect_front.specs.{declared.tree.Test.{Test}, declared.tree.Locking.{Locking}, declared.tree.Kind.{Kind}}
use Rattle.sect_front.specs.{declared.tree.Declaration.{Declaration}, declared.tree.Record.{Record}}
use Rattle.sect_front.specs.{declared.tree.GlobalObject.{GlobalObject}, declared.tree.Procedure.{Procedure}}
use Rattle.sect_front.specs.declared.tree.Thread.{Thread}
use Rattle.sect_front.specs.declared.token.Token.TheVariants as token
use Rattle.sect_front.specs.declared.tree.Operand.TheVariants as operand
use Rattle.sect_front.specs.declared.tree.Primitive as leaf
use Rattle.sect_front.specs.declared.tree.Primitive.TheVariants as primitive
use Rattle.sect_front.specs.declared.tree.Operator.TheVariants as operator
use Rattle.sect_front.specs.declared.tree.Locking.TheVariants as locking
use Rattle.sect_front.specs.declared.tree.Kind.TheVariants as kind

-- operand = integer | "null" | name
abbrev pub operand_token : Operand → Token
operand_token (operand.Number n) = token.Number n
operand_token operand.Null = token.Null
operand_token (operand.Name n) = token.Name n

-- op = "+" | "-" | "*"
abbrev pub operator_token : Operator → Token
operator_token operator.Add = token.Plus
operator_token operator.Subtract = token.Minus
operator_token operator.Multiply = token.Star

-- cmp = "==" | "!=" | "<" | "<="
abbrev pub comparison_token : Comparison → Token
comparison_token c = token.Comparison c

-- a statement without a block:
-- name "=" operand ";" | name "=" operand op operand ";" | name "=" "new" name ";" | name "=" name "." name ";" | name
-- "." name "=" operand ";" | "print" operand ";"
abbrev pub primitive_list : leaf.Primitive → List Token
primitive_list (primitive.Assign x v) = token.Name x ∷ token.Equal ∷ operand_token v ∷ token.Semicolon ∷ []
primitive_list (primitive.Compute x v o w) =
    token.Name x ∷ token.Equal ∷ operand_token v ∷ operator_token o ∷ operand_token w ∷ token.Semicolon ∷ []
primitive_list (primitive.New x r) = token.Name x ∷ token.Equal ∷ token.New ∷ token.Name r ∷ token.Semicolon ∷ []
primitive_list (primitive.Load x y f) =
    token.Name x ∷ token.Equal ∷ token.Name y ∷ token.Dot ∷ token.Name f ∷ token.Semicolon ∷ []
primitive_list (primitive.Store y f v) =
    token.Name y ∷ token.Dot ∷ token.Name f ∷ token.Equal ∷ operand_token v ∷ token.Semicolon ∷ []
primitive_list (primitive.Print v) = token.Print ∷ operand_token v ∷ token.Semicolon ∷ []

-- "(" operand cmp operand ")"
abbrev pub test_list : Test → List Token
test_list t =
    token.OpenParen ∷ operand_token t.left ∷ comparison_token t.comparison ∷ operand_token t.right ∷ token.CloseParen
    ∷ []

-- "{" .. "}"
abbrev pub in_braces : List Token → List Token
in_braces inner = token.OpenBrace ∷ inner ++ token.CloseBrace ∷ []

-- "(" .. ")"
abbrev pub in_parens : List Token → List Token
in_parens inner = token.OpenParen ∷ inner ++ token.CloseParen ∷ []

-- [part {"," part}]
abbrev pub separated : {A : Type 0} → (A → List Token) → List A → List Token
separated part [] = []
separated part (x ∷ []) = part x
separated part (x ∷ y ∷ xs) = part x ++ token.Comma ∷ separated part (y ∷ xs)

abbrev pub operand_list : Operand → List Token
operand_list v = operand_token v ∷ []

-- ["all"]
abbrev pub locking_list : Locking → List Token
locking_list locking.Inferred = []
locking_list locking.All = token.All ∷ []

abbrev mutual
  -- stmt: one without a block | "if" test block | "if" test block "else" block | "while" test block | "atomic" ["all"]
  -- block | "call" name "(" [operand {"," operand}] ")" ";"
  pub statement_list : StatementView → List Token
  statement_list (Primitive p) = primitive_list p
  statement_list (If t a) = token.If ∷ test_list t ++ in_braces (statements_list a)
  statement_list (IfElse t a b) =
      token.If ∷ test_list t ++ in_braces (statements_list a) ++ token.Else ∷ in_braces (statements_list b)
  statement_list (While t a) = token.While ∷ test_list t ++ in_braces (statements_list a)
  statement_list (Atomic l a) = token.Atomic ∷ locking_list l ++ in_braces (statements_list a)
  statement_list (Call f vs) =
      token.Call ∷ token.Name f ∷ in_parens (separated operand_list vs) ++ token.Semicolon ∷ []

  -- {stmt}
  pub statements_list : BlockView → List Token
  statements_list End = []
  statements_list (Then s b) = statement_list s ++ statements_list b

-- type = "int" | name
abbrev pub kind_token : Kind → Token
kind_token kind.Int = token.Int
kind_token (kind.Record n) = token.Name n

-- type name ";"
abbrev pub declaration_list : Declaration → List Token
declaration_list d = kind_token d.kind ∷ token.Name d.name ∷ token.Semicolon ∷ []

-- "protected_by" name
abbrev pub hint_list : List ℕ → List Token
hint_list n = token.ProtectedBy ∷ token.Name n ∷ []

-- record = "record" name {"protected_by" name} "{" {type name ";"} "}"
abbrev pub record_list : Record → List Token
record_list r =
    token.Record ∷ token.Name r.name ∷ flat_map hint_list r.hints ++ in_braces (flat_map declaration_list r.fields)

-- global = "global" name name ";"
abbrev pub global_list : GlobalObject → List Token
global_list g = token.Global ∷ token.Name g.of ∷ token.Name g.name ∷ token.Semicolon ∷ []

-- type name
abbrev pub parameter_list : Declaration → List Token
parameter_list d = kind_token d.kind ∷ token.Name d.name ∷ []

-- proc = "proc" name "(" [type name {"," type name}] ")" "{" {type name ";"} {stmt} "}"
abbrev pub procedure_list : Procedure → List Token
procedure_list p =
    token.Proc ∷ token.Name p.name ∷ in_parens (separated parameter_list p.parameters)
    ++ in_braces (flat_map declaration_list p.locals ++ statements_list p.body)

-- thread = "thread" name "{" {type name ";"} {stmt} "}"
abbrev pub thread_list : Thread → List Token
thread_list t =
    token.Thread ∷ token.Name t.name ∷ in_braces (flat_map declaration_list t.locals ++ statements_list t.body)

-- program = {record} {global} {proc} {thread}
abbrev pub tokens_of : TreeView → List Token
tokens_of s =
    flat_map record_list s.records ++ flat_map global_list s.globals ++ flat_map procedure_list s.procedures
    ++ flat_map thread_list s.threads
