-- Where the items of a text stand: its records and their fields, its globals, its procedures with their parameters and
-- locals, its threads with their locals, and all statements. Each is given before those that stand in it.
use Rattle.std.specs.Prelude.{◌≡◌, ℕ, ◌-◌, List, [], ◌∷◌, ◌++◌, length, drop}
use Rattle.sect_front.specs.Syntax.{StatementView, BlockView, Primitive, If, IfElse, While, Atomic, Call, End, Then}
use Rattle.sect_front.specs.{TreeView.{TreeView}, Gaps.{after_gap}, Spelling.{spelling_of}}
use Rattle.sect_front.specs.Grammar.{operand_token, operator_token, kind_token}
use Rattle.sect_front.specs.Tokens.{test_tokens, locking_tokens, operands_tokens, statement_tokens, block_tokens}
use Rattle.sect_front.specs.Tokens.{declarations_tokens, hints_tokens, parameters_tokens, record_tokens, global_tokens}
use Rattle.sect_front.specs.Tokens.{procedure_tokens, thread_tokens, records_tokens, globals_tokens, procedures_tokens}
use Rattle.sect_front.specs.{declared.token.Token.{Token}, declared.span.Span.{Span}}
use Rattle.sect_front.specs.{declared.tree.Declaration.{Declaration}, declared.tree.Record.{Record}}
use Rattle.sect_front.specs.{declared.tree.GlobalObject.{GlobalObject}, declared.tree.Procedure.{Procedure}}
use Rattle.sect_front.specs.declared.tree.Thread.{Thread}
use Rattle.sect_front.specs.declared.token.Token.TheVariants as token
use Rattle.sect_front.specs.declared.tree.Primitive as leaf
use Rattle.sect_front.specs.declared.tree.Primitive.TheVariants as primitive

-- what follows these tokens, which stand here, and the gap behind them
abbrev pub past : List ℕ → List Token → List ℕ
past here [] = here
past here (t ∷ ts) = past (after_gap (drop (length (spelling_of t)) here)) ts

-- how many bytes are left behind the last of these tokens, which stand here; before them so many are
abbrev pub left : ℕ → List ℕ → List Token → ℕ
left before here [] = before
left before here (t ∷ ts) =
    left (length here - length (spelling_of t)) (after_gap (drop (length (spelling_of t)) here)) ts

-- the bytes from where so many are left to where so many are, in a text of so many
abbrev pub span_left : ℕ → ℕ → ℕ → Span
span_left total start end = record { start = total - start; end = total - end }

-- the bytes of these tokens, which stand here, from the first byte of the first to the last of the last
abbrev pub span_of : ℕ → List ℕ → List Token → Span
span_of total here own = span_left total (length here) (left (length here) here own)

-- the tokens of a statement without a block, but for its `;`
abbrev pub primitive_own : leaf.Primitive → List Token
primitive_own (primitive.Assign x v) = token.Name x ∷ token.Equal ∷ operand_token v ∷ []
primitive_own (primitive.Compute x v o u) =
    token.Name x ∷ token.Equal ∷ operand_token v ∷ operator_token o ∷ operand_token u ∷ []
primitive_own (primitive.New x r) = token.Name x ∷ token.Equal ∷ token.New ∷ token.Name r ∷ []
primitive_own (primitive.Load x y f) = token.Name x ∷ token.Equal ∷ token.Name y ∷ token.Dot ∷ token.Name f ∷ []
primitive_own (primitive.Store y f v) = token.Name y ∷ token.Dot ∷ token.Name f ∷ token.Equal ∷ operand_token v ∷ []
primitive_own (primitive.Print v) = token.Print ∷ operand_token v ∷ []

-- the tokens of a statement as an item: all but its `;`, or those before its first block
abbrev pub statement_own : StatementView → List Token
statement_own (Primitive p) = primitive_own p
statement_own (If t a) = token.If ∷ test_tokens t []
statement_own (IfElse t a b) = token.If ∷ test_tokens t []
statement_own (While t a) = token.While ∷ test_tokens t []
statement_own (Atomic l a) = token.Atomic ∷ locking_tokens l []
statement_own (Call f vs) =
    token.Call ∷ token.Name f ∷ token.OpenParen ∷ operands_tokens vs (token.CloseParen ∷ [])

abbrev mutual
  -- of the items in the blocks of a statement, of which the first stands here
  pub inner_spans : ℕ → List ℕ → StatementView → List Span
  inner_spans total here (Primitive p) = []
  inner_spans total here (If t a) = block_spans total (past here (token.OpenBrace ∷ [])) a
  inner_spans total here (IfElse t a b) =
      block_spans total (past here (token.OpenBrace ∷ [])) a
      ++ block_spans total (past here (token.OpenBrace
      ∷ block_tokens a (token.CloseBrace ∷ token.Else ∷ token.OpenBrace ∷ []))) b
  inner_spans total here (While t a) = block_spans total (past here (token.OpenBrace ∷ [])) a
  inner_spans total here (Atomic l a) = block_spans total (past here (token.OpenBrace ∷ [])) a
  inner_spans total here (Call f vs) = []

  -- of the items of statements that stand here: each, and then those in its blocks
  pub block_spans : ℕ → List ℕ → BlockView → List Span
  block_spans total here End = []
  block_spans total here (Then s b) =
      (span_of total here (statement_own s) ∷ inner_spans total (past here (statement_own s)) s)
      ++ block_spans total (past here (statement_tokens s [])) b

-- of the items of a statement that stands here
abbrev pub statement_spans : ℕ → List ℕ → StatementView → List Span
statement_spans total here s =
    span_of total here (statement_own s) ∷ inner_spans total (past here (statement_own s)) s

-- a type and a name
abbrev pub declaration_own : Declaration → List Token
declaration_own d = kind_token d.kind ∷ token.Name d.name ∷ []

abbrev pub declarations_spans : ℕ → List ℕ → List Declaration → List Span
declarations_spans total here [] = []
declarations_spans total here (d ∷ ds) =
    span_of total here (declaration_own d)
    ∷ declarations_spans total (past here (kind_token d.kind ∷ token.Name d.name ∷ token.Semicolon ∷ [])) ds

-- further parameters, each behind a comma
abbrev pub more_parameters_spans : ℕ → List ℕ → List Declaration → List Span
more_parameters_spans total here [] = []
more_parameters_spans total here (d ∷ ds) =
    span_of total (past here (token.Comma ∷ [])) (declaration_own d)
    ∷ more_parameters_spans total (past here (token.Comma ∷ declaration_own d)) ds

abbrev pub parameters_spans : ℕ → List ℕ → List Declaration → List Span
parameters_spans total here [] = []
parameters_spans total here (d ∷ ds) =
    span_of total here (declaration_own d) ∷ more_parameters_spans total (past here (declaration_own d)) ds

-- of locals and then statements
abbrev pub body_spans : ℕ → List ℕ → List Declaration → BlockView → List Span
body_spans total here ls b =
    declarations_spans total here ls ++ block_spans total (past here (declarations_tokens ls [])) b

-- the word and the name, and the fields
abbrev pub record_spans : ℕ → List ℕ → Record → List Span
record_spans total here r =
    span_of total here (token.Record ∷ token.Name r.name ∷ [])
    ∷ declarations_spans total
    (past here (token.Record ∷ token.Name r.name ∷ hints_tokens r.hints (token.OpenBrace ∷ []))) r.fields

abbrev pub global_spans : ℕ → List ℕ → GlobalObject → List Span
global_spans total here g = span_of total here (token.Global ∷ token.Name g.of ∷ token.Name g.name ∷ []) ∷ []

-- the word and the name, the parameters, and the body
abbrev pub procedure_spans : ℕ → List ℕ → Procedure → List Span
procedure_spans total here p =
    span_of total here (token.Proc ∷ token.Name p.name ∷ [])
    ∷ parameters_spans total (past here (token.Proc ∷ token.Name p.name ∷ token.OpenParen ∷ [])) p.parameters
    ++ body_spans total (past here (token.Proc ∷ token.Name p.name ∷ token.OpenParen
    ∷ parameters_tokens p.parameters (token.CloseParen ∷ token.OpenBrace ∷ []))) p.locals p.body

-- the word and the name, and the body
abbrev pub thread_spans : ℕ → List ℕ → Thread → List Span
thread_spans total here t =
    span_of total here (token.Thread ∷ token.Name t.name ∷ [])
    ∷ body_spans total (past here (token.Thread ∷ token.Name t.name ∷ token.OpenBrace ∷ [])) t.locals t.body

-- of declarations of one kind, which have these tokens before those of what follows, and these spans
abbrev pub each : {A : Type 0} → (A → List Token → List Token) → (List ℕ → A → List Span) → List ℕ → List A → List Span
each tokens spans here [] = []
each tokens spans here (x ∷ xs) = spans here x ++ each tokens spans (past here (tokens x [])) xs

-- of the items of a text of so many bytes, of which these are left behind the first gap
abbrev pub source_spans : ℕ → List ℕ → TreeView → List Span
source_spans total here s =
    each record_tokens (record_spans total) here s.records
    ++ each global_tokens (global_spans total) (past here (records_tokens s.records [])) s.globals
    ++ each procedure_tokens (procedure_spans total)
    (past here (records_tokens s.records (globals_tokens s.globals []))) s.procedures
    ++ each thread_tokens (thread_spans total)
    (past here (records_tokens s.records (globals_tokens s.globals (procedures_tokens s.procedures [])))) s.threads

-- these are the spans of the items of a tree that the text spells
abbrev pub AreSpansOf : List ℕ → TreeView → List Span → Type 0
AreSpansOf bytes tree spans = spans ≡ source_spans (length bytes) (after_gap bytes) tree
