-- The tokens of a tree lead through the places of the grammar.
use Rattle.std.proofs.Common.{◌≡◌, ℕ, List, [], ◌∷◌, ◌++◌, Option, Some, None, refl, sym, ◌∙◌, ap, append_assoc}
use Rattle.std.proofs.Common.{option_and_then}
use Rattle.std.specs.Prelude.{⊤}
use Rattle.sect_front.specs.Syntax.{StatementView, BlockView, Primitive, If, IfElse, While, Atomic, Call, End, Then}
use Rattle.sect_front.specs.Grammar.{operand_token, operator_token, kind_token}
use Rattle.sect_front.specs.Tokens.{primitive_tokens, test_tokens, more_operands, operands_tokens, statement_tokens}
use Rattle.sect_front.specs.Tokens.{declarations_tokens, hints_tokens, record_tokens, global_tokens}
use Rattle.sect_front.specs.Tokens.{more_parameters, parameters_tokens, procedure_tokens, thread_tokens}
use Rattle.sect_front.specs.Tokens.{records_tokens, globals_tokens, procedures_tokens, threads_tokens, source_tokens}
use Rattle.sect_front.specs.{TreeView.{TreeView}, declared.token.Token.{Token}, declared.tree.Operand.{Operand}}
use Rattle.sect_front.specs.{declared.tree.Operator.{Operator}, declared.tree.Test.{Test}, declared.tree.Kind.{Kind}}
use Rattle.sect_front.specs.{declared.tree.Declaration.{Declaration}, declared.tree.Record.{Record}}
use Rattle.sect_front.specs.{declared.tree.GlobalObject.{GlobalObject}, declared.tree.Procedure.{Procedure}}
use Rattle.sect_front.specs.{declared.tree.Thread.{Thread}, declared.expected.Expected.{Expected}}
use Rattle.sect_front.specs.steps.{Places.{follows, after, test_places}, Passing.{place_behind}}
use Rattle.sect_front.proofs.Places.{body_tokens}
use Rattle.sect_lemmas.proofs.Options.{some_injective, none_or_some}
use Rattle.sect_front.specs.declared.token.Token.TheVariants as token
use Rattle.sect_front.specs.declared.tree.Operand.TheVariants as operand
use Rattle.sect_front.specs.declared.tree.Operator.TheVariants as operator
use Rattle.sect_front.specs.declared.tree.Locking.TheVariants as locking
use Rattle.sect_front.specs.declared.tree.Kind.TheVariants as kind
use Rattle.sect_front.specs.declared.tree.Primitive as leaf
use Rattle.sect_front.specs.declared.tree.Primitive.TheVariants as primitive
use Rattle.sect_front.specs.declared.expected.Expected.TheVariants as expected

-- 1. Tokens one after another.

pub after_append : (ps : List Expected) (v w : List Token)
    → after ps (v ++ w) ≡ option_and_then (λ qs. after qs w) (after ps v)
after_append ps [] w = refl
after_append [] (t ∷ v) w = refl
after_append (p ∷ ps) (t ∷ v) w = go (follows p t) (λ list. after_append (list ++ ps) v w)
  where
    go : (o : Option (List Expected)) → ((list : List Expected)
        → after (list ++ ps) (v ++ w) ≡ option_and_then (λ qs. after qs w) (after (list ++ ps) v))
        → option_and_then (λ list. after (list ++ ps) (v ++ w)) o
        ≡ option_and_then (λ qs. after qs w) (option_and_then (λ list. after (list ++ ps) v) o)
    go None h = refl
    go (Some list) h = h list

pub after_then : (ps qs : List Expected) (v w : List Token) → after ps v ≡ Some qs → after ps (v ++ w) ≡ after qs w
after_then ps qs v w e = after_append ps v w ∙ ap (option_and_then (λ l. after l w)) e

-- more places behind those that are passed
pub after_more : (ps rs : List Expected) (ts : List Token) (qs : List Expected) → after ps ts ≡ Some qs
    → after (ps ++ rs) ts ≡ Some (qs ++ rs)
after_more ps rs [] qs e = ap (λ l. Some (l ++ rs)) (some_injective ps qs e)
after_more [] rs (t ∷ ts) qs e = absurd (none_or_some qs e)
after_more (p ∷ ps) rs (t ∷ ts) qs e = go (follows p t) (λ list. after_more (list ++ ps) rs ts qs) e
  where
    go : (o : Option (List Expected)) → ((list : List Expected) → after (list ++ ps) ts ≡ Some qs
        → after ((list ++ ps) ++ rs) ts ≡ Some (qs ++ rs))
        → option_and_then (λ list. after (list ++ ps) ts) o ≡ Some qs
        → option_and_then (λ list. after (list ++ (ps ++ rs)) ts) o ≡ Some (qs ++ rs)
    go None h e = absurd (none_or_some qs e)
    go (Some list) h e = ap (λ l. after l ts) (sym (append_assoc list ps rs)) ∙ h list e

-- 2. Statements.

pub operand_after : (v : Operand) (ps : List Expected) (w : List Token)
    → after (expected.Operand ∷ ps) (operand_token v ∷ w) ≡ after ps w
operand_after (operand.Number n) ps w = refl
operand_after (operand.Name n) ps w = refl
operand_after operand.Null ps w = refl

pub operator_after : (o : Operator) (u : Operand) (ps : List Expected) (w : List Token)
    → after (expected.AfterFirst ∷ ps) (operator_token o ∷ operand_token u ∷ token.Semicolon ∷ w) ≡ after ps w
operator_after operator.Add u ps w = operand_after u (expected.Semicolon ∷ ps) (token.Semicolon ∷ w)
operator_after operator.Subtract u ps w = operand_after u (expected.Semicolon ∷ ps) (token.Semicolon ∷ w)
operator_after operator.Multiply u ps w = operand_after u (expected.Semicolon ∷ ps) (token.Semicolon ∷ w)

operator_after_name : (o : Operator) (u : Operand) (ps : List Expected) (w : List Token)
    → after (expected.AfterFirstName ∷ ps) (operator_token o ∷ operand_token u ∷ token.Semicolon ∷ w) ≡ after ps w
operator_after_name operator.Add u ps w = operand_after u (expected.Semicolon ∷ ps) (token.Semicolon ∷ w)
operator_after_name operator.Subtract u ps w = operand_after u (expected.Semicolon ∷ ps) (token.Semicolon ∷ w)
operator_after_name operator.Multiply u ps w = operand_after u (expected.Semicolon ∷ ps) (token.Semicolon ∷ w)

pub primitive_after : (p : leaf.Primitive) (ps : List Expected) (w : List Token)
    → after (expected.Start ∷ ps) (primitive_tokens p w) ≡ after (expected.Start ∷ ps) w
primitive_after (primitive.Assign x (operand.Number n)) ps w = refl
primitive_after (primitive.Assign x (operand.Name n)) ps w = refl
primitive_after (primitive.Assign x operand.Null) ps w = refl
primitive_after (primitive.Compute x (operand.Number n) o u) ps w = operator_after o u (expected.Start ∷ ps) w
primitive_after (primitive.Compute x (operand.Name n) o u) ps w = operator_after_name o u (expected.Start ∷ ps) w
primitive_after (primitive.Compute x operand.Null o u) ps w = operator_after o u (expected.Start ∷ ps) w
primitive_after (primitive.New x r) ps w = refl
primitive_after (primitive.Load x y f) ps w = refl
primitive_after (primitive.Store y f v) ps w =
    operand_after v (expected.Semicolon ∷ expected.Start ∷ ps) (token.Semicolon ∷ w)
primitive_after (primitive.Print v) ps w =
    operand_after v (expected.Semicolon ∷ expected.Start ∷ ps) (token.Semicolon ∷ w)

pub test_after : (t : Test) (ps : List Expected) (w : List Token)
    → after (test_places ps) (test_tokens t w) ≡ after ps w
test_after t ps w =
    operand_after t.left (expected.Comparison ∷ expected.Operand ∷ expected.CloseParen ∷ ps)
    (token.Comparison t.comparison ∷ operand_token t.right ∷ token.CloseParen ∷ w)
    ∙ operand_after t.right (expected.CloseParen ∷ ps) (token.CloseParen ∷ w)

more_operands_after : (vs : List Operand) (ps : List Expected) (w : List Token)
    → after (expected.AfterArgument ∷ ps) (more_operands vs w) ≡ after (expected.AfterArgument ∷ ps) w
more_operands_after [] ps w = refl
more_operands_after (v ∷ vs) ps w =
    operand_after v (expected.AfterArgument ∷ ps) (more_operands vs w) ∙ more_operands_after vs ps w

argument_after : (v : Operand) (ps : List Expected) (w : List Token)
    → after (expected.Argument ∷ ps) (operand_token v ∷ w) ≡ after (expected.AfterArgument ∷ ps) w
argument_after (operand.Number n) ps w = refl
argument_after (operand.Name n) ps w = refl
argument_after operand.Null ps w = refl

pub some_operands_after : (v : Operand) (vs : List Operand) (ps : List Expected) (w : List Token)
    → after (expected.Argument ∷ ps) (operands_tokens (v ∷ vs) w) ≡ after (expected.AfterArgument ∷ ps) w
some_operands_after v vs ps w = argument_after v ps (more_operands vs w) ∙ more_operands_after vs ps w

pub operands_after : (vs : List Operand) (ps : List Expected) (w : List Token)
    → after (expected.Argument ∷ ps) (operands_tokens vs (token.CloseParen ∷ w)) ≡ after ps w
operands_after [] ps w = refl
operands_after (v ∷ vs) ps w = some_operands_after v vs ps (token.CloseParen ∷ w)

-- an `else` begins no statement, and ends no block
pub else_start : (b : BlockView) (ps : List Expected) (w : List Token)
    → after (expected.StartOrElse ∷ ps) (body_tokens b w) ≡ after (expected.Start ∷ ps) (body_tokens b w)
else_start End ps w = refl
else_start (Then (Primitive (primitive.Assign x v)) b) ps w = refl
else_start (Then (Primitive (primitive.Compute x v o u)) b) ps w = refl
else_start (Then (Primitive (primitive.New x r)) b) ps w = refl
else_start (Then (Primitive (primitive.Load x y f)) b) ps w = refl
else_start (Then (Primitive (primitive.Store y f v)) b) ps w = refl
else_start (Then (Primitive (primitive.Print v)) b) ps w = refl
else_start (Then (If t a) b) ps w = refl
else_start (Then (IfElse t a c) b) ps w = refl
else_start (Then (While t a) b) ps w = refl
else_start (Then (Atomic l a) b) ps w = refl
else_start (Then (Call f vs) b) ps w = refl

pub behind_start : (s : StatementView) (b : BlockView) (ps : List Expected) (w : List Token)
    → after (place_behind s ∷ ps) (body_tokens b w) ≡ after (expected.Start ∷ ps) (body_tokens b w)
behind_start (If t a) b ps w = else_start b ps w
behind_start (Primitive p) b ps w = refl
behind_start (IfElse t a c) b ps w = refl
behind_start (While t a) b ps w = refl
behind_start (Atomic l a) b ps w = refl
behind_start (Call f vs) b ps w = refl

mutual
  pub statement_after : (s : StatementView) (ps : List Expected) (w : List Token)
      → after (expected.Start ∷ ps) (statement_tokens s w) ≡ after (place_behind s ∷ ps) w
  statement_after (Primitive p) ps w = primitive_after p ps w
  statement_after (If t a) ps w =
      test_after t (expected.OpenBrace ∷ expected.StartOrElse ∷ ps) (token.OpenBrace ∷ body_tokens a w)
      ∙ body_after a (expected.StartOrElse ∷ ps) w
  statement_after (IfElse t a b) ps w =
      let rest : List Token = token.Else ∷ token.OpenBrace ∷ body_tokens b w in
      test_after t (expected.OpenBrace ∷ expected.StartOrElse ∷ ps) (token.OpenBrace ∷ body_tokens a rest)
      ∙ (body_after a (expected.StartOrElse ∷ ps) rest ∙ body_after b (expected.Start ∷ ps) w)
  statement_after (While t a) ps w =
      test_after t (expected.OpenBrace ∷ expected.Start ∷ ps) (token.OpenBrace ∷ body_tokens a w)
      ∙ body_after a (expected.Start ∷ ps) w
  statement_after (Atomic locking.Inferred a) ps w = body_after a (expected.Start ∷ ps) w
  statement_after (Atomic locking.All a) ps w = body_after a (expected.Start ∷ ps) w
  statement_after (Call f vs) ps w =
      operands_after vs (expected.Semicolon ∷ expected.Start ∷ ps) (token.Semicolon ∷ w)

  pub body_after : (b : BlockView) (ps : List Expected) (w : List Token)
      → after (expected.Start ∷ ps) (body_tokens b w) ≡ after ps w
  body_after End ps w = refl
  body_after (Then s b) ps w =
      statement_after s ps (body_tokens b w) ∙ (behind_start s b ps w ∙ body_after b ps w)

-- 3. Declarations.

-- where no local stands the statements begin
pub local_start : (b : BlockView) (ps : List Expected) (w : List Token)
    → after (expected.StartOrLocal ∷ ps) (body_tokens b w) ≡ after (expected.Start ∷ ps) (body_tokens b w)
local_start End ps w = refl
local_start (Then (Primitive (primitive.Assign x v)) b) ps w = refl
local_start (Then (Primitive (primitive.Compute x v o u)) b) ps w = refl
local_start (Then (Primitive (primitive.New x r)) b) ps w = refl
local_start (Then (Primitive (primitive.Load x y f)) b) ps w = refl
local_start (Then (Primitive (primitive.Store y f v)) b) ps w = refl
local_start (Then (Primitive (primitive.Print v)) b) ps w = refl
local_start (Then (If t a) b) ps w = refl
local_start (Then (IfElse t a c) b) ps w = refl
local_start (Then (While t a) b) ps w = refl
local_start (Then (Atomic l a) b) ps w = refl
local_start (Then (Call f vs) b) ps w = refl

pub local_after : (k : Kind) (n : List ℕ) (ps : List Expected) (w : List Token)
    → after (expected.StartOrLocal ∷ ps) (kind_token k ∷ token.Name n ∷ token.Semicolon ∷ w)
    ≡ after (expected.StartOrLocal ∷ ps) w
local_after kind.Int n ps w = refl
local_after (kind.Record m) n ps w = refl

pub locals_after : (ds : List Declaration) (b : BlockView) (ps : List Expected) (w : List Token)
    → after (expected.StartOrLocal ∷ ps) (declarations_tokens ds (body_tokens b w)) ≡ after ps w
locals_after [] b ps w = local_start b ps w ∙ body_after b ps w
locals_after (d ∷ ds) b ps w =
    local_after d.kind d.name ps (declarations_tokens ds (body_tokens b w)) ∙ locals_after ds b ps w

field_after : (k : Kind) (n : List ℕ) (ps : List Expected) (w : List Token)
    → after (expected.Field ∷ ps) (kind_token k ∷ token.Name n ∷ token.Semicolon ∷ w) ≡ after (expected.Field ∷ ps) w
field_after kind.Int n ps w = refl
field_after (kind.Record m) n ps w = refl

pub fields_after : (ds : List Declaration) (ps : List Expected) (w : List Token)
    → after (expected.Field ∷ ps) (declarations_tokens ds w) ≡ after (expected.Field ∷ ps) w
fields_after [] ps w = refl
fields_after (d ∷ ds) ps w = field_after d.kind d.name ps (declarations_tokens ds w) ∙ fields_after ds ps w

pub hints_after : (ns : List (List ℕ)) (ps : List Expected) (w : List Token)
    → after (expected.HintOrBrace ∷ ps) (hints_tokens ns w) ≡ after (expected.HintOrBrace ∷ ps) w
hints_after [] ps w = refl
hints_after (n ∷ ns) ps w = hints_after ns ps w

more_parameter_after : (k : Kind) (n : List ℕ) (ps : List Expected) (w : List Token)
    → after (expected.Kind ∷ expected.Name ∷ ps) (kind_token k ∷ token.Name n ∷ w) ≡ after ps w
more_parameter_after kind.Int n ps w = refl
more_parameter_after (kind.Record m) n ps w = refl

more_parameters_after : (ds : List Declaration) (ps : List Expected) (w : List Token)
    → after (expected.AfterParameter ∷ ps) (more_parameters ds w) ≡ after (expected.AfterParameter ∷ ps) w
more_parameters_after [] ps w = refl
more_parameters_after (d ∷ ds) ps w =
    more_parameter_after d.kind d.name (expected.AfterParameter ∷ ps) (more_parameters ds w)
    ∙ more_parameters_after ds ps w

parameter_after : (k : Kind) (n : List ℕ) (ps : List Expected) (w : List Token)
    → after (expected.Parameter ∷ ps) (kind_token k ∷ token.Name n ∷ w) ≡ after (expected.AfterParameter ∷ ps) w
parameter_after kind.Int n ps w = refl
parameter_after (kind.Record m) n ps w = refl

pub some_parameters_after : (d : Declaration) (ds : List Declaration) (ps : List Expected) (w : List Token)
    → after (expected.Parameter ∷ ps) (parameters_tokens (d ∷ ds) w) ≡ after (expected.AfterParameter ∷ ps) w
some_parameters_after d ds ps w =
    parameter_after d.kind d.name ps (more_parameters ds w) ∙ more_parameters_after ds ps w

pub parameters_after : (ds : List Declaration) (ps : List Expected) (w : List Token)
    → after (expected.Parameter ∷ ps) (parameters_tokens ds (token.CloseParen ∷ w)) ≡ after ps w
parameters_after [] ps w = refl
parameters_after (d ∷ ds) ps w = some_parameters_after d ds ps (token.CloseParen ∷ w)

-- 4. Texts.

-- a global may come next, or a procedure, or a thread
abbrev pub MayGlobals : Expected → Type 0
MayGlobals expected.Records = ⊤
MayGlobals expected.Globals = ⊤
MayGlobals _ = ⊥

abbrev pub MayProcedures : Expected → Type 0
MayProcedures expected.Records = ⊤
MayProcedures expected.Globals = ⊤
MayProcedures expected.Procedures = ⊤
MayProcedures _ = ⊥

abbrev pub MayThreads : Expected → Type 0
MayThreads expected.Records = ⊤
MayThreads expected.Globals = ⊤
MayThreads expected.Procedures = ⊤
MayThreads expected.Threads = ⊤
MayThreads _ = ⊥

may_procedures : (e : Expected) → MayGlobals e → MayProcedures e
may_procedures expected.Records h = tt
may_procedures expected.Globals h = tt
may_procedures _ h = absurd h

may_threads : (e : Expected) → MayProcedures e → MayThreads e
may_threads expected.Records h = tt
may_threads expected.Globals h = tt
may_threads expected.Procedures h = tt
may_threads _ h = absurd h

pub record_after : (r : Record) (w : List Token)
    → after (expected.Records ∷ []) (record_tokens r w) ≡ after (expected.Records ∷ []) w
record_after r w =
    hints_after r.hints (expected.Records ∷ []) (token.OpenBrace ∷ declarations_tokens r.fields (token.CloseBrace ∷ w))
    ∙ fields_after r.fields (expected.Records ∷ []) (token.CloseBrace ∷ w)

pub global_after : (e : Expected) → MayGlobals e → (g : GlobalObject) (w : List Token)
    → after (e ∷ []) (global_tokens g w) ≡ after (expected.Globals ∷ []) w
global_after expected.Records h g w = refl
global_after expected.Globals h g w = refl
global_after _ h g w = absurd h

procedure_behind : (p : Procedure) (w : List Token)
    → after (expected.Procedures ∷ []) (procedure_tokens p w) ≡ after (expected.Procedures ∷ []) w
procedure_behind p w =
    parameters_after p.parameters (expected.OpenBody ∷ expected.Procedures ∷ [])
    (token.OpenBrace ∷ declarations_tokens p.locals (body_tokens p.body w))
    ∙ locals_after p.locals p.body (expected.Procedures ∷ []) w

pub procedure_after : (e : Expected) → MayProcedures e → (p : Procedure) (w : List Token)
    → after (e ∷ []) (procedure_tokens p w) ≡ after (expected.Procedures ∷ []) w
procedure_after expected.Records h p w = procedure_behind p w
procedure_after expected.Globals h p w = procedure_behind p w
procedure_after expected.Procedures h p w = procedure_behind p w
procedure_after _ h p w = absurd h

pub thread_after : (e : Expected) → MayThreads e → (t : Thread) (w : List Token)
    → after (e ∷ []) (thread_tokens t w) ≡ after (expected.Threads ∷ []) w
thread_after expected.Records h t w = locals_after t.locals t.body (expected.Threads ∷ []) w
thread_after expected.Globals h t w = locals_after t.locals t.body (expected.Threads ∷ []) w
thread_after expected.Procedures h t w = locals_after t.locals t.body (expected.Threads ∷ []) w
thread_after expected.Threads h t w = locals_after t.locals t.body (expected.Threads ∷ []) w
thread_after _ h t w = absurd h

records_after : (rs : List Record) (w : List Token)
    → after (expected.Records ∷ []) (records_tokens rs w) ≡ after (expected.Records ∷ []) w
records_after [] w = refl
records_after (r ∷ rs) w = record_after r (records_tokens rs w) ∙ records_after rs w

globals_after : (gs : List GlobalObject) (e : Expected) → MayGlobals e → (w : List Token)
    → (d : Expected) × MayGlobals d × (after (e ∷ []) (globals_tokens gs w) ≡ after (d ∷ []) w)
globals_after [] e h w = (e, h, refl)
globals_after (g ∷ gs) e h w = let k = globals_after gs expected.Globals tt w in
    (k.0, k.1, global_after e h g (globals_tokens gs w) ∙ k.2)

procedures_after : (ps : List Procedure) (e : Expected) → MayProcedures e → (w : List Token)
    → (d : Expected) × MayProcedures d × (after (e ∷ []) (procedures_tokens ps w) ≡ after (d ∷ []) w)
procedures_after [] e h w = (e, h, refl)
procedures_after (p ∷ ps) e h w = let k = procedures_after ps expected.Procedures tt w in
    (k.0, k.1, procedure_after e h p (procedures_tokens ps w) ∙ k.2)

threads_after : (ts : List Thread) (e : Expected) → MayThreads e → (w : List Token)
    → (d : Expected) × MayThreads d × (after (e ∷ []) (threads_tokens ts w) ≡ after (d ∷ []) w)
threads_after [] e h w = (e, h, refl)
threads_after (t ∷ ts) e h w = let k = threads_after ts expected.Threads tt w in
    (k.0, k.1, thread_after e h t (threads_tokens ts w) ∙ k.2)

-- the tokens of a tree lead to where a declaration may begin
pub source_after : (s : TreeView)
    → (d : Expected) × MayThreads d × (after (expected.Records ∷ []) (source_tokens s []) ≡ Some (d ∷ []))
source_after s =
    let threads : List Token = threads_tokens s.threads [] in
    let procedures : List Token = procedures_tokens s.procedures threads in
    let a = globals_after s.globals expected.Records tt procedures in
    let b = procedures_after s.procedures a.0 (may_procedures a.0 a.1) threads in
    let c = threads_after s.threads b.0 (may_threads b.0 b.1) [] in
    (c.0, c.1, records_after s.records (globals_tokens s.globals procedures) ∙ (a.2 ∙ (b.2 ∙ c.2)))
