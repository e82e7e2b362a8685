-- How many tokens a part of a tree has, and that they stand before those of what follows.
use Rattle.std.proofs.Common.{◌≡◌, ℕ, ◌+◌, ◌*◌, List, [], ◌∷◌, ◌++◌, length, refl, sym, ◌∙◌, ap, arith, append_assoc}
use Rattle.sect_front.specs.Syntax.{StatementView, BlockView, Primitive, If, IfElse, While, Atomic, Call, End, Then}
use Rattle.sect_front.specs.{TreeView.{TreeView}, Grammar.{operand_token, kind_token, statements_list}}
use Rattle.sect_front.specs.Tokens.{more_operands, operands_tokens, statement_tokens, block_tokens}
use Rattle.sect_front.specs.Tokens.{declarations_tokens, hints_tokens, more_parameters, parameters_tokens}
use Rattle.sect_front.specs.Tokens.{record_tokens, procedure_tokens, thread_tokens, records_tokens, globals_tokens}
use Rattle.sect_front.specs.{Tokens.{procedures_tokens, threads_tokens, source_tokens}, declared.token.Token.{Token}}
use Rattle.sect_front.specs.{declared.tree.Operand.{Operand}, declared.tree.Declaration.{Declaration}}
use Rattle.sect_front.specs.{declared.tree.Record.{Record}, declared.tree.GlobalObject.{GlobalObject}}
use Rattle.sect_front.specs.{declared.tree.Procedure.{Procedure}, declared.tree.Thread.{Thread}}
use Rattle.sect_front.proofs.shared.Listed.{body_same, tokens_before, tokens_same}
use Rattle.sect_places.specs.Counts.{operands_count, parameters_count, statement_count, block_count, record_count}
use Rattle.sect_places.specs.Counts.{procedure_count, thread_count, records_count, procedures_count, threads_count}
use Rattle.sect_front.specs.declared.token.Token.TheVariants as token
use Rattle.sect_front.specs.declared.tree.Primitive.TheVariants as primitive
use Rattle.sect_front.specs.declared.tree.Locking.TheVariants as locking

-- 1. Tokens before those of what follows.

pub block_behind : (b : BlockView) (u w : List Token) → block_tokens b u ++ w ≡ block_tokens b (u ++ w)
block_behind b u w =
    ap (λ x. x ++ w) (sym (body_same b u)) ∙ (append_assoc (statements_list b) u w ∙ body_same b (u ++ w))

pub statement_behind : (s : StatementView) (w : List Token) → statement_tokens s [] ++ w ≡ statement_tokens s w
statement_behind s w = block_behind (Then s End) [] w

more_operands_behind : (vs : List Operand) (u w : List Token) → more_operands vs u ++ w ≡ more_operands vs (u ++ w)
more_operands_behind [] u w = refl
more_operands_behind (v ∷ vs) u w = ap (λ x. token.Comma ∷ operand_token v ∷ x) (more_operands_behind vs u w)

pub operands_behind : (vs : List Operand) (u w : List Token) → operands_tokens vs u ++ w ≡ operands_tokens vs (u ++ w)
operands_behind [] u w = refl
operands_behind (v ∷ vs) u w = ap (λ x. operand_token v ∷ x) (more_operands_behind vs u w)

pub declarations_behind : (ds : List Declaration) (u w : List Token)
    → declarations_tokens ds u ++ w ≡ declarations_tokens ds (u ++ w)
declarations_behind [] u w = refl
declarations_behind (d ∷ ds) u w =
    ap (λ x. kind_token d.kind ∷ token.Name d.name ∷ token.Semicolon ∷ x) (declarations_behind ds u w)

pub hints_behind : (ns : List (List ℕ)) (u w : List Token) → hints_tokens ns u ++ w ≡ hints_tokens ns (u ++ w)
hints_behind [] u w = refl
hints_behind (n ∷ ns) u w = ap (λ x. token.ProtectedBy ∷ token.Name n ∷ x) (hints_behind ns u w)

more_parameters_behind : (ds : List Declaration) (u w : List Token)
    → more_parameters ds u ++ w ≡ more_parameters ds (u ++ w)
more_parameters_behind [] u w = refl
more_parameters_behind (d ∷ ds) u w =
    ap (λ x. token.Comma ∷ kind_token d.kind ∷ token.Name d.name ∷ x) (more_parameters_behind ds u w)

pub parameters_behind : (ds : List Declaration) (u w : List Token)
    → parameters_tokens ds u ++ w ≡ parameters_tokens ds (u ++ w)
parameters_behind [] u w = refl
parameters_behind (d ∷ ds) u w = ap (λ x. kind_token d.kind ∷ token.Name d.name ∷ x) (more_parameters_behind ds u w)

-- 2. How many they are.

more_operands_long : (vs : List Operand) (u : List Token) → length (more_operands vs u) ≡ 2 * length vs + length u
more_operands_long [] u = omega arith
more_operands_long (v ∷ vs) u = omega (arith, more_operands_long vs u)

pub operands_long : (vs : List Operand) (u : List Token) → length (operands_tokens vs u) ≡ operands_count vs + length u
operands_long [] u = omega arith
operands_long (v ∷ vs) u = omega (arith, more_operands_long vs u)

mutual
  pub statement_long : (s : StatementView) (u : List Token) → length (statement_tokens s u) ≡ statement_count s +
      length u
  statement_long (Primitive (primitive.Assign x v)) u = omega arith
  statement_long (Primitive (primitive.Compute x v o w)) u = omega arith
  statement_long (Primitive (primitive.New x r)) u = omega arith
  statement_long (Primitive (primitive.Load x y f)) u = omega arith
  statement_long (Primitive (primitive.Store y f v)) u = omega arith
  statement_long (Primitive (primitive.Print v)) u = omega arith
  statement_long (If t a) u = omega (arith, block_long a (token.CloseBrace ∷ u))
  statement_long (IfElse t a b) u = omega (
    arith,
    block_long a (token.CloseBrace ∷ token.Else ∷ token.OpenBrace ∷ block_tokens b (token.CloseBrace ∷ u)),
    block_long b (token.CloseBrace ∷ u),
  )
  statement_long (While t a) u = omega (arith, block_long a (token.CloseBrace ∷ u))
  statement_long (Atomic locking.Inferred a) u = omega (arith, block_long a (token.CloseBrace ∷ u))
  statement_long (Atomic locking.All a) u = omega (arith, block_long a (token.CloseBrace ∷ u))
  statement_long (Call f vs) u = omega (arith, operands_long vs (token.CloseParen ∷ token.Semicolon ∷ u))

  pub block_long : (b : BlockView) (u : List Token) → length (block_tokens b u) ≡ block_count b + length u
  block_long End u = omega arith
  block_long (Then s b) u = omega (arith, statement_long s (block_tokens b u), block_long b u)

pub declarations_long : (ds : List Declaration) (u : List Token)
    → length (declarations_tokens ds u) ≡ 3 * length ds + length u
declarations_long [] u = omega arith
declarations_long (d ∷ ds) u = omega (arith, declarations_long ds u)

pub hints_long : (ns : List (List ℕ)) (u : List Token) → length (hints_tokens ns u) ≡ 2 * length ns + length u
hints_long [] u = omega arith
hints_long (n ∷ ns) u = omega (arith, hints_long ns u)

more_parameters_long : (ds : List Declaration) (u : List Token)
    → length (more_parameters ds u) ≡ 3 * length ds + length u
more_parameters_long [] u = omega arith
more_parameters_long (d ∷ ds) u = omega (arith, more_parameters_long ds u)

pub parameters_long : (ds : List Declaration) (u : List Token)
    → length (parameters_tokens ds u) ≡ parameters_count ds + length u
parameters_long [] u = omega arith
parameters_long (d ∷ ds) u = omega (arith, more_parameters_long ds u)

pub record_long : (r : Record) (u : List Token) → length (record_tokens r u) ≡ record_count r + length u
record_long r u =
    let fields = declarations_tokens r.fields (token.CloseBrace ∷ u) in
    omega (arith, hints_long r.hints (token.OpenBrace ∷ fields), declarations_long r.fields (token.CloseBrace ∷ u))

pub procedure_long : (p : Procedure) (u : List Token) → length (procedure_tokens p u) ≡ procedure_count p + length u
procedure_long p u =
    let body = block_tokens p.body (token.CloseBrace ∷ u) in
    omega (
      arith,
      parameters_long p.parameters (token.CloseParen ∷ token.OpenBrace ∷ declarations_tokens p.locals body),
      declarations_long p.locals body,
      block_long p.body (token.CloseBrace ∷ u),
    )

pub thread_long : (t : Thread) (u : List Token) → length (thread_tokens t u) ≡ thread_count t + length u
thread_long t u =
    let body = block_tokens t.body (token.CloseBrace ∷ u) in
    omega (arith, declarations_long t.locals body, block_long t.body (token.CloseBrace ∷ u))

pub records_long : (rs : List Record) (u : List Token) → length (records_tokens rs u) ≡ records_count rs + length u
records_long [] u = omega arith
records_long (r ∷ rs) u = omega (arith, record_long r (records_tokens rs u), records_long rs u)

pub globals_long : (gs : List GlobalObject) (u : List Token) → length (globals_tokens gs u) ≡ 4 * length gs + length u
globals_long [] u = omega arith
globals_long (g ∷ gs) u = omega (arith, globals_long gs u)

pub procedures_long : (ps : List Procedure) (u : List Token)
    → length (procedures_tokens ps u) ≡ procedures_count ps + length u
procedures_long [] u = omega arith
procedures_long (p ∷ ps) u = omega (arith, procedure_long p (procedures_tokens ps u), procedures_long ps u)

pub threads_long : (ts : List Thread) (u : List Token) → length (threads_tokens ts u) ≡ threads_count ts + length u
threads_long [] u = omega arith
threads_long (t ∷ ts) u = omega (arith, thread_long t (threads_tokens ts u), threads_long ts u)

-- a text of these declarations before more tokens
abbrev pub parts : List Record → List GlobalObject → List Procedure → List Thread → TreeView
parts rs gs ps ts = record { records = rs; globals = gs; procedures = ps; threads = ts }

pub parts_behind : (s : TreeView) (w : List Token) → source_tokens s [] ++ w ≡ source_tokens s w
parts_behind s w = ap (λ x. x ++ w) (sym (tokens_same s)) ∙ tokens_before s w
