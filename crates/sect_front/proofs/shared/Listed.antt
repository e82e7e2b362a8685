-- The tokens of a tree by the grammar are those that stand before what follows.
use Rattle.std.proofs.Common.{◌≡◌, ℕ, List, [], ◌∷◌, ◌++◌, refl, sym, ◌∙◌, ap, append_assoc, append-nil}
use Rattle.std.specs.List.{flat_map}
use Rattle.sect_front.specs.Syntax.{StatementView, BlockView, Primitive, If, IfElse, While, Atomic, Call, End, Then}
use Rattle.sect_front.specs.TreeView.{TreeView}
use Rattle.sect_front.specs.Grammar.{operand_token, operand_list, primitive_list, in_braces, in_parens, separated}
use Rattle.sect_front.specs.Grammar.{statement_list, statements_list, parameter_list, declaration_list, hint_list}
use Rattle.sect_front.specs.Grammar.{record_list, global_list, procedure_list, thread_list, kind_token, tokens_of}
use Rattle.sect_front.specs.Tokens.{primitive_tokens, test_tokens, operands_tokens, call_tokens, statement_tokens}
use Rattle.sect_front.specs.Tokens.{block_tokens, declarations_tokens, hints_tokens, record_tokens, parameters_tokens}
use Rattle.sect_front.specs.Tokens.{procedure_tokens, thread_tokens, records_tokens, globals_tokens, procedures_tokens}
use Rattle.sect_front.specs.{Tokens.{threads_tokens, source_tokens}, declared.token.Token.{Token}}
use Rattle.sect_front.specs.{declared.tree.Operand.{Operand}, declared.tree.Declaration.{Declaration}}
use Rattle.sect_front.specs.{declared.tree.Record.{Record}, declared.tree.GlobalObject.{GlobalObject}}
use Rattle.sect_front.specs.{declared.tree.Procedure.{Procedure}, declared.tree.Thread.{Thread}}
use Rattle.sect_front.specs.declared.tree.Locking.TheVariants as locking
use Rattle.sect_front.specs.declared.token.Token.TheVariants as token
use Rattle.sect_front.specs.declared.tree.Primitive as leaf
use Rattle.sect_front.specs.declared.tree.Primitive.TheVariants as primitive

primitive_same : (p : leaf.Primitive) (w : List Token) → primitive_list p ++ w ≡ primitive_tokens p w
primitive_same (primitive.Assign x v) w = refl
primitive_same (primitive.Compute x v o u) w = refl
primitive_same (primitive.New x r) w = refl
primitive_same (primitive.Load x y f) w = refl
primitive_same (primitive.Store y f v) w = refl
primitive_same (primitive.Print v) w = refl

-- a list in braces, before what follows
braced : (inner w : List Token) → in_braces inner ++ w ≡ token.OpenBrace ∷ inner ++ token.CloseBrace ∷ w
braced inner w = ap (λ x. token.OpenBrace ∷ x) (append_assoc inner (token.CloseBrace ∷ []) w)

-- a list in parentheses, before what follows
enclosed : (inner w : List Token) → in_parens inner ++ w ≡ token.OpenParen ∷ inner ++ token.CloseParen ∷ w
enclosed inner w = ap (λ x. token.OpenParen ∷ x) (append_assoc inner (token.CloseParen ∷ []) w)

operands_same : (vs : List Operand) (w : List Token) → separated operand_list vs ++ w ≡ operands_tokens vs w
operands_same [] w = refl
operands_same (v ∷ []) w = refl
operands_same (v ∷ u ∷ vs) w = ap (λ x. operand_token v ∷ token.Comma ∷ x) (operands_same (u ∷ vs) w)

call_same : (f : List ℕ) (vs : List Operand) (w : List Token) → statement_list (Call f vs) ++ w ≡ call_tokens f vs w
call_same f vs w =
    let values : List Token = separated operand_list vs in
    ap (λ x. token.Call ∷ token.Name f ∷ x) (append_assoc (in_parens values) (token.Semicolon ∷ []) w ∙
    (enclosed values (token.Semicolon ∷ w) ∙
    ap (λ x. token.OpenParen ∷ x) (operands_same vs (token.CloseParen ∷ token.Semicolon ∷ w))))

block : (b : BlockView) → ((w : List Token) → statements_list b ++ w ≡ block_tokens b w) → (w : List Token) →
    in_braces (statements_list b) ++ w ≡ token.OpenBrace ∷ block_tokens b (token.CloseBrace ∷ w)
block b ih w = braced (statements_list b) w ∙ ap (λ x. token.OpenBrace ∷ x) (ih (token.CloseBrace ∷ w))

mutual
  form_same : (s : StatementView) (w : List Token) → statement_list s ++ w ≡ statement_tokens s w
  form_same (Primitive p) w = primitive_same p w
  form_same (If t a) w = ap (λ x. token.If ∷ test_tokens t x) (block a (λ v. body_same a v) w)
  form_same (IfElse t a b) w =
      ap (λ x. token.If ∷ test_tokens t x)
      (append_assoc (in_braces (statements_list a)) (token.Else ∷ in_braces (statements_list b)) w ∙
      (block a (λ v. body_same a v) (token.Else ∷ in_braces (statements_list b) ++ w)
      ∙ ap (λ x. token.OpenBrace ∷ block_tokens a (token.CloseBrace ∷ token.Else ∷ x))
      (block b (λ v. body_same b v) w)))
  form_same (While t a) w = ap (λ x. token.While ∷ test_tokens t x) (block a (λ v. body_same a v) w)
  form_same (Atomic locking.Inferred a) w = ap (λ x. token.Atomic ∷ x) (block a (λ v. body_same a v) w)
  form_same (Atomic locking.All a) w = ap (λ x. token.Atomic ∷ token.All ∷ x) (block a (λ v. body_same a v) w)
  form_same (Call f vs) w = call_same f vs w

  pub body_same : (b : BlockView) (w : List Token) → statements_list b ++ w ≡ block_tokens b w
  body_same End w = refl
  body_same (Then s b) w = append_assoc (statement_list s) (statements_list b) w
      ∙ (ap (λ x. statement_list s ++ x) (body_same b w) ∙ form_same s (block_tokens b w))

declarations_same : (ds : List Declaration) (w : List Token)
    → flat_map declaration_list ds ++ w ≡ declarations_tokens ds w
declarations_same [] w = refl
declarations_same (d ∷ ds) w =
    ap (λ x. kind_token d.kind ∷ token.Name d.name ∷ token.Semicolon ∷ x) (declarations_same ds w)

hints_same : (ns : List (List ℕ)) (w : List Token) → flat_map hint_list ns ++ w ≡ hints_tokens ns w
hints_same [] w = refl
hints_same (n ∷ ns) w = ap (λ x. token.ProtectedBy ∷ token.Name n ∷ x) (hints_same ns w)

record_same : (r : Record) (w : List Token) → record_list r ++ w ≡ record_tokens r w
record_same r w =
    ap (λ x. token.Record ∷ token.Name r.name ∷ x)
    (append_assoc (flat_map hint_list r.hints) (in_braces (flat_map declaration_list r.fields)) w ∙
    (hints_same r.hints (in_braces (flat_map declaration_list r.fields) ++ w) ∙
    ap (hints_tokens r.hints) (braced (flat_map declaration_list r.fields) w
    ∙ ap (λ x. token.OpenBrace ∷ x) (declarations_same r.fields (token.CloseBrace ∷ w)))))

parameters_same : (ds : List Declaration) (w : List Token) → separated parameter_list ds ++ w ≡ parameters_tokens ds w
parameters_same [] w = refl
parameters_same (d ∷ []) w = refl
parameters_same (d ∷ e ∷ ds) w = ap (λ x. kind_token d.kind ∷ token.Name d.name ∷ token.Comma ∷ x)
    (parameters_same (e ∷ ds) w)

-- locals and statements in braces, before what follows
whole_same : (ls : List Declaration) (b : BlockView) (w : List Token) →
    in_braces (flat_map declaration_list ls ++ statements_list b) ++ w ≡
    token.OpenBrace ∷ declarations_tokens ls (block_tokens b (token.CloseBrace ∷ w))
whole_same ls b w =
    let inner : List Token = flat_map declaration_list ls ++ statements_list b in
    braced inner w ∙ ap (λ x. token.OpenBrace ∷ x)
    (append_assoc (flat_map declaration_list ls) (statements_list b) (token.CloseBrace ∷ w) ∙
    (declarations_same ls (statements_list b ++ token.CloseBrace ∷ w) ∙
    ap (declarations_tokens ls) (body_same b (token.CloseBrace ∷ w))))

procedure_same : (p : Procedure) (w : List Token) → procedure_list p ++ w ≡ procedure_tokens p w
procedure_same p w =
    let parameters : List Token = separated parameter_list p.parameters in
    let whole : List Token = in_braces (flat_map declaration_list p.locals ++ statements_list p.body) in
    ap (λ x. token.Proc ∷ token.Name p.name ∷ x) (append_assoc (in_parens parameters) whole w ∙
    (enclosed parameters (whole ++ w) ∙
    ap (λ x. token.OpenParen ∷ x) (parameters_same p.parameters (token.CloseParen ∷ (whole ++ w)) ∙
    ap (λ x. parameters_tokens p.parameters (token.CloseParen ∷ x)) (whole_same p.locals p.body w))))

thread_same : (t : Thread) (w : List Token) → thread_list t ++ w ≡ thread_tokens t w
thread_same t w = ap (λ x. token.Thread ∷ token.Name t.name ∷ x) (whole_same t.locals t.body w)

records_same : (rs : List Record) (w : List Token) → flat_map record_list rs ++ w ≡ records_tokens rs w
records_same [] w = refl
records_same (r ∷ rs) w = append_assoc (record_list r) (flat_map record_list rs) w
    ∙ (ap (λ x. record_list r ++ x) (records_same rs w) ∙ record_same r (records_tokens rs w))

globals_same : (gs : List GlobalObject) (w : List Token) → flat_map global_list gs ++ w ≡ globals_tokens gs w
globals_same [] w = refl
globals_same (g ∷ gs) w = ap (λ x. token.Global ∷ token.Name g.of ∷ token.Name g.name ∷ token.Semicolon ∷ x)
    (globals_same gs w)

procedures_same : (ps : List Procedure) (w : List Token) → flat_map procedure_list ps ++ w ≡ procedures_tokens ps w
procedures_same [] w = refl
procedures_same (p ∷ ps) w = append_assoc (procedure_list p) (flat_map procedure_list ps) w ∙
    (ap (λ x. procedure_list p ++ x) (procedures_same ps w) ∙ procedure_same p (procedures_tokens ps w))

threads_same : (ts : List Thread) (w : List Token) → flat_map thread_list ts ++ w ≡ threads_tokens ts w
threads_same [] w = refl
threads_same (t ∷ ts) w = append_assoc (thread_list t) (flat_map thread_list ts) w
    ∙ (ap (λ x. thread_list t ++ x) (threads_same ts w) ∙ thread_same t (threads_tokens ts w))

-- the tokens of a tree before those of what follows
pub tokens_before : (s : TreeView) (w : List Token) → tokens_of s ++ w ≡ source_tokens s w
tokens_before s w =
    let records : List Token = flat_map record_list s.records in
    let globals : List Token = flat_map global_list s.globals in
    let procedures : List Token = flat_map procedure_list s.procedures in
    let threads : List Token = flat_map thread_list s.threads in
    let last : List Token = threads_tokens s.threads w in
    append_assoc (records ++ globals ++ procedures) threads w ∙
    (append_assoc (records ++ globals) procedures (threads ++ w) ∙
    (append_assoc records globals (procedures ++ (threads ++ w)) ∙
    (ap (λ x. records ++ (globals ++ (procedures ++ x))) (threads_same s.threads w) ∙
    (ap (λ x. records ++ (globals ++ x)) (procedures_same s.procedures last) ∙
    (ap (λ x. records ++ x) (globals_same s.globals (procedures_tokens s.procedures last)) ∙
    records_same s.records (globals_tokens s.globals (procedures_tokens s.procedures last)))))))

pub tokens_same : (s : TreeView) → tokens_of s ≡ source_tokens s []
tokens_same s = sym (append-nil (tokens_of s)) ∙ tokens_before s []
