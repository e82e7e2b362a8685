-- The tokens of a text that are names, and the names of its tree.
use Rattle.std.proofs.Common.{◌≡◌, ℕ, ◌+◌, Bool, true, false, List, [], ◌∷◌, length, map, refl, subst, sym, ap, ◌∙◌}
use Rattle.std.proofs.{Common.{arith, append-nil, if◌then◌else◌}, lemmas.List.{length-map}}
use Rattle.std.specs.Prelude.{filter}
use Rattle.sect_front.specs.{TreeView.{TreeView}, TokenAt.{TokenAt}, Front.{IsSpelled}, FaultPlaces.{token_span}}
use Rattle.sect_front.specs.Faults.{tokens_in}
use Rattle.sect_front.specs.Syntax.{StatementView, BlockView, Primitive, If, IfElse, While, Atomic, Call, End, Then}
use Rattle.sect_front.specs.Grammar.{tokens_of, operand_token, operator_token, kind_token}
use Rattle.sect_front.specs.Tokens.{primitive_tokens, test_tokens, locking_tokens, more_operands, operands_tokens}
use Rattle.sect_front.specs.Tokens.{statement_tokens, block_tokens, declarations_tokens, hints_tokens, records_tokens}
use Rattle.sect_front.specs.Tokens.{globals_tokens, more_parameters, parameters_tokens, procedures_tokens}
use Rattle.sect_front.specs.{Tokens.{threads_tokens}, declared.span.Span.{Span}, declared.token.Token.{Token}}
use Rattle.sect_front.specs.{declared.tree.Operand.{Operand}, declared.tree.Operator.{Operator}}
use Rattle.sect_front.specs.{declared.tree.Test.{Test}, declared.tree.Locking.{Locking}, declared.tree.Kind.{Kind}}
use Rattle.sect_front.specs.{declared.tree.Declaration.{Declaration}, declared.tree.Record.{Record}}
use Rattle.sect_front.specs.{declared.tree.GlobalObject.{GlobalObject}, declared.tree.Procedure.{Procedure}}
use Rattle.sect_front.specs.{declared.tree.Thread.{Thread}, NameTokens.{is_name_token}}
use Rattle.sect_front.proofs.shared.Listed.{tokens_before}
use Rattle.sect_places.specs.{declared.name_use.NameUse.{NameUse}, declared.name_use.NameSpan.{NameSpan}}
use Rattle.sect_places.specs.{declared.name_use.Thing.{Thing}, declared.name_use.Role.{Role}}
use Rattle.sect_places.specs.ItemCounts.{items_in_block, items_in_statement, items_in_records, items_in_procedure}
use Rattle.sect_places.specs.{ItemCounts.{items_in_thread}, Origins.{first_procedure, first_thread}}
use Rattle.sect_places.specs.NameUses.{kind_uses, operand_uses, primitive_uses, test_uses, argument_uses}
use Rattle.sect_places.specs.NameUses.{statement_uses, block_uses, declarations_uses, hints_uses, records_uses}
use Rattle.sect_places.specs.NameUses.{globals_uses, procedures_uses, threads_uses, name_uses}
use Rattle.sect_places.specs.{NameSpans.{names_among, AreNameSpans}, Spans.{AreInOrder, IsProper, AreProper}}
use Rattle.sect_places.proofs.Whole.{spans_order}
use Rattle.sect_front.specs.declared.token.Token.TheVariants as token
use Rattle.sect_front.specs.declared.tree.Operand.TheVariants as operand
use Rattle.sect_front.specs.declared.tree.Operator.TheVariants as operator
use Rattle.sect_front.specs.declared.tree.Primitive as leaf
use Rattle.sect_front.specs.declared.tree.Primitive.TheVariants as primitive
use Rattle.sect_front.specs.declared.tree.Locking.TheVariants as locking
use Rattle.sect_front.specs.declared.tree.Kind.TheVariants as kind
use Rattle.sect_places.specs.declared.name_use.Thing.TheVariants as thing
use Rattle.sect_places.specs.declared.name_use.Role.TheVariants as role

-- the token of a name
abbrev token_of : NameUse → Token
token_of u = token.Name u.name

-- the names among these tokens are these
abbrev AreNames : List Token → List NameUse → Type 0
AreNames ts us = filter is_name_token ts ≡ map token_of us

operand_named : (m n : ℕ) (r : Role) (v : Operand) (ts : List Token) (us : List NameUse) → AreNames ts us
    → AreNames (operand_token v ∷ ts) (operand_uses m n r v us)
operand_named m n r (operand.Number x) ts us h = h
operand_named m n r operand.Null ts us h = h
operand_named m n r (operand.Name x) ts us h = ap (λ l. token.Name x ∷ l) h

operator_named : (o : Operator) (ts : List Token) (us : List NameUse) → AreNames ts us
    → AreNames (operator_token o ∷ ts) us
operator_named operator.Add ts us h = h
operator_named operator.Subtract ts us h = h
operator_named operator.Multiply ts us h = h

kind_named : (m n : ℕ) (k : Kind) (ts : List Token) (us : List NameUse) → AreNames ts us
    → AreNames (kind_token k ∷ ts) (kind_uses m n k us)
kind_named m n kind.Int ts us h = h
kind_named m n (kind.Record x) ts us h = ap (λ l. token.Name x ∷ l) h

primitive_named : (m n : ℕ) (p : leaf.Primitive) (ts : List Token) (us : List NameUse) → AreNames ts us
    → AreNames (primitive_tokens p ts) (primitive_uses m n p us)
primitive_named m n (primitive.Assign x v) ts us h =
    ap (λ l. token.Name x ∷ l) (operand_named m n (role.Operand 0) v (token.Semicolon ∷ ts) us h)
primitive_named m n (primitive.Compute x v o u) ts us h =
    let rest : List Token = operand_token u ∷ token.Semicolon ∷ ts in
    ap (λ l. token.Name x ∷ l) (operand_named m n (role.Operand 0) v (operator_token o ∷ rest) _
    (operator_named o rest _ (operand_named m n (role.Operand 1) u (token.Semicolon ∷ ts) us h)))
primitive_named m n (primitive.New x r) ts us h = ap (λ l. token.Name x ∷ token.Name r ∷ l) h
primitive_named m n (primitive.Load x y f) ts us h = ap (λ l. token.Name x ∷ token.Name y ∷ token.Name f ∷ l) h
primitive_named m n (primitive.Store y f v) ts us h =
    ap (λ l. token.Name y ∷ token.Name f ∷ l) (operand_named m n (role.Operand 0) v (token.Semicolon ∷ ts) us h)
primitive_named m n (primitive.Print v) ts us h = operand_named m n (role.Operand 0) v (token.Semicolon ∷ ts) us h

test_named : (m n : ℕ) (t : Test) (ts : List Token) (us : List NameUse) → AreNames ts us
    → AreNames (test_tokens t ts) (test_uses m n t us)
test_named m n t ts us h =
    let rest : List Token = operand_token t.right ∷ token.CloseParen ∷ ts in
    operand_named m n (role.Operand 0) t.left (token.Comparison t.comparison ∷ rest) _
    (operand_named m n (role.Operand 1) t.right (token.CloseParen ∷ ts) us h)

more_named : (m n i : ℕ) (vs : List Operand) (ts : List Token) (us : List NameUse) → AreNames ts us
    → AreNames (more_operands vs ts) (argument_uses m n i vs us)
more_named m n i [] ts us h = h
more_named m n i (v ∷ vs) ts us h =
    operand_named m n (role.Operand i) v (more_operands vs ts) _ (more_named m n (i + 1) vs ts us h)

arguments_named : (m n : ℕ) (vs : List Operand) (ts : List Token) (us : List NameUse) → AreNames ts us
    → AreNames (operands_tokens vs ts) (argument_uses m n 0 vs us)
arguments_named m n [] ts us h = h
arguments_named m n (v ∷ vs) ts us h =
    operand_named m n (role.Operand 0) v (more_operands vs ts) _ (more_named m n (0 + 1) vs ts us h)

locking_named : (l : Locking) (ts : List Token) (us : List NameUse) → AreNames ts us
    → AreNames (locking_tokens l ts) us
locking_named locking.Inferred ts us h = h
locking_named locking.All ts us h = h

mutual
  statement_named : (m n : ℕ) (s : StatementView) (ts : List Token) (us : List NameUse) → AreNames ts us
      → AreNames (statement_tokens s ts) (statement_uses m n s us)
  statement_named m n (Primitive p) ts us h = primitive_named m n p ts us h
  statement_named m n (If t a) ts us h =
      test_named m n t (token.OpenBrace ∷ block_tokens a (token.CloseBrace ∷ ts)) _
      (block_named m (n + 1) a (token.CloseBrace ∷ ts) us h)
  statement_named m n (IfElse t a b) ts us h =
      let other : List Token = token.CloseBrace ∷ token.Else ∷ token.OpenBrace
      ∷ block_tokens b (token.CloseBrace ∷ ts) in
      test_named m n t (token.OpenBrace ∷ block_tokens a other) _ (block_named m (n + 1) a other _
      (block_named m (n + 1 + items_in_block a) b (token.CloseBrace ∷ ts) us h))
  statement_named m n (While t a) ts us h =
      test_named m n t (token.OpenBrace ∷ block_tokens a (token.CloseBrace ∷ ts)) _
      (block_named m (n + 1) a (token.CloseBrace ∷ ts) us h)
  statement_named m n (Atomic l a) ts us h =
      locking_named l (token.OpenBrace ∷ block_tokens a (token.CloseBrace ∷ ts)) _
      (block_named m (n + 1) a (token.CloseBrace ∷ ts) us h)
  statement_named m n (Call f vs) ts us h =
      ap (λ l. token.Name f ∷ l) (arguments_named m n vs (token.CloseParen ∷ token.Semicolon ∷ ts) us h)

  block_named : (m n : ℕ) (b : BlockView) (ts : List Token) (us : List NameUse) → AreNames ts us
      → AreNames (block_tokens b ts) (block_uses m n b us)
  block_named m n End ts us h = h
  block_named m n (Then s b) ts us h =
      statement_named m n s (block_tokens b ts) _ (block_named m (n + items_in_statement s) b ts us h)

declarations_named : (m n : ℕ) (what : Thing) (ds : List Declaration) (ts : List Token) (us : List NameUse)
    → AreNames ts us → AreNames (declarations_tokens ds ts) (declarations_uses m n what ds us)
declarations_named m n what [] ts us h = h
declarations_named m n what (d ∷ ds) ts us h =
    kind_named m n d.kind (token.Name d.name ∷ token.Semicolon ∷ declarations_tokens ds ts) _
    (ap (λ l. token.Name d.name ∷ l) (declarations_named m (n + 1) what ds ts us h))

others_named : (m n : ℕ) (what : Thing) (ds : List Declaration) (ts : List Token) (us : List NameUse) → AreNames ts us
    → AreNames (more_parameters ds ts) (declarations_uses m n what ds us)
others_named m n what [] ts us h = h
others_named m n what (d ∷ ds) ts us h =
    kind_named m n d.kind (token.Name d.name ∷ more_parameters ds ts) _
    (ap (λ l. token.Name d.name ∷ l) (others_named m (n + 1) what ds ts us h))

parameters_named : (m n : ℕ) (what : Thing) (ds : List Declaration) (ts : List Token) (us : List NameUse)
    → AreNames ts us → AreNames (parameters_tokens ds ts) (declarations_uses m n what ds us)
parameters_named m n what [] ts us h = h
parameters_named m n what (d ∷ ds) ts us h =
    kind_named m n d.kind (token.Name d.name ∷ more_parameters ds ts) _
    (ap (λ l. token.Name d.name ∷ l) (others_named m (n + 1) what ds ts us h))

hints_named : (n : ℕ) (xs : List (List ℕ)) (ts : List Token) (us : List NameUse) → AreNames ts us
    → AreNames (hints_tokens xs ts) (hints_uses n xs us)
hints_named n [] ts us h = h
hints_named n (x ∷ xs) ts us h = ap (λ l. token.Name x ∷ l) (hints_named n xs ts us h)

records_named : (n : ℕ) (rs : List Record) (ts : List Token) (us : List NameUse) → AreNames ts us
    → AreNames (records_tokens rs ts) (records_uses n rs us)
records_named n [] ts us h = h
records_named n (r ∷ rs) ts us h =
    let rest : List Token = token.CloseBrace ∷ records_tokens rs ts in
    ap (λ l. token.Name r.name ∷ l)
    (hints_named n r.hints (token.OpenBrace ∷ declarations_tokens r.fields rest) _
    (declarations_named n (n + 1) thing.Field r.fields rest _ (records_named (n + (1 + length r.fields)) rs ts us h)))

globals_named : (n : ℕ) (gs : List GlobalObject) (ts : List Token) (us : List NameUse) → AreNames ts us
    → AreNames (globals_tokens gs ts) (globals_uses n gs us)
globals_named n [] ts us h = h
globals_named n (g ∷ gs) ts us h = ap (λ l. token.Name g.of ∷ token.Name g.name ∷ l) (globals_named (n + 1) gs ts us h)

procedures_named : (n : ℕ) (ps : List Procedure) (ts : List Token) (us : List NameUse) → AreNames ts us
    → AreNames (procedures_tokens ps ts) (procedures_uses n ps us)
procedures_named n [] ts us h = h
procedures_named n (p ∷ ps) ts us h =
    let rest : List Token = token.CloseBrace ∷ procedures_tokens ps ts in
    let locals : List Token = declarations_tokens p.locals (block_tokens p.body rest) in
    ap (λ l. token.Name p.name ∷ l)
    (parameters_named n (n + 1) thing.Local p.parameters (token.CloseParen ∷ token.OpenBrace ∷ locals) _
    (declarations_named n (n + 1 + length p.parameters) thing.Local p.locals (block_tokens p.body rest) _
    (block_named n (n + 1 + length p.parameters + length p.locals) p.body rest _
    (procedures_named (n + items_in_procedure p) ps ts us h))))

threads_named : (n : ℕ) (hs : List Thread) (ts : List Token) (us : List NameUse) → AreNames ts us
    → AreNames (threads_tokens hs ts) (threads_uses n hs us)
threads_named n [] ts us h = h
threads_named n (x ∷ hs) ts us h =
    let rest : List Token = token.CloseBrace ∷ threads_tokens hs ts in
    ap (λ l. token.Name x.name ∷ l) (declarations_named n (n + 1) thing.Local x.locals (block_tokens x.body rest) _
    (block_named n (n + 1 + length x.locals) x.body rest _ (threads_named (n + items_in_thread x) hs ts us h)))

-- the names among the tokens of a tree are the names of the tree
tree_named : (t : TreeView) → AreNames (tokens_of t) (name_uses t)
tree_named t =
    let bodies : List Token = procedures_tokens t.procedures (threads_tokens t.threads []) in
    ap (filter is_name_token) (sym (append-nil (tokens_of t)) ∙ tokens_before t [])
    ∙ records_named 0 t.records (globals_tokens t.globals bodies) _
    (globals_named (items_in_records t.records) t.globals bodies _
    (procedures_named (first_procedure t) t.procedures (threads_tokens t.threads []) _
    (threads_named (first_thread t) t.threads [] [] refl)))

tokens_among : (ps : List TokenAt)
    → filter is_name_token (tokens_in ps) ≡ map (λ (p : TokenAt). p.token) (names_among ps)
tokens_among [] = refl
tokens_among (p ∷ ps) = by_test p ps (is_name_token p.token) (tokens_among ps)
  where
    by_test : (q : TokenAt) (qs : List TokenAt) (b : Bool)
        → filter is_name_token (tokens_in qs) ≡ map (λ (x : TokenAt). x.token) (names_among qs)
        → (if b then q.token ∷ filter is_name_token (tokens_in qs) else filter is_name_token (tokens_in qs))
        ≡ map (λ (x : TokenAt). x.token) (if b then q ∷ names_among qs else names_among qs)
    by_test q qs true h = ap (λ l. q.token ∷ l) h
    by_test q qs false h = h

-- spans in order have bytes, and lie in the text
in_order_proper : (from total : ℕ) (ss : List Span) → AreInOrder from total ss → AreProper total ss
in_order_proper from total [] h = tt
in_order_proper from total (x ∷ ss) h = ((h.1, h.2), in_order_proper x.end total ss h.3)

-- and so have those of the names
named_proper : (total : ℕ) (ps : List TokenAt) → AreProper total (map token_span ps)
    → AreProper total (map token_span (names_among ps))
named_proper total [] h = tt
named_proper total (p ∷ ps) h = by_test (is_name_token p.token) h.0 (named_proper total ps h.1)
  where
    by_test : (b : Bool) → IsProper total (token_span p) → AreProper total (map token_span (names_among ps))
        → AreProper total (map token_span (if b then p ∷ names_among ps else names_among ps))
    by_test true h k = (h, k)
    by_test false h k = k

map_map : {A B C : Type 0} (f : B → C) (g : A → B) (xs : List A) → map f (map g xs) ≡ map (λ x. f (g x)) xs
map_map f g [] = refl
map_map f g (x ∷ xs) = ap (λ l. f (g x) ∷ l) (map_map f g xs)

module _ (bytes : List ℕ) (t : TreeView) (s : IsSpelled bytes t) where
  names_are : map token_of (name_uses t) ≡ map (λ (p : TokenAt). p.token) (names_among s.places)
  names_are = sym (tree_named t) ∙ ap (filter is_name_token) s.parses.tokens ∙ tokens_among s.places

  -- the text has as many names as its tree
  pub as_many_names : length (names_among s.places) ≡ length (name_uses t)
  as_many_names = omega (
    arith,
    ap length names_are,
    length-map (names_among s.places) (λ (p : TokenAt). p.token),
    length-map (name_uses t) token_of,
  )

  pub are_name_spans : (names : List NameSpan) → map (λ (n : NameSpan). n.used) names ≡ name_uses t
      → map (λ (n : NameSpan). n.span) names ≡ map token_span (names_among s.places) → AreNameSpans bytes t names
  are_name_spans names e f = record {
    spelled = s;
    spans = f;
    named = sym (map_map token_of (λ (n : NameSpan). n.used) names) ∙ ap (map token_of) e ∙ names_are;
    uses = e;
    proper = subst (AreProper (length bytes)) (sym f) (named_proper (length bytes) s.places
        (in_order_proper 0 (length bytes) (map token_span s.places)
        (spans_order bytes t s (map token_span s.places) refl)));
  }
