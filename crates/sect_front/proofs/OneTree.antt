-- No tokens are those of two trees.
use Rattle.std.proofs.Common.{◌≡◌, ◌≢◌, ℕ, Bool, true, false, List, [], ◌∷◌, drop, refl, sym, ◌∙◌, ap, ap₂, arith}
use Rattle.std.specs.Prelude.{get_or}
use Rattle.sect_front.specs.Syntax.{StatementView, BlockView, Primitive, If, IfElse, While, Atomic, Call, End, Then}
use Rattle.sect_front.specs.Grammar.{operand_token, operator_token, comparison_token, kind_token}
use Rattle.sect_front.specs.Tokens.{primitive_tokens, test_tokens, more_operands, operands_tokens, statement_tokens}
use Rattle.sect_front.specs.Tokens.{block_tokens, declarations_tokens, hints_tokens, record_tokens, global_tokens}
use Rattle.sect_front.specs.Tokens.{more_parameters, parameters_tokens, procedure_tokens, thread_tokens}
use Rattle.sect_front.specs.Tokens.{records_tokens, globals_tokens, procedures_tokens, threads_tokens, source_tokens}
use Rattle.sect_front.specs.{TreeView.{TreeView}, declared.token.Token.{Token}, declared.tree.Operand.{Operand}}
use Rattle.sect_front.specs.{declared.tree.Operator.{Operator}, declared.tree.Comparison.{Comparison}}
use Rattle.sect_front.specs.{declared.tree.Test.{Test}, declared.tree.Kind.{Kind}}
use Rattle.sect_front.specs.{declared.tree.Declaration.{Declaration}, declared.tree.Record.{Record}}
use Rattle.sect_front.specs.{declared.tree.GlobalObject.{GlobalObject}, declared.tree.Procedure.{Procedure}}
use Rattle.sect_front.specs.declared.tree.Thread.{Thread}
use Rattle.sect_front.proofs.Places.{body_tokens}
use Rattle.sect_front.specs.declared.token.Token.TheVariants as token
use Rattle.sect_front.specs.declared.tree.Operand.TheVariants as operand
use Rattle.sect_front.specs.declared.tree.Operator.TheVariants as operator
use Rattle.sect_front.specs.declared.tree.Comparison.TheVariants as comparison
use Rattle.sect_front.specs.declared.tree.Locking.TheVariants as locking
use Rattle.sect_front.specs.declared.tree.Kind.TheVariants as kind
use Rattle.sect_front.specs.declared.tree.Primitive as leaf
use Rattle.sect_front.specs.declared.tree.Primitive.TheVariants as primitive

abbrev at : ℕ → List Token → Token
at i l = get_or l i token.Class

abbrev is_free : List Token → Bool
is_free (token.Else ∷ w) = false
is_free _ = true

-- an `else` behind an `if` would be its own
abbrev may_follow : StatementView → List Token → Bool
may_follow (If t a) w = is_free w
may_follow _ w = true

-- the operand, the operator and the comparison that a token is
abbrev operand_in : Token → Operand
operand_in (token.Number n) = operand.Number n
operand_in (token.Name n) = operand.Name n
operand_in _ = operand.Null

operand_back : (v : Operand) → operand_in (operand_token v) ≡ v
operand_back (operand.Number n) = refl
operand_back (operand.Name n) = refl
operand_back operand.Null = refl

abbrev operator_in : Token → Operator
operator_in token.Plus = operator.Add
operator_in token.Minus = operator.Subtract
operator_in _ = operator.Multiply

operator_back : (o : Operator) → operator_in (operator_token o) ≡ o
operator_back operator.Add = refl
operator_back operator.Subtract = refl
operator_back operator.Multiply = refl

abbrev comparison_in : Token → Comparison
comparison_in (token.Comparison c) = c
comparison_in _ = comparison.Less

operand_same : (v u : Operand) → operand_token v ≡ operand_token u → v ≡ u
operand_same v u e = sym (operand_back v) ∙ (ap operand_in e ∙ operand_back u)

operator_same : (o p : Operator) → operator_token o ≡ operator_token p → o ≡ p
operator_same o p e = sym (operator_back o) ∙ (ap operator_in e ∙ operator_back p)

comparison_same : (c d : Comparison) → comparison_token c ≡ comparison_token d → c ≡ d
comparison_same c d e = ap comparison_in e

abbrev name_in : Token → List ℕ
name_in (token.Name n) = n
name_in _ = []

name_same : (n m : List ℕ) → token.Name n ≡ token.Name m → n ≡ m
name_same n m e = ap name_in e

operator_no_end : (o : Operator) → operator_token o ≡ token.Semicolon → ⊥
operator_no_end operator.Add e = cc
operator_no_end operator.Subtract e = cc
operator_no_end operator.Multiply e = cc

operator_no_dot : (o : Operator) → operator_token o ≡ token.Dot → ⊥
operator_no_dot operator.Add e = cc
operator_no_dot operator.Subtract e = cc
operator_no_dot operator.Multiply e = cc

operand_no_new : (v : Operand) → operand_token v ≡ token.New → ⊥
operand_no_new (operand.Number n) e = cc
operand_no_new (operand.Name n) e = cc
operand_no_new operand.Null e = cc

operand_no_paren : (v : Operand) → operand_token v ≡ token.CloseParen → ⊥
operand_no_paren (operand.Number n) e = cc
operand_no_paren (operand.Name n) e = cc
operand_no_paren operand.Null e = cc

primitive_same : (p q : leaf.Primitive) (u w : List Token) → primitive_tokens p u ≡ primitive_tokens q w
    → (p ≡ q) × (u ≡ w)
primitive_same (primitive.Assign x v) (primitive.Assign y z) u w e =
    let a = name_same x y (ap (at 0) e) in let b = operand_same v z (ap (at 2) e) in (cc, ap (drop 4) e)
primitive_same (primitive.Compute x v o z) (primitive.Compute y r k s) u w e =
    let a = name_same x y (ap (at 0) e) in let b = operand_same v r (ap (at 2) e) in
    let c = operator_same o k (ap (at 3) e) in let d = operand_same z s (ap (at 4) e) in (cc, ap (drop 6) e)
primitive_same (primitive.New x r) (primitive.New y s) u w e =
    let a = name_same x y (ap (at 0) e) in let b = name_same r s (ap (at 3) e) in (cc, ap (drop 5) e)
primitive_same (primitive.Load x y f) (primitive.Load z r g) u w e =
    let a = name_same x z (ap (at 0) e) in let b = name_same y r (ap (at 2) e) in
    let c = name_same f g (ap (at 4) e) in (cc, ap (drop 6) e)
primitive_same (primitive.Store y f v) (primitive.Store z g r) u w e =
    let a = name_same y z (ap (at 0) e) in let b = name_same f g (ap (at 2) e) in
    let c = operand_same v r (ap (at 4) e) in (cc, ap (drop 6) e)
primitive_same (primitive.Print v) (primitive.Print z) u w e =
    let a = operand_same v z (ap (at 1) e) in (ap primitive.Print a, ap (drop 3) e)
primitive_same (primitive.Assign x v) (primitive.Compute y r k s) u w e = absurd (operator_no_end k (sym (ap (at 3) e)))
primitive_same (primitive.Compute y r k s) (primitive.Assign x v) u w e = absurd (operator_no_end k (ap (at 3) e))
primitive_same (primitive.Assign x v) (primitive.New y r) u w e = absurd (operand_no_new v (ap (at 2) e))
primitive_same (primitive.New y r) (primitive.Assign x v) u w e = absurd (operand_no_new v (sym (ap (at 2) e)))
primitive_same (primitive.Compute x v k s) (primitive.New y r) u w e = absurd (operand_no_new v (ap (at 2) e))
primitive_same (primitive.New y r) (primitive.Compute x v k s) u w e = absurd (operand_no_new v (sym (ap (at 2) e)))
primitive_same (primitive.Compute x v k s) (primitive.Load y z f) u w e = absurd (operator_no_dot k (ap (at 3) e))
primitive_same (primitive.Load y z f) (primitive.Compute x v k s) u w e = absurd (operator_no_dot k (sym (ap (at 3) e)))
primitive_same _ _ u w e = absurd cc

abbrev make : Operand → Comparison → Operand → Test
make l o r = record { left = l; comparison = o; right = r }

make_same : (l m : Operand) (o p : Comparison) (r s : Operand) → l ≡ m → o ≡ p → r ≡ s → make l o r ≡ make m p s
make_same l m o p r s a b c =
    ap (λ x. make x o r) a ∙ (ap (λ x. make m x r) b ∙ ap (λ x. make m p x) c)

test_same : (t r : Test) (u w : List Token) → test_tokens t u ≡ test_tokens r w → (t ≡ r) × (u ≡ w)
test_same t r u w e = (
  make_same t.left r.left t.comparison r.comparison t.right r.right (operand_same t.left r.left (ap (at 1) e))
      (comparison_same t.comparison r.comparison (ap (at 2) e)) (operand_same t.right r.right (ap (at 3) e)),
  ap (drop 5) e,
)

more_same : (vs us : List Operand) (u w : List Token)
    → more_operands vs (token.CloseParen ∷ u) ≡ more_operands us (token.CloseParen ∷ w) → (vs ≡ us) × (u ≡ w)
more_same [] [] u w e = (refl, ap (drop 1) e)
more_same (v ∷ vs) (z ∷ us) u w e =
    let h = more_same vs us u w (ap (drop 2) e) in (ap₂ (λ x xs. x ∷ xs) (operand_same v z (ap (at 1) e)) h.0, h.1)
more_same [] (z ∷ us) u w e = absurd cc
more_same (v ∷ vs) [] u w e = absurd cc

operands_same : (vs us : List Operand) (u w : List Token)
    → operands_tokens vs (token.CloseParen ∷ u) ≡ operands_tokens us (token.CloseParen ∷ w) → (vs ≡ us) × (u ≡ w)
operands_same [] [] u w e = (refl, ap (drop 1) e)
operands_same (v ∷ vs) (z ∷ us) u w e =
    let h = more_same vs us u w (ap (drop 1) e) in (ap₂ (λ x xs. x ∷ xs) (operand_same v z (ap (at 0) e)) h.0, h.1)
operands_same [] (z ∷ us) u w e = absurd (operand_no_paren z (sym (ap (at 0) e)))
operands_same (v ∷ vs) [] u w e = absurd (operand_no_paren v (ap (at 0) e))

-- with which token a statement begins
abbrev first_number : Token → ℕ
first_number (token.Name x) = 0
first_number token.Print = 0
first_number token.If = 1
first_number token.While = 2
first_number token.Atomic = 3
first_number token.Call = 4
first_number _ = 5

abbrev number : StatementView → ℕ
number (Primitive p) = 0
number (If t a) = 1
number (IfElse t a b) = 1
number (While t a) = 2
number (Atomic l a) = 3
number (Call f vs) = 4

numbered : (s : StatementView) (w : List Token) → first_number (at 0 (statement_tokens s w)) ≡ number s
numbered (Primitive (primitive.Assign x v)) w = refl
numbered (Primitive (primitive.Compute x v o u)) w = refl
numbered (Primitive (primitive.New x r)) w = refl
numbered (Primitive (primitive.Load x y f)) w = refl
numbered (Primitive (primitive.Store y f v)) w = refl
numbered (Primitive (primitive.Print v)) w = refl
numbered (If t a) w = refl
numbered (IfElse t a b) w = refl
numbered (While t a) w = refl
numbered (Atomic l a) w = refl
numbered (Call f vs) w = refl

same_number : (s r : StatementView) (u w : List Token) → statement_tokens s u ≡ statement_tokens r w
    → number s ≡ number r
same_number s r u w e = sym (numbered s u) ∙ (ap (λ l. first_number (at 0 l)) e ∙ numbered r w)

statement_free : (s : StatementView) (w : List Token) → is_free (statement_tokens s w) ≡ true
statement_free (Primitive (primitive.Assign x v)) w = refl
statement_free (Primitive (primitive.Compute x v o u)) w = refl
statement_free (Primitive (primitive.New x r)) w = refl
statement_free (Primitive (primitive.Load x y f)) w = refl
statement_free (Primitive (primitive.Store y f v)) w = refl
statement_free (Primitive (primitive.Print v)) w = refl
statement_free (If t a) w = refl
statement_free (IfElse t a b) w = refl
statement_free (While t a) w = refl
statement_free (Atomic l a) w = refl
statement_free (Call f vs) w = refl

block_free : (b : BlockView) (w : List Token) → is_free w ≡ true → is_free (block_tokens b w) ≡ true
block_free End w h = h
block_free (Then s b) w h = statement_free s (block_tokens b w)

may_by : (s : StatementView) (w : List Token) → is_free w ≡ true → may_follow s w ≡ true
may_by (If t a) w h = h
may_by (Primitive p) w h = refl
may_by (IfElse t a b) w h = refl
may_by (While t a) w h = refl
may_by (Atomic l a) w h = refl
may_by (Call f vs) w h = refl

low : (s : StatementView) → 5 ≡ number s → ⊥
low (Primitive p) h = omega (arith, h)
low (If t a) h = omega (arith, h)
low (IfElse t a b) h = omega (arith, h)
low (While t a) h = omega (arith, h)
low (Atomic l a) h = omega (arith, h)
low (Call f vs) h = omega (arith, h)

no_brace : (s : StatementView) (u w : List Token) → token.CloseBrace ∷ w ≡ statement_tokens s u → ⊥
no_brace s u w e = low s (ap (λ l. first_number (at 0 l)) e ∙ numbered s u)

never : {A : Type 0} → true ≡ false → A
never h = absurd cc

mutual
  form_same : (s r : StatementView) (u w : List Token) → may_follow s u ≡ true → may_follow r w ≡ true
      → statement_tokens s u ≡ statement_tokens r w → (s ≡ r) × (u ≡ w)
  form_same (Primitive p) (Primitive q) u w f g e = let h = primitive_same p q u w e in (ap Primitive h.0, h.1)
  form_same (If t a) (If r b) u w f g e =
      let h = test_same t r _ _ (ap (drop 1) e) in let k = body_same a b u w (ap (drop 1) h.1) in
      (ap₂ If h.0 k.0, k.1)
  form_same (If t a) (IfElse r b c) u w f g e =
      let h = test_same t r _ _ (ap (drop 1) e) in let k = body_same a b u _ (ap (drop 1) h.1) in
      never (sym f ∙ ap is_free k.1)
  form_same (IfElse r b c) (If t a) u w f g e =
      let h = test_same r t _ _ (ap (drop 1) e) in let k = body_same b a _ w (ap (drop 1) h.1) in
      never (sym g ∙ sym (ap is_free k.1))
  form_same (IfElse t a c) (IfElse r b d) u w f g e =
      let h = test_same t r _ _ (ap (drop 1) e) in let k = body_same a b _ _ (ap (drop 1) h.1) in
      let m = body_same c d u w (ap (drop 2) k.1) in
      (ap₂ (λ x y. IfElse x y c) h.0 k.0 ∙ ap (IfElse r b) m.0, m.1)
  form_same (While t a) (While r b) u w f g e =
      let h = test_same t r _ _ (ap (drop 1) e) in let k = body_same a b u w (ap (drop 1) h.1) in
      (ap₂ While h.0 k.0, k.1)
  form_same (Atomic locking.Inferred a) (Atomic locking.Inferred b) u w f g e =
      let k = body_same a b u w (ap (drop 2) e) in (ap (Atomic locking.Inferred) k.0, k.1)
  form_same (Atomic locking.All a) (Atomic locking.All b) u w f g e =
      let k = body_same a b u w (ap (drop 3) e) in (ap (Atomic locking.All) k.0, k.1)
  form_same (Atomic locking.Inferred a) (Atomic locking.All b) u w f g e = absurd cc
  form_same (Atomic locking.All a) (Atomic locking.Inferred b) u w f g e = absurd cc
  form_same (Call c vs) (Call d us) u w f g e =
      let a = name_same c d (ap (at 1) e) in
      let h = operands_same vs us (token.Semicolon ∷ u) (token.Semicolon ∷ w) (ap (drop 3) e) in
      (ap₂ Call a h.0, ap (drop 1) h.1)
  form_same s r u w f g e = absurd (omega (arith, same_number s r u w e))

  body_same : (b c : BlockView) (u w : List Token) → body_tokens b u ≡ body_tokens c w → (b ≡ c) × (u ≡ w)
  body_same End End u w e = (refl, ap (drop 1) e)
  body_same End (Then s c) u w e = absurd (no_brace s (body_tokens c w) u e)
  body_same (Then s b) End u w e = absurd (no_brace s (body_tokens b u) w (sym e))
  body_same (Then s b) (Then r c) u w e =
      let h = form_same s r (body_tokens b u) (body_tokens c w)
      (may_by s (body_tokens b u) (block_free b (token.CloseBrace ∷ u) refl))
      (may_by r (body_tokens c w) (block_free c (token.CloseBrace ∷ w) refl)) e in
      let k = body_same b c u w h.1 in (ap₂ Then h.0 k.0, k.1)

-- declarations, and what begins behind them with no type and name
kind_same : (k l : Kind) → kind_token k ≡ kind_token l → k ≡ l
kind_same kind.Int kind.Int e = refl
kind_same (kind.Record n) (kind.Record m) e = ap kind.Record (name_same n m e)
kind_same kind.Int (kind.Record m) e = absurd cc
kind_same (kind.Record n) kind.Int e = absurd cc

kind_no_sign : (k : Kind) (t : Token) → first_number t ≡ 5 → t ≢ token.Int → kind_token k ≡ t → ⊥
kind_no_sign kind.Int t h ne e = ne (sym e)
kind_no_sign (kind.Record n) t h ne e = omega (arith, h, ap first_number e)

declaration_same : (c d : Declaration) → kind_token c.kind ≡ kind_token d.kind → token.Name c.name ≡ token.Name d.name
    → c ≡ d
declaration_same c d e f =
    let a = kind_same c.kind d.kind e in let b = name_same c.name d.name f in
    λ i. record { kind = a i; name = b i }

-- fields
fields_same : (ds es : List Declaration) (u w : List Token) → declarations_tokens ds (token.CloseBrace ∷ u)
    ≡ declarations_tokens es (token.CloseBrace ∷ w) → (ds ≡ es) × (u ≡ w)
fields_same [] [] u w e = (refl, ap (drop 1) e)
fields_same (d ∷ ds) (c ∷ es) u w e =
    let h = fields_same ds es u w (ap (drop 3) e) in
    (ap₂ (λ x xs. x ∷ xs) (declaration_same d c (ap (at 0) e) (ap (at 1) e)) h.0, h.1)
fields_same [] (c ∷ es) u w e = absurd (kind_no_sign c.kind token.CloseBrace refl (λ x. cc) (sym (ap (at 0) e)))
fields_same (d ∷ ds) [] u w e = absurd (kind_no_sign d.kind token.CloseBrace refl (λ x. cc) (ap (at 0) e))

-- a body doesn't begin with a type and a name
no_local : (b : BlockView) (k : Kind) (n : List ℕ) (u w : List Token) → body_tokens b u ≡ kind_token k ∷ token.Name n
    ∷ w
    → ⊥
no_local End k n u w e = kind_no_sign k token.CloseBrace refl (λ x. cc) (sym (ap (at 0) e))
no_local (Then (Primitive (primitive.Assign x v)) b) k n u w e = absurd cc
no_local (Then (Primitive (primitive.Compute x v o z)) b) k n u w e = absurd cc
no_local (Then (Primitive (primitive.New x r)) b) k n u w e = absurd cc
no_local (Then (Primitive (primitive.Load x y f)) b) k n u w e = absurd cc
no_local (Then (Primitive (primitive.Store y f v)) b) k n u w e = absurd cc
no_local (Then (Primitive (primitive.Print v)) b) kind.Int n u w e = absurd cc
no_local (Then (Primitive (primitive.Print v)) b) (kind.Record m) n u w e = absurd cc
no_local (Then (If t a) b) kind.Int n u w e = absurd cc
no_local (Then (If t a) b) (kind.Record m) n u w e = absurd cc
no_local (Then (IfElse t a c) b) kind.Int n u w e = absurd cc
no_local (Then (IfElse t a c) b) (kind.Record m) n u w e = absurd cc
no_local (Then (While t a) b) kind.Int n u w e = absurd cc
no_local (Then (While t a) b) (kind.Record m) n u w e = absurd cc
no_local (Then (Atomic l a) b) kind.Int n u w e = absurd cc
no_local (Then (Atomic l a) b) (kind.Record m) n u w e = absurd cc
no_local (Then (Call f vs) b) kind.Int n u w e = absurd cc
no_local (Then (Call f vs) b) (kind.Record m) n u w e = absurd cc

-- locals and statements
whole_same : (ds es : List Declaration) (b c : BlockView) (u w : List Token)
    → declarations_tokens ds (body_tokens b u) ≡ declarations_tokens es (body_tokens c w)
    → (ds ≡ es) × (b ≡ c) × (u ≡ w)
whole_same [] [] b c u w e = let h = body_same b c u w e in (refl, h.0, h.1)
whole_same (d ∷ ds) (f ∷ es) b c u w e =
    let h = whole_same ds es b c u w (ap (drop 3) e) in
    (ap₂ (λ x xs. x ∷ xs) (declaration_same d f (ap (at 0) e) (ap (at 1) e)) h.0, h.1, h.2)
whole_same [] (f ∷ es) b c u w e = absurd (no_local b f.kind f.name u _ e)
whole_same (d ∷ ds) [] b c u w e = absurd (no_local c d.kind d.name w _ (sym e))

hints_same : (ns ms : List (List ℕ)) (u w : List Token) → hints_tokens ns (token.OpenBrace ∷ u)
    ≡ hints_tokens ms (token.OpenBrace ∷ w) → (ns ≡ ms) × (u ≡ w)
hints_same [] [] u w e = (refl, ap (drop 1) e)
hints_same (n ∷ ns) (m ∷ ms) u w e =
    let h = hints_same ns ms u w (ap (drop 2) e) in (ap₂ (λ x xs. x ∷ xs) (name_same n m (ap (at 1) e)) h.0, h.1)
hints_same [] (m ∷ ms) u w e = absurd cc
hints_same (n ∷ ns) [] u w e = absurd cc

record_same : (r s : Record) (u w : List Token) → record_tokens r u ≡ record_tokens s w → (r ≡ s) × (u ≡ w)
record_same r s u w e =
    let a = name_same r.name s.name (ap (at 1) e) in
    let h = hints_same r.hints s.hints _ _ (ap (drop 2) e) in
    let k = fields_same r.fields s.fields u w h.1 in
    (λ i. record { name = a i; hints = h.0 i; fields = k.0 i }, k.1)

global_same : (g h : GlobalObject) (u w : List Token) → global_tokens g u ≡ global_tokens h w → (g ≡ h) × (u ≡ w)
global_same g h u w e =
    let a = name_same g.of h.of (ap (at 1) e) in let b = name_same g.name h.name (ap (at 2) e) in
    (λ i. record { of = a i; name = b i }, ap (drop 4) e)

more_parameters_same : (ds es : List Declaration) (u w : List Token) → more_parameters ds (token.CloseParen ∷ u)
    ≡ more_parameters es (token.CloseParen ∷ w) → (ds ≡ es) × (u ≡ w)
more_parameters_same [] [] u w e = (refl, ap (drop 1) e)
more_parameters_same (d ∷ ds) (c ∷ es) u w e =
    let h = more_parameters_same ds es u w (ap (drop 3) e) in
    (ap₂ (λ x xs. x ∷ xs) (declaration_same d c (ap (at 1) e) (ap (at 2) e)) h.0, h.1)
more_parameters_same [] (c ∷ es) u w e = absurd cc
more_parameters_same (d ∷ ds) [] u w e = absurd cc

parameters_same : (ds es : List Declaration) (u w : List Token) → parameters_tokens ds (token.CloseParen ∷ u)
    ≡ parameters_tokens es (token.CloseParen ∷ w) → (ds ≡ es) × (u ≡ w)
parameters_same [] [] u w e = (refl, ap (drop 1) e)
parameters_same (d ∷ ds) (c ∷ es) u w e =
    let h = more_parameters_same ds es u w (ap (drop 2) e) in
    (ap₂ (λ x xs. x ∷ xs) (declaration_same d c (ap (at 0) e) (ap (at 1) e)) h.0, h.1)
parameters_same [] (c ∷ es) u w e = absurd (kind_no_sign c.kind token.CloseParen refl (λ x. cc) (sym (ap (at 0) e)))
parameters_same (d ∷ ds) [] u w e = absurd (kind_no_sign d.kind token.CloseParen refl (λ x. cc) (ap (at 0) e))

procedure_same : (p q : Procedure) (u w : List Token) → procedure_tokens p u ≡ procedure_tokens q w
    → (p ≡ q) × (u ≡ w)
procedure_same p q u w e =
    let a = name_same p.name q.name (ap (at 1) e) in
    let h = parameters_same p.parameters q.parameters _ _ (ap (drop 3) e) in
    let k = whole_same p.locals q.locals p.body q.body u w (ap (drop 1) h.1) in
    (λ i. record { name = a i; parameters = h.0 i; locals = k.0 i; body = k.1 i }, k.2)

thread_same : (t s : Thread) (u w : List Token) → thread_tokens t u ≡ thread_tokens s w → (t ≡ s) × (u ≡ w)
thread_same t s u w e =
    let a = name_same t.name s.name (ap (at 1) e) in
    let k = whole_same t.locals s.locals t.body s.body u w (ap (drop 3) e) in
    (λ i. record { name = a i; locals = k.0 i; body = k.1 i }, k.2)

threads_same : (ts ss : List Thread) → threads_tokens ts [] ≡ threads_tokens ss [] → ts ≡ ss
threads_same [] [] e = refl
threads_same (t ∷ ts) (s ∷ ss) e =
    let h = thread_same t s (threads_tokens ts []) (threads_tokens ss []) e in
    ap₂ (λ x xs. x ∷ xs) h.0 (threads_same ts ss h.1)
threads_same [] (s ∷ ss) e = absurd cc
threads_same (t ∷ ts) [] e = absurd cc

-- where threads stand no procedure does, and so on
no_procedure : (ts : List Thread) (p : Procedure) (w : List Token) → threads_tokens ts [] ≡ procedure_tokens p w → ⊥
no_procedure [] p w e = absurd cc
no_procedure (t ∷ ts) p w e = absurd cc

procedures_same : (ps qs : List Procedure) (ts ss : List Thread) → procedures_tokens ps (threads_tokens ts [])
    ≡ procedures_tokens qs (threads_tokens ss []) → (ps ≡ qs) × (ts ≡ ss)
procedures_same [] [] ts ss e = (refl, threads_same ts ss e)
procedures_same (p ∷ ps) (q ∷ qs) ts ss e =
    let h = procedure_same p q _ _ e in let k = procedures_same ps qs ts ss h.1 in
    (ap₂ (λ x xs. x ∷ xs) h.0 k.0, k.1)
procedures_same [] (q ∷ qs) ts ss e = absurd (no_procedure ts q _ e)
procedures_same (p ∷ ps) [] ts ss e = absurd (no_procedure ss p _ (sym e))

no_global : (ps : List Procedure) (ts : List Thread) (g : GlobalObject) (w : List Token)
    → procedures_tokens ps (threads_tokens ts []) ≡ global_tokens g w → ⊥
no_global [] [] g w e = absurd cc
no_global [] (t ∷ ts) g w e = absurd cc
no_global (p ∷ ps) ts g w e = absurd cc

globals_same : (gs hs : List GlobalObject) (ps qs : List Procedure) (ts ss : List Thread)
    → globals_tokens gs (procedures_tokens ps (threads_tokens ts []))
    ≡ globals_tokens hs (procedures_tokens qs (threads_tokens ss [])) → (gs ≡ hs) × (ps ≡ qs) × (ts ≡ ss)
globals_same [] [] ps qs ts ss e = let h = procedures_same ps qs ts ss e in (refl, h.0, h.1)
globals_same (g ∷ gs) (h ∷ hs) ps qs ts ss e =
    let k = global_same g h _ _ e in let m = globals_same gs hs ps qs ts ss k.1 in
    (ap₂ (λ x xs. x ∷ xs) k.0 m.0, m.1, m.2)
globals_same [] (h ∷ hs) ps qs ts ss e = absurd (no_global ps ts h _ e)
globals_same (g ∷ gs) [] ps qs ts ss e = absurd (no_global qs ss g _ (sym e))

no_record : (gs : List GlobalObject) (ps : List Procedure) (ts : List Thread) (r : Record) (w : List Token)
    → globals_tokens gs (procedures_tokens ps (threads_tokens ts [])) ≡ record_tokens r w → ⊥
no_record [] [] [] r w e = absurd cc
no_record [] [] (t ∷ ts) r w e = absurd cc
no_record [] (p ∷ ps) ts r w e = absurd cc
no_record (g ∷ gs) ps ts r w e = absurd cc

records_same : (rs qs : List Record) (s t : TreeView)
    → records_tokens rs (globals_tokens s.globals (procedures_tokens s.procedures (threads_tokens s.threads [])))
    ≡ records_tokens qs (globals_tokens t.globals (procedures_tokens t.procedures (threads_tokens t.threads [])))
    → (rs ≡ qs) × (s.globals ≡ t.globals) × (s.procedures ≡ t.procedures) × (s.threads ≡ t.threads)
records_same [] [] s t e =
    let h = globals_same s.globals t.globals s.procedures t.procedures s.threads t.threads e in (refl, h.0, h.1, h.2)
records_same (r ∷ rs) (q ∷ qs) s t e =
    let k = record_same r q _ _ e in let m = records_same rs qs s t k.1 in
    (ap₂ (λ x xs. x ∷ xs) k.0 m.0, m.1, m.2, m.3)
records_same [] (q ∷ qs) s t e = absurd (no_record s.globals s.procedures s.threads q _ e)
records_same (r ∷ rs) [] s t e = absurd (no_record t.globals t.procedures t.threads r _ (sym e))

-- trees of the same tokens are the same
pub one_tree : (s t : TreeView) → source_tokens s [] ≡ source_tokens t [] → s ≡ t
one_tree s t e =
    let h = records_same s.records t.records s t e in
    λ i. record { records = h.0 i; globals = h.1 i; procedures = h.2 i; threads = h.3 i }
