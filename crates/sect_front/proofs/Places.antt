-- The places of the grammar: tokens that lead through them are those of trees.
use Rattle.std.proofs.Common.{◌≡◌, ℕ, List, [], ◌∷◌, ◌++◌, Option, Some, None, refl, sym, ◌∙◌, ap}
use Rattle.std.proofs.Common.{subst, option_and_then}
use Rattle.std.specs.Prelude.{⊤}
use Rattle.sect_front.specs.Syntax.{BlockView, Primitive, If, IfElse, While, Atomic, Call, End, Then}
use Rattle.sect_front.specs.Grammar.{operand_token, operator_token, kind_token}
use Rattle.sect_front.specs.Tokens.{primitive_tokens, test_tokens, locking_tokens, more_operands, operands_tokens}
use Rattle.sect_front.specs.Tokens.{block_tokens, declarations_tokens, hints_tokens}
use Rattle.sect_front.specs.Tokens.{more_parameters, parameters_tokens}
use Rattle.sect_front.specs.Tokens.{records_tokens, globals_tokens, procedures_tokens, threads_tokens}
use Rattle.sect_front.specs.{declared.token.Token.{Token}, declared.tree.Operand.{Operand}}
use Rattle.sect_front.specs.{declared.tree.Operator.{Operator}, declared.tree.Comparison.{Comparison}}
use Rattle.sect_front.specs.{declared.tree.Test.{Test}, declared.tree.Locking.{Locking}, declared.tree.Kind.{Kind}}
use Rattle.sect_front.specs.{declared.tree.Declaration.{Declaration}, declared.tree.Record.{Record}}
use Rattle.sect_front.specs.{declared.tree.GlobalObject.{GlobalObject}, declared.tree.Procedure.{Procedure}}
use Rattle.sect_front.specs.{declared.tree.Thread.{Thread}, declared.expected.Expected.{Expected}}
use Rattle.sect_front.specs.steps.Places.{follows, after, start_follows, first_follows, test_places}
use Rattle.sect_front.specs.steps.Places.{store_places, threads_follow, procedures_follow, globals_follow}
use Rattle.sect_lemmas.proofs.Options.{some_injective, none_or_some}
use Rattle.sect_front.specs.declared.token.Token.TheVariants as token
use Rattle.sect_front.specs.declared.tree.Operand.TheVariants as operand
use Rattle.sect_front.specs.declared.tree.Operator.TheVariants as operator
use Rattle.sect_front.specs.declared.tree.Comparison.TheVariants as comparison
use Rattle.sect_front.specs.declared.tree.Locking.TheVariants as locking
use Rattle.sect_front.specs.declared.tree.Kind.TheVariants as kind
use Rattle.sect_front.specs.declared.tree.Primitive as leaf
use Rattle.sect_front.specs.declared.tree.Primitive.TheVariants as primitive
use Rattle.sect_front.specs.declared.expected.Expected.TheVariants as expected

-- {stmt} "}", before what follows
abbrev pub body_tokens : BlockView → List Token → List Token
body_tokens b w = block_tokens b (token.CloseBrace ∷ w)

-- what a place stands for: these tokens, before those
abbrev pub Reads : Expected → List Token → List Token → Type 0
Reads expected.Name x w = (n : List ℕ) × (x ≡ token.Name n ∷ w)
Reads expected.Semicolon x w = x ≡ token.Semicolon ∷ w
Reads expected.Equal x w = x ≡ token.Equal ∷ w
Reads expected.OpenParen x w = x ≡ token.OpenParen ∷ w
Reads expected.CloseParen x w = x ≡ token.CloseParen ∷ w
Reads expected.OpenBrace x w = (b : BlockView) × (x ≡ token.OpenBrace ∷ body_tokens b w)
Reads expected.Comparison x w = (c : Comparison) × (x ≡ token.Comparison c ∷ w)
Reads expected.Operand x w = (v : Operand) × (x ≡ operand_token v ∷ w)
Reads expected.AfterName x w = (n : List ℕ) → (p : leaf.Primitive) × (primitive_tokens p w ≡ token.Name n ∷ x)
Reads expected.Value x w =
    (n : List ℕ) → (p : leaf.Primitive) × (primitive_tokens p w ≡ token.Name n ∷ token.Equal ∷ x)
Reads expected.AfterFirst x w = (n : List ℕ) (v : Operand)
    → (p : leaf.Primitive) × (primitive_tokens p w ≡ token.Name n ∷ token.Equal ∷ operand_token v ∷ x)
Reads expected.AfterFirstName x w = (n m : List ℕ)
    → (p : leaf.Primitive) × (primitive_tokens p w ≡ token.Name n ∷ token.Equal ∷ token.Name m ∷ x)
Reads expected.AllOrBrace x w = (l : Locking) × (b : BlockView) ×
    (x ≡ locking_tokens l (token.OpenBrace ∷ body_tokens b w))
Reads expected.Argument x w = (vs : List Operand) × (x ≡ operands_tokens vs (token.CloseParen ∷ w))
Reads expected.AfterArgument x w = (vs : List Operand) × (x ≡ more_operands vs (token.CloseParen ∷ w))
Reads expected.Start x w = (b : BlockView) × (x ≡ body_tokens b w)
Reads expected.StartOrElse x w = (t : Test) (a : BlockView)
    → (b : BlockView) × (body_tokens b w ≡ token.If ∷ test_tokens t (token.OpenBrace ∷ body_tokens a x))
Reads expected.StartOrLocal x w = (ds : List Declaration) × (b : BlockView) × (x ≡ declarations_tokens ds
    (body_tokens b w))
Reads expected.NameOrAfterName x w = (n : List ℕ)
    → (ds : List Declaration) × (b : BlockView) × (declarations_tokens ds (body_tokens b w) ≡ token.Name n ∷ x)
Reads expected.Field x w = (ds : List Declaration) × (x ≡ declarations_tokens ds (token.CloseBrace ∷ w))
Reads expected.HintOrBrace x w = (ns : List (List ℕ)) × (ds : List Declaration)
    × (x ≡ hints_tokens ns (token.OpenBrace ∷ declarations_tokens ds (token.CloseBrace ∷ w)))
Reads expected.Parameter x w = (ds : List Declaration) × (x ≡ parameters_tokens ds (token.CloseParen ∷ w))
Reads expected.AfterParameter x w = (ds : List Declaration) × (x ≡ more_parameters ds (token.CloseParen ∷ w))
Reads expected.Kind x w = (k : Kind) × (x ≡ kind_token k ∷ w)
Reads expected.OpenBody x w =
    (ds : List Declaration) × (b : BlockView) × (x ≡ token.OpenBrace ∷ declarations_tokens ds (body_tokens b w))
Reads expected.Records x w = (rs : List Record) × (gs : List GlobalObject) × (ps : List Procedure) × (ts : List Thread)
    × (x ≡ records_tokens rs (globals_tokens gs (procedures_tokens ps (threads_tokens ts w))))
Reads expected.Globals x w = (gs : List GlobalObject) × (ps : List Procedure) × (ts : List Thread)
    × (x ≡ globals_tokens gs (procedures_tokens ps (threads_tokens ts w)))
Reads expected.Procedures x w = (ps : List Procedure) × (ts : List Thread)
    × (x ≡ procedures_tokens ps (threads_tokens ts w))
Reads expected.Threads x w = (ts : List Thread) × (x ≡ threads_tokens ts w)

-- the same of some places, one after another
abbrev pub ReadAll : List Expected → List Token → List Token → Type 0
ReadAll [] x w = x ≡ w
ReadAll (e ∷ list) x w = (m : List Token) × Reads e x m × ReadAll list m w

-- a token that is followed by what these places stand for begins what the place stands for
abbrev Closes : Expected → Token → Option (List Expected) → List Token → List Token → Type 0
Closes e t None x w = ⊤
Closes e t (Some list) x w = ReadAll list x w → Reads e (t ∷ x) w

-- one place stands for what another does
abbrev Widens : Expected → Expected → Token → List Token → List Token → Type 0
Widens d e t x w = Reads d (t ∷ x) w → Reads e (t ∷ x) w

widened : (d e : Expected) (t : Token) (o : Option (List Expected)) (x w : List Token) → Widens d e t x w
    → Closes d t o x w → Closes e t o x w
widened d e t None x w h k = tt
widened d e t (Some list) x w h k = λ r. h (k r)

-- the only place
last : (e : Expected) (x w : List Token) → ReadAll (e ∷ []) x w → Reads e x w
last e x w r = subst (Reads e x) r.2 r.1

named_in : (list : List Expected) (x w : List Token) → ReadAll (expected.Name ∷ expected.Semicolon ∷ list) x w
    → (n : List ℕ) × (m : List Token) × (x ≡ token.Name n ∷ token.Semicolon ∷ m) × ReadAll list m w
named_in list x w r = (r.1.0, r.2.0, r.1.1 ∙ ap (λ y. token.Name r.1.0 ∷ y) r.2.1, r.2.2)

valued_in : (list : List Expected) (x w : List Token) → ReadAll (expected.Operand ∷ expected.Semicolon ∷ list) x w
    → (v : Operand) × (m : List Token) × (x ≡ operand_token v ∷ token.Semicolon ∷ m) × ReadAll list m w
valued_in list x w r = (r.1.0, r.2.0, r.1.1 ∙ ap (λ y. operand_token r.1.0 ∷ y) r.2.1, r.2.2)

stored_in : (list : List Expected) (x w : List Token) → ReadAll (store_places list) x w
    → (f : List ℕ) × (v : Operand) × (m : List Token)
    × (x ≡ token.Name f ∷ token.Equal ∷ operand_token v ∷ token.Semicolon ∷ m) × ReadAll list m w
stored_in list x w r = let h = valued_in list r.2.0 w r.2.2 in (
  r.1.0,
  h.0,
  h.1,
  r.1.1 ∙ ap (λ y. token.Name r.1.0 ∷ y) (r.2.1 ∙ ap (λ y. token.Equal ∷ y) h.2),
  h.3,
)

tested_in : (list : List Expected) (x w : List Token) → ReadAll (test_places list) x w
    → (t : Test) × (m : List Token) × (x ≡ test_tokens t m) × ReadAll list m w
tested_in list x w r = (
  record { left = r.2.1.0; comparison = r.2.2.1.0; right = r.2.2.2.1.0 },
  r.2.2.2.2.0,
  r.1 ∙ ap (λ y. token.OpenParen ∷ y) (r.2.1.1 ∙ ap (λ y. operand_token r.2.1.0 ∷ y) (r.2.2.1.1
      ∙ ap (λ y. token.Comparison r.2.2.1.0 ∷ y) (r.2.2.2.1.1 ∙ ap (λ y. operand_token r.2.2.2.1.0 ∷ y) r.2.2.2.2.1))),
  r.2.2.2.2.2,
)

computed : (o : Operator) (x w : List Token) → ReadAll (expected.Operand ∷ expected.Semicolon ∷ []) x w
    → Reads expected.AfterFirst (operator_token o ∷ x) w
computed o x w r n v = let h = valued_in [] x w r in (
  primitive.Compute n v o h.0,
  ap (λ y. token.Name n ∷ token.Equal ∷ operand_token v ∷ operator_token o ∷ y)
      (sym (h.2 ∙ ap (λ y. operand_token h.0 ∷ token.Semicolon ∷ y) h.3)),
)

-- behind the first operand
first_closes : (t : Token) (x w : List Token) → Closes expected.AfterFirst t (first_follows t) x w
first_closes token.Semicolon x w = λ e n v. (
  primitive.Assign n v,
  ap (λ y. token.Name n ∷ token.Equal ∷ operand_token v ∷ token.Semicolon ∷ y) (sym e),
)
first_closes token.Plus x w = computed operator.Add x w
first_closes token.Minus x w = computed operator.Subtract x w
first_closes token.Star x w = computed operator.Multiply x w
first_closes _ x w = tt

-- where a statement may begin
start_closes : (t : Token) (x w : List Token) → Closes expected.Start t (start_follows t) x w
start_closes (token.Name n) x w = λ r. let p = r.1 n in (
  Then (Primitive p.0) r.2.1.0,
  sym p.1 ∙ ap (primitive_tokens p.0) (r.2.1.1 ∙ ap (body_tokens r.2.1.0) r.2.2),
)
start_closes token.Print x w = λ r.
    let h = valued_in (expected.Start ∷ []) x w r in let b = last expected.Start h.1 w h.3 in (
      Then (Primitive (primitive.Print h.0)) b.0,
      ap (λ y. token.Print ∷ y) (h.2 ∙ ap (λ y. operand_token h.0 ∷ token.Semicolon ∷ y) b.1),
    )
start_closes token.If x w = λ r.
    let h = tested_in (expected.OpenBrace ∷ expected.StartOrElse ∷ []) x w r in
    let k = h.3 in let b = k.2.1 h.0 k.1.0 in (
      b.0,
      ap (λ y. token.If ∷ y) (h.2 ∙ ap (test_tokens h.0) k.1.1) ∙ (sym b.1 ∙ ap (body_tokens b.0) k.2.2),
    )
start_closes token.While x w = λ r.
    let h = tested_in (expected.OpenBrace ∷ expected.Start ∷ []) x w r in let k = h.3 in (
      Then (While h.0 k.1.0) k.2.1.0,
      ap (λ y. token.While ∷ y) (h.2 ∙ ap (test_tokens h.0) (k.1.1
          ∙ ap (λ y. token.OpenBrace ∷ body_tokens k.1.0 y) (k.2.1.1 ∙ ap (body_tokens k.2.1.0) k.2.2))),
    )
start_closes token.Atomic x w = λ r. (
  Then (Atomic r.1.0 r.1.1) r.2.1.0,
  ap (λ y. token.Atomic ∷ y) (r.1.2 ∙ ap (λ y. locking_tokens r.1.0 (token.OpenBrace ∷ body_tokens r.1.1 y))
      (r.2.1.1 ∙ ap (body_tokens r.2.1.0) r.2.2)),
)
start_closes token.Call x w = λ r. (
  Then (Call r.1.0 r.2.2.1.0) r.2.2.2.2.1.0,
  ap (λ y. token.Call ∷ y) (r.1.1 ∙ ap (λ y. token.Name r.1.0 ∷ y) (r.2.1 ∙ ap (λ y. token.OpenParen ∷ y) (r.2.2.1.1
      ∙ ap (λ y. operands_tokens r.2.2.1.0 (token.CloseParen ∷ y)) (r.2.2.2.1 ∙ ap (λ y. token.Semicolon ∷ y)
      (r.2.2.2.2.1.1 ∙ ap (body_tokens r.2.2.2.2.1.0) r.2.2.2.2.2))))),
)
start_closes token.CloseBrace x w = λ r. (End, ap (λ y. token.CloseBrace ∷ y) r)
start_closes _ x w = tt

threads_close : (t : Token) (x w : List Token) → Closes expected.Threads t (threads_follow t) x w
threads_close token.Thread x w = λ r. (
  record { name = r.1.0; locals = r.2.1.0; body = r.2.1.1 } ∷ r.2.2.1.0,
  ap (λ y. token.Thread ∷ y) (r.1.1 ∙ ap (λ y. token.Name r.1.0 ∷ y) (r.2.1.2
      ∙ ap (λ y. token.OpenBrace ∷ declarations_tokens r.2.1.0 (body_tokens r.2.1.1 y)) (r.2.2.1.1
      ∙ ap (threads_tokens r.2.2.1.0) r.2.2.2))),
)
threads_close _ x w = tt

procedures_close : (t : Token) (x w : List Token) → Closes expected.Procedures t (procedures_follow t) x w
procedures_close token.Proc x w = λ r. let k = r.2.2.2.2.1 in (
  record { name = r.1.0; parameters = r.2.2.1.0; locals = r.2.2.2.1.0; body = r.2.2.2.1.1 } ∷ k.0,
  k.1,
  ap (λ y. token.Proc ∷ y) (r.1.1 ∙ ap (λ y. token.Name r.1.0 ∷ y) (r.2.1 ∙ ap (λ y. token.OpenParen ∷ y) (r.2.2.1.1
      ∙ ap (λ y. parameters_tokens r.2.2.1.0 (token.CloseParen ∷ y)) (r.2.2.2.1.2
      ∙ ap (λ y. token.OpenBrace ∷ declarations_tokens r.2.2.2.1.0 (body_tokens r.2.2.2.1.1 y)) (k.2
      ∙ ap (λ y. procedures_tokens k.0 (threads_tokens k.1 y)) r.2.2.2.2.2))))),
)
procedures_close t x w =
    widened expected.Threads expected.Procedures t (threads_follow t) x w (λ h. ([], h.0, h.1)) (threads_close t x w)

globals_close : (t : Token) (x w : List Token) → Closes expected.Globals t (globals_follow t) x w
globals_close token.Global x w = λ r. let k = r.2.2.2.1 in (
  record { of = r.1.0; name = r.2.1.0 } ∷ k.0,
  k.1,
  k.2,
  ap (λ y. token.Global ∷ y) (r.1.1 ∙ ap (λ y. token.Name r.1.0 ∷ y) (r.2.1.1 ∙ ap (λ y. token.Name r.2.1.0 ∷ y)
      (r.2.2.1
      ∙ ap (λ y. token.Semicolon ∷ y) (k.3
      ∙ ap (λ y. globals_tokens k.0 (procedures_tokens k.1 (threads_tokens k.2 y))) r.2.2.2.2)))),
)
globals_close t x w = widened expected.Procedures expected.Globals t (procedures_follow t) x w
    (λ h. ([], h.0, h.1, h.2)) (procedures_close t x w)

abbrev declared : Kind → List ℕ → Declaration
declared k n = record { kind = k; name = n }

field_closes : (k : Kind) (x w : List Token)
    → ReadAll (expected.Name ∷ expected.Semicolon ∷ expected.Field ∷ []) x w → Reads expected.Field (kind_token k ∷ x) w
field_closes k x w r =
    let h = named_in (expected.Field ∷ []) x w r in let d = last expected.Field h.1 w h.3 in (
      declared k h.0 ∷ d.0,
      ap (λ y. kind_token k ∷ y) (h.2 ∙ ap (λ y. token.Name h.0 ∷ token.Semicolon ∷ y) d.1),
    )

parameter_closes : (k : Kind) (x w : List Token) → ReadAll (expected.Name ∷ expected.AfterParameter ∷ []) x w
    → Reads expected.Parameter (kind_token k ∷ x) w
parameter_closes k x w r = (
  declared k r.1.0 ∷ r.2.1.0,
  ap (λ y. kind_token k ∷ y) (r.1.1 ∙ ap (λ y. token.Name r.1.0 ∷ y) (r.2.1.1
      ∙ ap (λ y. more_parameters r.2.1.0 (token.CloseParen ∷ y)) r.2.2)),
)

argument_closes : (v : Operand) (x w : List Token) → ReadAll (expected.AfterArgument ∷ []) x w
    → Reads expected.Argument (operand_token v ∷ x) w
argument_closes v x w r = let h = last expected.AfterArgument x w r in (v ∷ h.0, ap (λ y. operand_token v ∷ y) h.1)

closes : (e : Expected) (t : Token) (x w : List Token) → Closes e t (follows e t) x w
closes expected.Name (token.Name n) x w = λ r. (n, ap (λ y. token.Name n ∷ y) r)
closes expected.Name _ x w = tt
closes expected.Semicolon token.Semicolon x w = λ r. ap (λ y. token.Semicolon ∷ y) r
closes expected.Semicolon _ x w = tt
closes expected.Equal token.Equal x w = λ r. ap (λ y. token.Equal ∷ y) r
closes expected.Equal _ x w = tt
closes expected.OpenParen token.OpenParen x w = λ r. ap (λ y. token.OpenParen ∷ y) r
closes expected.OpenParen _ x w = tt
closes expected.CloseParen token.CloseParen x w = λ r. ap (λ y. token.CloseParen ∷ y) r
closes expected.CloseParen _ x w = tt
closes expected.OpenBrace token.OpenBrace x w = λ r.
    let b = last expected.Start x w r in (b.0, ap (λ y. token.OpenBrace ∷ y) b.1)
closes expected.OpenBrace _ x w = tt
closes expected.Comparison (token.Comparison c) x w = λ r. (c, ap (λ y. token.Comparison c ∷ y) r)
closes expected.Comparison _ x w = tt
closes expected.Operand (token.Name n) x w = λ r. (operand.Name n, ap (λ y. token.Name n ∷ y) r)
closes expected.Operand (token.Number n) x w = λ r. (operand.Number n, ap (λ y. token.Number n ∷ y) r)
closes expected.Operand token.Null x w = λ r. (operand.Null, ap (λ y. token.Null ∷ y) r)
closes expected.Operand _ x w = tt
closes expected.AfterName token.Equal x w = λ r. last expected.Value x w r
closes expected.AfterName token.Dot x w = λ r n. let h = stored_in [] x w r in (
  primitive.Store n h.0 h.1,
  ap (λ y. token.Name n ∷ token.Dot ∷ y)
      (sym (h.3 ∙ ap (λ y. token.Name h.0 ∷ token.Equal ∷ operand_token h.1 ∷ token.Semicolon ∷ y) h.4)),
)
closes expected.AfterName _ x w = tt
closes expected.Value (token.Name m) x w = λ r n. last expected.AfterFirstName x w r n m
closes expected.Value token.New x w = λ r n. let h = named_in [] x w r in (
  primitive.New n h.0,
  ap (λ y. token.Name n ∷ token.Equal ∷ token.New ∷ y)
      (sym (h.2 ∙ ap (λ y. token.Name h.0 ∷ token.Semicolon ∷ y) h.3)),
)
closes expected.Value (token.Number m) x w = λ r n. last expected.AfterFirst x w r n (operand.Number m)
closes expected.Value token.Null x w = λ r n. last expected.AfterFirst x w r n operand.Null
closes expected.Value _ x w = tt
closes expected.AfterFirst t x w = first_closes t x w
closes expected.AfterFirstName token.Dot x w = λ r n m. let h = named_in [] x w r in (
  primitive.Load n m h.0,
  ap (λ y. token.Name n ∷ token.Equal ∷ token.Name m ∷ token.Dot ∷ y)
      (sym (h.2 ∙ ap (λ y. token.Name h.0 ∷ token.Semicolon ∷ y) h.3)),
)
closes expected.AfterFirstName t x w = widened expected.AfterFirst expected.AfterFirstName t (first_follows t) x w
    (λ h n m. h n (operand.Name m)) (first_closes t x w)
closes expected.AllOrBrace token.All x w = λ r.
    let b = last expected.OpenBrace x w r in (locking.All, b.0, ap (λ y. token.All ∷ y) b.1)
closes expected.AllOrBrace token.OpenBrace x w = λ r.
    let b = last expected.Start x w r in (locking.Inferred, b.0, ap (λ y. token.OpenBrace ∷ y) b.1)
closes expected.AllOrBrace _ x w = tt
closes expected.Argument token.CloseParen x w = λ r. ([], ap (λ y. token.CloseParen ∷ y) r)
closes expected.Argument (token.Name n) x w = argument_closes (operand.Name n) x w
closes expected.Argument (token.Number n) x w = argument_closes (operand.Number n) x w
closes expected.Argument token.Null x w = argument_closes operand.Null x w
closes expected.Argument _ x w = tt
closes expected.AfterArgument token.Comma x w = λ r. (
  r.1.0 ∷ r.2.1.0,
  ap (λ y. token.Comma ∷ y) (r.1.1 ∙ ap (λ y. operand_token r.1.0 ∷ y) (r.2.1.1
      ∙ ap (λ y. more_operands r.2.1.0 (token.CloseParen ∷ y)) r.2.2)),
)
closes expected.AfterArgument token.CloseParen x w = λ r. ([], ap (λ y. token.CloseParen ∷ y) r)
closes expected.AfterArgument _ x w = tt
closes expected.Start t x w = start_closes t x w
closes expected.StartOrElse token.Else x w = λ r t a. (
  Then (IfElse t a r.1.0) r.2.1.0,
  ap (λ y. token.If ∷ test_tokens t (token.OpenBrace ∷ body_tokens a (token.Else ∷ y)))
      (sym (r.1.1 ∙ ap (λ y. token.OpenBrace ∷ body_tokens r.1.0 y) (r.2.1.1 ∙ ap (body_tokens r.2.1.0) r.2.2))),
)
closes expected.StartOrElse t x w = widened expected.Start expected.StartOrElse t (start_follows t) x w
    (λ h q a. (Then (If q a) h.0, ap (λ y. token.If ∷ test_tokens q (token.OpenBrace ∷ body_tokens a y)) (sym h.1)))
    (start_closes t x w)
closes expected.StartOrLocal token.Int x w = λ r.
    let h = named_in (expected.StartOrLocal ∷ []) x w r in let d = last expected.StartOrLocal h.1 w h.3 in (
      declared kind.Int h.0 ∷ d.0,
      d.1,
      ap (λ y. token.Int ∷ y) (h.2 ∙ ap (λ y. token.Name h.0 ∷ token.Semicolon ∷ y) d.2),
    )
closes expected.StartOrLocal (token.Name n) x w = λ r.
    let h = last expected.NameOrAfterName x w r n in (h.0, h.1, sym h.2)
closes expected.StartOrLocal t x w = widened expected.Start expected.StartOrLocal t (start_follows t) x w
    (λ h. ([], h.0, h.1)) (start_closes t x w)
closes expected.NameOrAfterName (token.Name m) x w = λ r n. (
  declared (kind.Record n) m ∷ r.2.1.0,
  r.2.1.1,
  ap (λ y. token.Name n ∷ token.Name m ∷ y) (sym (r.1 ∙ ap (λ y. token.Semicolon ∷ y) (r.2.1.2
      ∙ ap (λ y. declarations_tokens r.2.1.0 (body_tokens r.2.1.1 y)) r.2.2))),
)
closes expected.NameOrAfterName token.Equal x w = λ r n. let p = r.1 n in (
  [],
  Then (Primitive p.0) r.2.1.0,
  ap (primitive_tokens p.0) (sym (r.2.1.1 ∙ ap (body_tokens r.2.1.0) r.2.2)) ∙ p.1,
)
closes expected.NameOrAfterName token.Dot x w = λ r n.
    let h = stored_in (expected.Start ∷ []) x w r in let b = last expected.Start h.2 w h.4 in (
      [],
      Then (Primitive (primitive.Store n h.0 h.1)) b.0,
      ap (λ y. token.Name n ∷ token.Dot ∷ y)
          (sym (h.3 ∙ ap (λ y. token.Name h.0 ∷ token.Equal ∷ operand_token h.1 ∷ token.Semicolon ∷ y) b.1)),
    )
closes expected.NameOrAfterName _ x w = tt
closes expected.Field token.CloseBrace x w = λ r. ([], ap (λ y. token.CloseBrace ∷ y) r)
closes expected.Field token.Int x w = field_closes kind.Int x w
closes expected.Field (token.Name n) x w = field_closes (kind.Record n) x w
closes expected.Field _ x w = tt
closes expected.HintOrBrace token.ProtectedBy x w = λ r. let k = r.2.1 in (
  r.1.0 ∷ k.0,
  k.1,
  ap (λ y. token.ProtectedBy ∷ y) (r.1.1 ∙ ap (λ y. token.Name r.1.0 ∷ y) (k.2
      ∙ ap (λ y. hints_tokens k.0 (token.OpenBrace ∷ declarations_tokens k.1 (token.CloseBrace ∷ y))) r.2.2)),
)
closes expected.HintOrBrace token.OpenBrace x w = λ r.
    let d = last expected.Field x w r in ([], d.0, ap (λ y. token.OpenBrace ∷ y) d.1)
closes expected.HintOrBrace _ x w = tt
closes expected.Parameter token.CloseParen x w = λ r. ([], ap (λ y. token.CloseParen ∷ y) r)
closes expected.Parameter token.Int x w = parameter_closes kind.Int x w
closes expected.Parameter (token.Name n) x w = parameter_closes (kind.Record n) x w
closes expected.Parameter _ x w = tt
closes expected.AfterParameter token.Comma x w = λ r. (
  declared r.1.0 r.2.1.0 ∷ r.2.2.1.0,
  ap (λ y. token.Comma ∷ y) (r.1.1 ∙ ap (λ y. kind_token r.1.0 ∷ y) (r.2.1.1 ∙ ap (λ y. token.Name r.2.1.0 ∷ y)
      (r.2.2.1.1
      ∙ ap (λ y. more_parameters r.2.2.1.0 (token.CloseParen ∷ y)) r.2.2.2))),
)
closes expected.AfterParameter token.CloseParen x w = λ r. ([], ap (λ y. token.CloseParen ∷ y) r)
closes expected.AfterParameter _ x w = tt
closes expected.Kind token.Int x w = λ r. (kind.Int, ap (λ y. token.Int ∷ y) r)
closes expected.Kind (token.Name n) x w = λ r. (kind.Record n, ap (λ y. token.Name n ∷ y) r)
closes expected.Kind _ x w = tt
closes expected.OpenBody token.OpenBrace x w = λ r.
    let d = last expected.StartOrLocal x w r in (d.0, d.1, ap (λ y. token.OpenBrace ∷ y) d.2)
closes expected.OpenBody _ x w = tt
closes expected.Records token.Record x w = λ r. let k = r.2.2.1 in (
  record { name = r.1.0; hints = r.2.1.0; fields = r.2.1.1 } ∷ k.0,
  k.1,
  k.2,
  k.3,
  ap (λ y. token.Record ∷ y) (r.1.1 ∙ ap (λ y. token.Name r.1.0 ∷ y) (r.2.1.2
      ∙ ap (λ y. hints_tokens r.2.1.0 (token.OpenBrace ∷ declarations_tokens r.2.1.1 (token.CloseBrace ∷ y))) (k.4
      ∙ ap (λ y. records_tokens k.0 (globals_tokens k.1 (procedures_tokens k.2 (threads_tokens k.3 y)))) r.2.2.2))),
)
closes expected.Records t x w = widened expected.Globals expected.Records t (globals_follow t) x w
    (λ h. ([], h.0, h.1, h.2, h.3)) (globals_close t x w)
closes expected.Globals t x w = globals_close t x w
closes expected.Procedures t x w = procedures_close t x w
closes expected.Threads t x w = threads_close t x w

-- some places and then others
read_split : (qs ps : List Expected) (x w : List Token) → ReadAll (qs ++ ps) x w
    → (m : List Token) × ReadAll qs x m × ReadAll ps m w
read_split [] ps x w r = (x, refl, r)
read_split (e ∷ qs) ps x w (m, r, rest) = let h = read_split qs ps m w rest in (h.0, (m, r, h.1), h.2)

-- tokens that lead from some places to others, and what those stand for, are what the first ones stand for
pub read_behind : (ps : List Expected) (ts : List Token) (qs : List Expected) (x w : List Token)
    → after ps ts ≡ Some qs → ReadAll qs x w → ReadAll ps (ts ++ x) w
read_behind ps [] qs x w e r = subst (λ l. ReadAll l x w) (sym (some_injective ps qs e)) r
read_behind [] (t ∷ ts) qs x w e r = absurd (none_or_some qs e)
read_behind (p ∷ ps) (t ∷ ts) qs x w e r =
    go (follows p t) (closes p t (ts ++ x)) (λ list h. read_behind (list ++ ps) ts qs x w h r) e
  where
    go : (o : Option (List Expected)) → ((m : List Token) → Closes p t o (ts ++ x) m)
        → ((list : List Expected) → after (list ++ ps) ts ≡ Some qs → ReadAll (list ++ ps) (ts ++ x) w)
        → option_and_then (λ list. after (list ++ ps) ts) o ≡ Some qs → ReadAll (p ∷ ps) (t ∷ ts ++ x) w
    go None k ih e = absurd (none_or_some qs e)
    go (Some list) k ih e = let h = read_split list ps (ts ++ x) w (ih list e) in (h.0, k h.0 h.1, h.2)

-- each place stands for some tokens
ends : (e : Expected) (w : List Token) → (x : List Token) × Reads e x w
ends expected.Name w = (token.Name [] ∷ w, ([], refl))
ends expected.Semicolon w = (token.Semicolon ∷ w, refl)
ends expected.Equal w = (token.Equal ∷ w, refl)
ends expected.OpenParen w = (token.OpenParen ∷ w, refl)
ends expected.CloseParen w = (token.CloseParen ∷ w, refl)
ends expected.OpenBrace w = (token.OpenBrace ∷ token.CloseBrace ∷ w, (End, refl))
ends expected.Comparison w = (token.Comparison comparison.Less ∷ w, (comparison.Less, refl))
ends expected.Operand w = (token.Null ∷ w, (operand.Null, refl))
ends expected.AfterName w = (
  token.Equal ∷ token.Null ∷ token.Semicolon ∷ w,
  λ n.
      (primitive.Assign n operand.Null, refl),
)
ends expected.Value w = (token.Null ∷ token.Semicolon ∷ w, λ n. (primitive.Assign n operand.Null, refl))
ends expected.AfterFirst w = (token.Semicolon ∷ w, λ n v. (primitive.Assign n v, refl))
ends expected.AfterFirstName w = (token.Semicolon ∷ w, λ n m. (primitive.Assign n (operand.Name m), refl))
ends expected.AllOrBrace w = (token.OpenBrace ∷ token.CloseBrace ∷ w, (locking.Inferred, End, refl))
ends expected.Argument w = (token.CloseParen ∷ w, ([], refl))
ends expected.AfterArgument w = (token.CloseParen ∷ w, ([], refl))
ends expected.Start w = (token.CloseBrace ∷ w, (End, refl))
ends expected.StartOrElse w = (token.CloseBrace ∷ w, λ t a. (Then (If t a) End, refl))
ends expected.StartOrLocal w = (token.CloseBrace ∷ w, ([], End, refl))
ends expected.NameOrAfterName w = (
  token.Equal ∷ token.Null ∷ token.Semicolon ∷ token.CloseBrace ∷ w,
  λ n. ([], Then (Primitive (primitive.Assign n operand.Null)) End, refl),
)
ends expected.Field w = (token.CloseBrace ∷ w, ([], refl))
ends expected.HintOrBrace w = (token.OpenBrace ∷ token.CloseBrace ∷ w, ([], [], refl))
ends expected.Parameter w = (token.CloseParen ∷ w, ([], refl))
ends expected.AfterParameter w = (token.CloseParen ∷ w, ([], refl))
ends expected.Kind w = (token.Int ∷ w, (kind.Int, refl))
ends expected.OpenBody w = (token.OpenBrace ∷ token.CloseBrace ∷ w, ([], End, refl))
ends expected.Records w = (w, ([], [], [], [], refl))
ends expected.Globals w = (w, ([], [], [], refl))
ends expected.Procedures w = (w, ([], [], refl))
ends expected.Threads w = (w, ([], refl))

-- and so do places one after another
pub all_end : (ps : List Expected) (w : List Token) → (x : List Token) × ReadAll ps x w
all_end [] w = (w, refl)
all_end (e ∷ ps) w = let r = all_end ps w in let h = ends e r.0 in (h.0, (r.0, h.1, r.1))
