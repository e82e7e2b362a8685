-- The most braces that are open is the depth.
use Rattle.std.proofs.Common.{◌≡◌, ℕ, ◌+◌, ◌-◌, ◌≤◌, List, [], ◌∷◌, ◌++◌, max, refl, sym, ◌∙◌, ap, arith, take, drop}
use Rattle.std.proofs.lemmas.List.{take-append-drop}
use Rattle.sect_front.specs.Limits.{most_depth}
use Rattle.sect_front.specs.Syntax.{StatementView, BlockView, Primitive, If, IfElse, While, Atomic, Call, End, Then}
use Rattle.sect_front.specs.{TreeView.{TreeView}, Grammar.{operand_token, operator_token, kind_token, tokens_of}}
use Rattle.sect_front.specs.Tokens.{primitive_tokens, test_tokens, more_operands, operands_tokens, statement_tokens}
use Rattle.sect_front.specs.Tokens.{block_tokens, declarations_tokens, hints_tokens, record_tokens, more_parameters}
use Rattle.sect_front.specs.Tokens.{parameters_tokens, records_tokens, globals_tokens, procedures_tokens}
use Rattle.sect_front.specs.Tokens.{threads_tokens}
use Rattle.sect_front.specs.Depth.{statement_depth, block_depth, procedures_depth, threads_depth, depth}
use Rattle.sect_front.specs.{Braces.{brace, open_after, IsShallow}, declared.token.Token.{Token}}
use Rattle.sect_front.specs.{declared.tree.Operand.{Operand}, declared.tree.Operator.{Operator}}
use Rattle.sect_front.specs.{declared.tree.Test.{Test}, declared.tree.Declaration.{Declaration}}
use Rattle.sect_front.specs.{declared.tree.Record.{Record}, declared.tree.GlobalObject.{GlobalObject}}
use Rattle.sect_front.specs.{declared.tree.Procedure.{Procedure}, declared.tree.Thread.{Thread}}
use Rattle.sect_front.specs.declared.tree.Kind.{Kind}
use Rattle.sect_front.proofs.shared.Listed.{tokens_same}
use Rattle.sect_front.specs.declared.tree.Locking.TheVariants as locking
use Rattle.sect_front.specs.declared.token.Token.TheVariants as token
use Rattle.sect_front.specs.declared.tree.Operand.TheVariants as operand
use Rattle.sect_front.specs.declared.tree.Operator.TheVariants as operator
use Rattle.sect_front.specs.declared.tree.Primitive as leaf
use Rattle.sect_front.specs.declared.tree.Primitive.TheVariants as primitive
use Rattle.sect_front.specs.declared.tree.Kind.TheVariants as kind

-- the most braces that are open with a token and after it
abbrev pub peak_with : Token → ℕ → (ℕ → ℕ) → ℕ
peak_with token.OpenBrace n rest = rest (n + 1)
peak_with token.CloseBrace n rest = max n (rest (n - 1))
peak_with _ n rest = rest n

-- the most braces that are open before, between and after these tokens
abbrev pub peak : ℕ → List Token → ℕ
peak n [] = n
peak n (t ∷ w) = peak_with t n (λ k. peak k w)

calm_operand : (v : Operand) (k : ℕ) (f : ℕ → ℕ) → peak_with (operand_token v) k f ≡ f k
calm_operand (operand.Number n) k f = refl
calm_operand operand.Null k f = refl
calm_operand (operand.Name n) k f = refl

calm_operator : (o : Operator) (k : ℕ) (f : ℕ → ℕ) → peak_with (operator_token o) k f ≡ f k
calm_operator operator.Add k f = refl
calm_operator operator.Subtract k f = refl
calm_operator operator.Multiply k f = refl

calm_test : (k : ℕ) (t : Test) (w : List Token) → peak k (test_tokens t w) ≡ peak k w
calm_test k t w = simp calm_operand

calm_primitive : (k : ℕ) (p : leaf.Primitive) (w : List Token) → peak k (primitive_tokens p w) ≡ peak k w
calm_primitive k (primitive.Assign x v) w = simp calm_operand
calm_primitive k (primitive.Compute x v o u) w = simp (calm_operand, calm_operator)
calm_primitive k (primitive.New x r) w = refl
calm_primitive k (primitive.Load x y f) w = refl
calm_primitive k (primitive.Store y f v) w = simp calm_operand
calm_primitive k (primitive.Print v) w = simp calm_operand

calm_more_operands : (k : ℕ) (vs : List Operand) (w : List Token) → peak k (more_operands vs w) ≡ peak k w
calm_more_operands k [] w = refl
calm_more_operands k (v ∷ vs) w = calm_operand v k (λ j. peak j (more_operands vs w)) ∙ calm_more_operands k vs w

calm_operands : (k : ℕ) (vs : List Operand) (w : List Token) → peak k (operands_tokens vs w) ≡ peak k w
calm_operands k [] w = refl
calm_operands k (v ∷ vs) w = calm_operand v k (λ j. peak j (more_operands vs w)) ∙ calm_more_operands k vs w

peak_cases : (t : Token) (k : ℕ) (f : ℕ → ℕ) → ((j : ℕ) → j ≤ f j) → max k (f (brace k t)) ≡ peak_with t k f
peak_cases token.OpenBrace k f h = omega (arith, h (k + 1))
peak_cases token.CloseBrace k f h = refl
peak_cases _ k f h = omega (arith, h k)

pub peak_from : (k : ℕ) (w : List Token) → k ≤ peak k w
peak_from k [] = omega arith
peak_from k (t ∷ w) = omega (arith, peak_cases t k (λ j. peak j w) (λ j. peak_from j w))

pub peak_cons : (t : Token) (k : ℕ) (w : List Token) → peak k (t ∷ w) ≡ max k (peak (brace k t) w)
peak_cons t k w = sym (peak_cases t k (λ j. peak j w) (λ j. peak_from j w))

-- what was open earlier, and what is open later, are no more than the peak
pub peak_append : (k : ℕ) (v w : List Token) → peak k (v ++ w) ≡ max (peak k v) (peak (open_after k v) w)
peak_append k [] w = omega (arith, peak_from k w)
peak_append k (t ∷ v) w = omega (arith, peak_append (brace k t) v w, peak_cons t k (v ++ w), peak_cons t k v)

-- a body whose peak is known, and its closing brace
braced : (k d p : ℕ) (w : List Token) → p ≡ max (k + 1 + d) (peak (k + 1) (token.CloseBrace ∷ w))
    → p ≡ max (k + (d + 1)) (peak k w)
braced k d p w h = let e : k + 1 - 1 ≡ k = omega arith in omega (arith, ap (λ j. peak j w) e)

mutual
  form_peak : (k : ℕ) (s : StatementView) (w : List Token)
      → peak k (statement_tokens s w) ≡ max (k + statement_depth s) (peak k w)
  form_peak k (Primitive p) w = omega (arith, calm_primitive k p w, peak_from k w)
  form_peak k (If t a) w = calm_test k t (token.OpenBrace ∷ block_tokens a (token.CloseBrace ∷ w))
      ∙ braced k (block_depth a) _ w (body_peak (k + 1) a (token.CloseBrace ∷ w))
  form_peak k (IfElse t a b) w =
      let rest : List Token = token.Else ∷ token.OpenBrace ∷ block_tokens b (token.CloseBrace ∷ w) in
      omega (
        arith,
        calm_test k t (token.OpenBrace ∷ block_tokens a (token.CloseBrace ∷ rest)),
        braced k (block_depth a) (peak (k + 1) (block_tokens a (token.CloseBrace ∷ rest))) rest
            (body_peak (k + 1) a (token.CloseBrace ∷ rest)),
        braced k (block_depth b) (peak (k + 1) (block_tokens b (token.CloseBrace ∷ w))) w
            (body_peak (k + 1) b (token.CloseBrace ∷ w)),
      )
  form_peak k (While t a) w =
      calm_test k t (token.OpenBrace ∷ block_tokens a (token.CloseBrace ∷ w))
      ∙ braced k (block_depth a) _ w (body_peak (k + 1) a (token.CloseBrace ∷ w))
  form_peak k (Atomic locking.Inferred a) w = braced k (block_depth a) _ w (body_peak (k + 1) a (token.CloseBrace ∷ w))
  form_peak k (Atomic locking.All a) w = braced k (block_depth a) _ w (body_peak (k + 1) a (token.CloseBrace ∷ w))
  form_peak k (Call f vs) w = omega (arith, calm_operands k vs (token.CloseParen ∷ token.Semicolon ∷ w), peak_from k w)

  body_peak : (k : ℕ) (b : BlockView) (w : List Token) → peak k (block_tokens b w) ≡ max (k + block_depth b) (peak k w)
  body_peak k End w = omega (arith, peak_from k w)
  body_peak k (Then s b) w = omega (arith, form_peak k s (block_tokens b w), body_peak k b w)

calm_kind : (t : Kind) (k : ℕ) (f : ℕ → ℕ) → peak_with (kind_token t) k f ≡ f k
calm_kind kind.Int k f = refl
calm_kind (kind.Record n) k f = refl

calm_declarations : (k : ℕ) (ds : List Declaration) (w : List Token) → peak k (declarations_tokens ds w) ≡ peak k w
calm_declarations k [] w = refl
calm_declarations k (d ∷ ds) w = calm_kind d.kind k (λ j. peak j (declarations_tokens ds w)) ∙ calm_declarations k ds w

calm_hints : (k : ℕ) (ns : List (List ℕ)) (w : List Token) → peak k (hints_tokens ns w) ≡ peak k w
calm_hints k [] w = refl
calm_hints k (n ∷ ns) w = calm_hints k ns w

calm_more_parameters : (k : ℕ) (ps : List Declaration) (w : List Token) → peak k (more_parameters ps w) ≡ peak k w
calm_more_parameters k [] w = refl
calm_more_parameters k (p ∷ ps) w = calm_kind p.kind k (λ j. peak j (more_parameters ps w)) ∙
    calm_more_parameters k ps w

calm_parameters : (k : ℕ) (ps : List Declaration) (w : List Token) → peak k (parameters_tokens ps w) ≡ peak k w
calm_parameters k [] w = refl
calm_parameters k (p ∷ ps) w = calm_kind p.kind k (λ j. peak j (more_parameters ps w)) ∙ calm_more_parameters k ps w

-- locals and statements, and the brace behind them
whole_peak : (ls : List Declaration) (b : BlockView) (w : List Token) →
    peak 1 (declarations_tokens ls (block_tokens b (token.CloseBrace ∷ w))) ≡ max (block_depth b + 1) (peak 0 w)
whole_peak ls b w =
    let rest : List Token = token.CloseBrace ∷ w in
    omega (
      arith,
      calm_declarations 1 ls (block_tokens b rest),
      braced 0 (block_depth b) (peak 1 (block_tokens b rest)) w (body_peak 1 b rest),
    )

procedures_peak : (ps : List Procedure) (w : List Token) →
    peak 0 (procedures_tokens ps w) ≡ max (procedures_depth ps) (peak 0 w)
procedures_peak [] w = omega arith
procedures_peak (p ∷ ps) w =
    let rest : List Token = procedures_tokens ps w in
    let inner : List Token = declarations_tokens p.locals (block_tokens p.body (token.CloseBrace ∷ rest)) in
    omega (
      arith,
      calm_parameters 0 p.parameters (token.CloseParen ∷ token.OpenBrace ∷ inner),
      whole_peak p.locals p.body rest,
      procedures_peak ps w,
    )

threads_peak : (ts : List Thread) → peak 0 (threads_tokens ts []) ≡ threads_depth ts
threads_peak [] = refl
threads_peak (t ∷ ts) = omega (arith, whole_peak t.locals t.body (threads_tokens ts []), threads_peak ts)

globals_peak : (gs : List GlobalObject) (w : List Token) → peak 0 (globals_tokens gs w) ≡ peak 0 w
globals_peak [] w = refl
globals_peak (g ∷ gs) w = globals_peak gs w

-- a record's braces are one deep
record_peak : (r : Record) (w : List Token) → peak 0 (record_tokens r w) ≡ max 1 (peak 0 w)
record_peak r w =
    let inner : List Token = declarations_tokens r.fields (token.CloseBrace ∷ w) in
    calm_hints 0 r.hints (token.OpenBrace ∷ inner) ∙ calm_declarations 1 r.fields (token.CloseBrace ∷ w)

records_peak : (rs : List Record) (w : List Token) → max 1 (peak 0 (records_tokens rs w)) ≡ max 1 (peak 0 w)
records_peak [] w = refl
records_peak (r ∷ rs) w = omega (arith, record_peak r (records_tokens rs w), records_peak rs w)

pub depth_peak : (s : TreeView) → max 1 (peak 0 (tokens_of s)) ≡ max 1 (depth s)
depth_peak s =
    let threads : List Token = threads_tokens s.threads [] in
    let procedures : List Token = procedures_tokens s.procedures threads in
    omega (
      arith,
      ap (peak 0) (tokens_same s),
      records_peak s.records (globals_tokens s.globals procedures),
      globals_peak s.globals procedures,
      procedures_peak s.procedures threads,
      threads_peak s.threads,
    )

-- where the peak is low, every count is
pub shallow_from : (list : List Token) → peak 0 list ≤ most_depth → IsShallow list
shallow_from list h j lt =
    omega (
      arith,
      h,
      ap (peak 0) (take-append-drop j list),
      peak_append 0 (take j list) (drop j list),
      peak_from (open_after 0 (take j list)) (drop j list),
    )
