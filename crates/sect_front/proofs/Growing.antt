-- The tokens of what is read, with one more part behind it.
use Rattle.std.proofs.Common.{◌≡◌, ◌≢◌, ℕ, List, [], ◌∷◌, ◌++◌, refl, sym, ◌∙◌, ap, append_assoc}
use Rattle.sect_front.specs.Syntax.{StatementView, BlockView, End, Then}
use Rattle.sect_front.specs.{Trees.{append}, Grammar.{operand_token, kind_token, statements_list}}
use Rattle.sect_front.specs.Tokens.{more_operands, operands_tokens, statement_tokens, block_tokens}
use Rattle.sect_front.specs.Tokens.{declarations_tokens, hints_tokens, more_parameters, parameters_tokens}
use Rattle.sect_front.specs.{declared.token.Token.{Token}, declared.tree.Operand.{Operand}}
use Rattle.sect_front.specs.{declared.tree.Declaration.{Declaration}, declared.tree.Kind.{Kind}}
use Rattle.sect_front.specs.{declared.expected.Expected.{Expected}, steps.Places.{after}}
use Rattle.sect_front.proofs.Leading.{some_operands_after, some_parameters_after}
use Rattle.sect_front.proofs.shared.Listed.{body_same}
use Rattle.sect_front.specs.declared.token.Token.TheVariants as token
use Rattle.sect_front.specs.declared.expected.Expected.TheVariants as expected

-- 1. Arguments.

more_operands_behind : (vs : List Operand) (u w : List Token) → more_operands vs u ++ w ≡ more_operands vs (u ++ w)
more_operands_behind [] u w = refl
more_operands_behind (v ∷ vs) u w = ap (λ x. token.Comma ∷ operand_token v ∷ x) (more_operands_behind vs u w)

pub operands_behind : (vs : List Operand) (u w : List Token)
    → operands_tokens vs u ++ w ≡ operands_tokens vs (u ++ w)
operands_behind [] u w = refl
operands_behind (v ∷ vs) u w = ap (λ x. operand_token v ∷ x) (more_operands_behind vs u w)

more_operands_grow : (vs : List Operand) (v : Operand) (w : List Token)
    → more_operands (vs ++ v ∷ []) w ≡ more_operands vs (token.Comma ∷ operand_token v ∷ w)
more_operands_grow [] v w = refl
more_operands_grow (u ∷ vs) v w = ap (λ x. token.Comma ∷ operand_token u ∷ x) (more_operands_grow vs v w)

pub operands_grow : (vs : List Operand) → vs ≢ [] → (v : Operand) (w : List Token)
    → operands_tokens (vs ++ v ∷ []) w ≡ operands_tokens vs (token.Comma ∷ operand_token v ∷ w)
operands_grow [] some v w = absurd (some refl)
operands_grow (u ∷ vs) some v w = ap (λ x. operand_token u ∷ x) (more_operands_grow vs v w)

pub arguments_after : (vs : List Operand) → vs ≢ [] → (ps : List Expected) (w : List Token)
    → after (expected.Argument ∷ ps) (operands_tokens vs w) ≡ after (expected.AfterArgument ∷ ps) w
arguments_after [] some ps w = absurd (some refl)
arguments_after (v ∷ vs) some ps w = some_operands_after v vs ps w

pub some_grown : {A : Type 0} (xs : List A) (x : A) → xs ++ x ∷ [] ≢ []
some_grown [] x e = cc
some_grown (y ∷ xs) x e = cc

-- 2. Hints, fields and locals.

pub hints_behind : (ns : List (List ℕ)) (u w : List Token) → hints_tokens ns u ++ w ≡ hints_tokens ns (u ++ w)
hints_behind [] u w = refl
hints_behind (n ∷ ns) u w = ap (λ x. token.ProtectedBy ∷ token.Name n ∷ x) (hints_behind ns u w)

pub hints_grow : (ns : List (List ℕ)) (n : List ℕ) (w : List Token)
    → hints_tokens (ns ++ n ∷ []) w ≡ hints_tokens ns (token.ProtectedBy ∷ token.Name n ∷ w)
hints_grow [] n w = refl
hints_grow (m ∷ ns) n w = ap (λ x. token.ProtectedBy ∷ token.Name m ∷ x) (hints_grow ns n w)

pub declarations_behind : (ds : List Declaration) (u w : List Token)
    → declarations_tokens ds u ++ w ≡ declarations_tokens ds (u ++ w)
declarations_behind [] u w = refl
declarations_behind (d ∷ ds) u w =
    ap (λ x. kind_token d.kind ∷ token.Name d.name ∷ token.Semicolon ∷ x) (declarations_behind ds u w)

pub declarations_grow : (ds : List Declaration) (k : Kind) (n : List ℕ) (w : List Token)
    → declarations_tokens (ds ++ record { kind = k; name = n } ∷ []) w
    ≡ declarations_tokens ds (kind_token k ∷ token.Name n ∷ token.Semicolon ∷ w)
declarations_grow [] k n w = refl
declarations_grow (d ∷ ds) k n w =
    ap (λ x. kind_token d.kind ∷ token.Name d.name ∷ token.Semicolon ∷ x) (declarations_grow ds k n w)

-- 3. Parameters.

more_parameters_behind : (ds : List Declaration) (u w : List Token)
    → more_parameters ds u ++ w ≡ more_parameters ds (u ++ w)
more_parameters_behind [] u w = refl
more_parameters_behind (d ∷ ds) u w =
    ap (λ x. token.Comma ∷ kind_token d.kind ∷ token.Name d.name ∷ x) (more_parameters_behind ds u w)

pub parameters_behind : (ds : List Declaration) (u w : List Token)
    → parameters_tokens ds u ++ w ≡ parameters_tokens ds (u ++ w)
parameters_behind [] u w = refl
parameters_behind (d ∷ ds) u w = ap (λ x. kind_token d.kind ∷ token.Name d.name ∷ x) (more_parameters_behind ds u w)

more_parameters_grow : (ds : List Declaration) (k : Kind) (n : List ℕ) (w : List Token)
    → more_parameters (ds ++ record { kind = k; name = n } ∷ []) w
    ≡ more_parameters ds (token.Comma ∷ kind_token k ∷ token.Name n ∷ w)
more_parameters_grow [] k n w = refl
more_parameters_grow (d ∷ ds) k n w =
    ap (λ x. token.Comma ∷ kind_token d.kind ∷ token.Name d.name ∷ x) (more_parameters_grow ds k n w)

pub parameters_grow : (ds : List Declaration) → ds ≢ [] → (k : Kind) (n : List ℕ) (w : List Token)
    → parameters_tokens (ds ++ record { kind = k; name = n } ∷ []) w
    ≡ parameters_tokens ds (token.Comma ∷ kind_token k ∷ token.Name n ∷ w)
parameters_grow [] some k n w = absurd (some refl)
parameters_grow (d ∷ ds) some k n w = ap (λ x. kind_token d.kind ∷ token.Name d.name ∷ x)
    (more_parameters_grow ds k n w)

pub list_after : (ds : List Declaration) → ds ≢ [] → (ps : List Expected) (w : List Token)
    → after (expected.Parameter ∷ ps) (parameters_tokens ds w) ≡ after (expected.AfterParameter ∷ ps) w
list_after [] some ps w = absurd (some refl)
list_after (d ∷ ds) some ps w = some_parameters_after d ds ps w

-- 4. Statements.

pub block_behind : (b : BlockView) (u w : List Token) → block_tokens b u ++ w ≡ block_tokens b (u ++ w)
block_behind b u w =
    ap (λ x. x ++ w) (sym (body_same b u)) ∙ (append_assoc (statements_list b) u w ∙ body_same b (u ++ w))

pub block_grow : (b : BlockView) (s : StatementView) (w : List Token)
    → block_tokens (append b s) w ≡ block_tokens b (statement_tokens s w)
block_grow End s w = refl
block_grow (Then t b) s w = ap (statement_tokens t) (block_grow b s w)
