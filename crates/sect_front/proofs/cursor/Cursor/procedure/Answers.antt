use Rattle.std.proofs.Common.{[], ◌∷◌, ◌++◌, refl, ◌∙◌, ap, subst, arith}
use Rattle.sect_front.specs.{Tokens.{block_tokens, declarations_tokens, parameters_tokens}}
use Rattle.sect_front.specs.steps.Passing.{ArePassed}
use Rattle.sect_front.specs.{ItemSpans.{past, span_of, parameters_spans, body_spans}, steps.Spanning.{with_spans}}
use Rattle.sect_front.proofs.{Leading.{parameters_after}, Spans.{are_past, named_spans, spans_then}}
use Rattle.sect_front.proofs.Growing.{parameters_behind}
use Rattle.sect_front.proofs.Stopping.{passed_append}
use Rattle.sect_front.proofs.Stopping.{refused_body}
use Rattle.sect_front.specs.declared.token.Token.TheVariants as token
use Rattle.sect_front.specs.declared.expected.Expected.TheVariants as expected
use Rattle.sect_front.proofs.Chains.{none, rule, one, fails_in, fails, fails_part, fails_at_brace}
use Rattle.sect_front.proofs.cursor.Cursor.procedure.Goals as goal

pub returns-in_err-name-clause-err : goal.returns-in_err-name-clause-err
returns-in_err-name-clause-err c =
    fails _ none
    c.in_err-name.ensures.err c.from_residual.ensures.1

pub returns-in_err-sign-clause-err : goal.returns-in_err-sign-clause-err
returns-in_err-sign-clause-err c =
    fails _ (one c.in_ok-name.ensures.ok refl none)
    c.in_err-sign.ensures.err c.from_residual-in_err-sign.ensures.1

pub returns-in_err-parameters-clause-err : goal.returns-in_err-parameters-clause-err
returns-in_err-parameters-clause-err c =
    fails_part _ _ _ (expected.Parameter ∷ []) (expected.OpenBody ∷ [])
    (one c.in_ok-name.ensures.ok refl (one c.in_ok-sign.ensures.ok refl none))
    c.in_err-parameters.ensures.err c.from_residual-in_err-parameters.ensures.1

pub returns-in_err-open_brace-clause-err : goal.returns-in_err-open_brace-clause-err
returns-in_err-open_brace-clause-err c =
    fails_at_brace _ _ _ (one c.in_ok-name.ensures.ok refl (one c.in_ok-sign.ensures.ok refl
    (rule (parameters_tokens c.in_ok-parameters.parameters (token.CloseParen ∷ [])) c.in_ok-parameters.ensures.ok
    (parameters_after c.in_ok-parameters.parameters (expected.OpenBody ∷ []) []) none)))
    c.in_err-open_brace.ensures.err (refused_body c.parameters.new.self)
    (λ rest s. refl) c.from_residual-in_err-open_brace.ensures.1

pub returns-in_err-body-clause-err : goal.returns-in_err-body-clause-err
returns-in_err-body-clause-err c =
    fails_in _ _ _ (one c.in_ok-name.ensures.ok refl (one c.in_ok-sign.ensures.ok refl
    (rule (parameters_tokens c.in_ok-parameters.parameters (token.CloseParen ∷ [])) c.in_ok-parameters.ensures.ok
    (parameters_after c.in_ok-parameters.parameters (expected.OpenBody ∷ []) [])
    (one c.in_ok-open_brace.ensures.ok refl none))))
    c.in_err-body.ensures.err c.from_residual-in_err-body.ensures.1

pub returns-clause-ok : goal.returns-clause-ok
returns-clause-ok c =
    let ps = c.in_ok-parameters.parameters in
    let r = c.in_ok-body.body in
    let rest = token.OpenBrace ∷ declarations_tokens r.0 (block_tokens r.1 (token.CloseBrace ∷ [])) in (
      c.name.new.self,
      c.in_ok-name.ensures.ok,
      (
        c.sign.new.self,
        c.in_ok-sign.ensures.ok,
        subst (λ ts. ArePassed c.sign.new.self ts c.body.new.self) (parameters_behind ps (token.CloseParen ∷ []) rest)
            (passed_append c.sign.new.self (parameters_tokens ps (token.CloseParen ∷ [])) rest c.parameters.new.self
            c.body.new.self c.in_ok-parameters.ensures.ok
            (c.open_brace.new.self, c.in_ok-open_brace.ensures.ok, c.in_ok-body.ensures.ok)),
      ),
    )

pub returns-clause-spans : goal.returns-clause-spans
returns-clause-spans c = λ from p same.
    let was = c.args.spans.now in
    let ps = c.in_ok-parameters.parameters in
    let r = c.in_ok-body.body in
    let n = c.in_ok-name.name in
    let end = token.OpenBrace ∷ [] in
    let own = token.Proc ∷ token.Name n ∷ token.OpenParen ∷ [] in
    let are = subst (λ ts. ArePassed c.sign.new.self ts c.open_brace.new.self)
    (parameters_behind ps (token.CloseParen ∷ []) end)
    (passed_append c.sign.new.self (parameters_tokens ps (token.CloseParen ∷ [])) end c.parameters.new.self
    c.open_brace.new.self c.in_ok-parameters.ensures.ok
    (c.open_brace.new.self, c.in_ok-open_brace.ensures.ok, refl)) in
    let head = span_of was.total from.here (token.Proc ∷ token.Name n ∷ [])
    ∷ parameters_spans was.total (past from.here own) ps in
    spans_then was head (λ m. body_spans m c.open_brace.new.self.here r.0 r.1)
    (named_spans was from c.args.self.now c.name.new.self c.sign.new.self token.Proc n (token.OpenParen ∷ [])
    c.args.start c.self.inside.last (λ m x. parameters_spans m x ps) p c.in_ok-name.ensures.ok
    (c.sign.new.self, c.in_ok-sign.ensures.ok, refl) same (grind arith) c.in_ok-add.ensures
    c.in_ok-parameters.ensures.spans) c.in_ok-body.ensures.spans
    ∙ ap (λ x. with_spans was (head ++ body_spans was.total x r.0 r.1))
    (are_past from (token.Proc ∷ token.Name n ∷ token.OpenParen
    ∷ parameters_tokens ps (token.CloseParen ∷ token.OpenBrace ∷ [])) c.open_brace.new.self (
      c.args.self.now,
      p,
      (c.name.new.self, c.in_ok-name.ensures.ok, (c.sign.new.self, c.in_ok-sign.ensures.ok, are)),
    ))
