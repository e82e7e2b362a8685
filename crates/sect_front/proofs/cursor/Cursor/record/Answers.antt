use Rattle.std.proofs.Common.{[], ◌∷◌, refl, subst, arith}
use Rattle.sect_front.specs.{Tokens.{declarations_tokens, hints_tokens}}
use Rattle.sect_front.specs.steps.Passing.{ArePassed}
use Rattle.sect_front.specs.ItemSpans.{declarations_spans}
use Rattle.sect_front.proofs.{Leading.{hints_after}, Spans.{named_spans}}
use Rattle.sect_front.proofs.Growing.{hints_behind}
use Rattle.sect_front.proofs.Stopping.{passed_append}
use Rattle.sect_front.proofs.Stopping.{refused_hint}
use Rattle.sect_front.specs.declared.token.Token.TheVariants as token
use Rattle.sect_front.proofs.Chains.{none, rule, one, fails_in, fails, fails_at_brace}
use Rattle.sect_front.proofs.cursor.Cursor.record.Goals as goal

pub returns-in_err-name-clause-err : goal.returns-in_err-name-clause-err
returns-in_err-name-clause-err c =
    fails _ none
    c.in_err-name.ensures.err c.from_residual.ensures.1

pub returns-in_err-hints-clause-err : goal.returns-in_err-hints-clause-err
returns-in_err-hints-clause-err c =
    fails_in _ _ _ (one c.in_ok-name.ensures.ok refl none)
    c.in_err-hints.ensures.err c.from_residual-in_err-hints.ensures.1

pub returns-in_err-open_brace-clause-err : goal.returns-in_err-open_brace-clause-err
returns-in_err-open_brace-clause-err c =
    fails_at_brace _ _ _ (one c.in_ok-name.ensures.ok refl (rule
    (hints_tokens c.in_ok-hints.hints []) c.in_ok-hints.ensures.ok (hints_after c.in_ok-hints.hints [] []) none))
    c.in_err-open_brace.ensures.err (λ absent. refused_hint c.hints.new.self c.in_ok-hints.ensures.end absent)
    (λ rest s. refl) c.from_residual-in_err-open_brace.ensures.1

pub returns-in_err-fields-clause-err : goal.returns-in_err-fields-clause-err
returns-in_err-fields-clause-err c =
    fails_in _ _ _ (one c.in_ok-name.ensures.ok refl (rule (hints_tokens c.in_ok-hints.hints [])
    c.in_ok-hints.ensures.ok (hints_after c.in_ok-hints.hints [] [])
    (one c.in_ok-open_brace.ensures.ok refl none)))
    c.in_err-fields.ensures.err c.from_residual-in_err-fields.ensures.1

pub returns-clause-ok : goal.returns-clause-ok
returns-clause-ok c =
    let hs = c.in_ok-hints.hints in
    let rest = token.OpenBrace ∷ declarations_tokens c.in_ok-fields.fields (token.CloseBrace ∷ []) in (
      c.name.new.self,
      c.in_ok-name.ensures.ok,
      subst (λ ts. ArePassed c.name.new.self ts c.fields.new.self)
          (hints_behind hs [] rest)
          (passed_append c.name.new.self (hints_tokens hs []) rest c.hints.new.self c.fields.new.self
          c.in_ok-hints.ensures.ok (c.open_brace.new.self, c.in_ok-open_brace.ensures.ok, c.in_ok-fields.ensures.ok)),
    )

pub returns-clause-spans : goal.returns-clause-spans
returns-clause-spans c = λ from p same.
    let hs = c.in_ok-hints.hints in
    let rest = hints_tokens hs (token.OpenBrace ∷ []) in
    let are = subst (λ ts. ArePassed c.name.new.self ts c.open_brace.new.self)
    (hints_behind hs [] (token.OpenBrace ∷ []))
    (passed_append c.name.new.self (hints_tokens hs []) (token.OpenBrace ∷ []) c.hints.new.self
    c.open_brace.new.self c.in_ok-hints.ensures.ok (c.open_brace.new.self, c.in_ok-open_brace.ensures.ok, refl)) in
    named_spans c.args.spans.now from c.args.self.now c.name.new.self c.open_brace.new.self token.Record
    c.in_ok-name.name rest c.args.start c.self.inside.last (λ m x. declarations_spans m x c.in_ok-fields.fields) p
    c.in_ok-name.ensures.ok are same (grind arith) c.in_ok-add.ensures c.in_ok-fields.ensures.spans
