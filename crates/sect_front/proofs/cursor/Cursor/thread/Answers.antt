use Rattle.std.proofs.Common.{[], ◌∷◌, refl, arith}
use Rattle.sect_front.specs.ItemSpans.{body_spans}
use Rattle.sect_front.proofs.{Stopping.{refused_body}, Spans.{named_spans}}
use Rattle.sect_front.specs.declared.token.Token.TheVariants as token
use Rattle.sect_front.proofs.Chains.{none, one, fails_in, fails, fails_at_brace}
use Rattle.sect_front.proofs.cursor.Cursor.thread.Goals as goal

pub returns-in_err-name-clause-err : goal.returns-in_err-name-clause-err
returns-in_err-name-clause-err c =
    fails _ none
    c.in_err-name.ensures.err c.from_residual.ensures.1

pub returns-in_err-open_brace-clause-err : goal.returns-in_err-open_brace-clause-err
returns-in_err-open_brace-clause-err c =
    fails_at_brace _ _ _ (one c.in_ok-name.ensures.ok refl none)
    c.in_err-open_brace.ensures.err (refused_body c.name.new.self)
    (λ rest s. refl) c.from_residual-in_err-open_brace.ensures.1

pub returns-in_err-body-clause-err : goal.returns-in_err-body-clause-err
returns-in_err-body-clause-err c =
    fails_in _ _ _ (one c.in_ok-name.ensures.ok refl (one c.in_ok-open_brace.ensures.ok refl none))
    c.in_err-body.ensures.err c.from_residual-in_err-body.ensures.1

pub returns-clause-ok : goal.returns-clause-ok
returns-clause-ok c = (
  c.name.new.self,
  c.in_ok-name.ensures.ok,
  (c.open_brace.new.self, c.in_ok-open_brace.ensures.ok, c.in_ok-body.ensures.ok),
)

pub returns-clause-spans : goal.returns-clause-spans
returns-clause-spans c = λ from p same.
    named_spans c.args.spans.now from c.args.self.now c.name.new.self c.open_brace.new.self token.Thread
    c.in_ok-name.name (token.OpenBrace ∷ []) c.args.start c.self.inside.last
    (λ m x. body_spans m x c.in_ok-body.body.0 c.in_ok-body.body.1) p c.in_ok-name.ensures.ok
    (c.open_brace.new.self, c.in_ok-open_brace.ensures.ok, refl) same (grind arith) c.in_ok-add.ensures
    c.in_ok-body.ensures.spans
