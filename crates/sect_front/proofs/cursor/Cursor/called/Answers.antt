use Rattle.std.proofs.Common.{[], ◌∷◌, refl, subst}
use Rattle.sect_front.specs.Syntax.{Call}
use Rattle.sect_front.specs.Tokens.{operands_tokens}
use Rattle.sect_front.specs.steps.{Passing.{ArePassed}}
use Rattle.sect_front.proofs.Leading.{operands_after}
use Rattle.sect_front.proofs.Growing.{operands_behind}
use Rattle.sect_front.proofs.Stopping.{passed_append}
use Rattle.sect_front.specs.declared.token.Token.TheVariants as token
use Rattle.sect_front.specs.declared.expected.Expected.TheVariants as expected
use Rattle.sect_front.proofs.Chains.{none, rule, one, fails, fails_part}
use Rattle.sect_front.proofs.cursor.Cursor.called.Goals as goal

pub returns-in_err-f-clause-err : goal.returns-in_err-f-clause-err
returns-in_err-f-clause-err c =
    fails _ none
    c.in_err-f.ensures.err c.from_residual.ensures.1

pub returns-in_err-sign-clause-err : goal.returns-in_err-sign-clause-err
returns-in_err-sign-clause-err c =
    fails _ (one c.in_ok-f.ensures.ok refl none)
    c.in_err-sign.ensures.err c.from_residual-in_err-sign.ensures.1

pub returns-in_err-values-clause-err : goal.returns-in_err-values-clause-err
returns-in_err-values-clause-err c =
    fails_part _ _ _ (expected.Argument ∷ []) (expected.Semicolon ∷ [])
    (one c.in_ok-f.ensures.ok refl (one c.in_ok-sign.ensures.ok refl none))
    c.in_err-values.ensures.err c.from_residual-in_err-values.ensures.1

pub returns-in_err-sign-2-clause-err : goal.returns-in_err-sign-2-clause-err
returns-in_err-sign-2-clause-err c =
    fails _ (one c.in_ok-f.ensures.ok refl (one c.in_ok-sign.ensures.ok refl
    (rule (operands_tokens c.in_ok-values.values (token.CloseParen ∷ []))
    c.in_ok-values.ensures.ok (operands_after c.in_ok-values.values (expected.Semicolon ∷ []) []) none)))
    c.in_err-sign-2.ensures.err c.from_residual-in_err-sign-2.ensures.1

pub returns-clause-ok : goal.returns-clause-ok
returns-clause-ok c =
    let vs = c.in_ok-values.values in
    record {
      statement = Call c.in_ok-f.f vs;
      tokens = token.Name c.in_ok-f.f ∷ token.OpenParen ∷ operands_tokens vs (token.CloseParen ∷ token.Semicolon ∷ []);
      are = (
        c.name.new.self,
        c.in_ok-f.ensures.ok,
        (
          c.sign.new.self,
          c.in_ok-sign.ensures.ok,
          subst (λ ts. ArePassed c.sign.new.self ts c.sign-2.new.self)
              (operands_behind vs (token.CloseParen ∷ []) (token.Semicolon ∷ []))
              (passed_append c.sign.new.self (operands_tokens vs (token.CloseParen ∷ [])) (token.Semicolon ∷ [])
              c.arguments.new.self c.sign-2.new.self c.in_ok-values.ensures.ok
              (c.sign-2.new.self, c.in_ok-sign-2.ensures.ok, refl)),
        ),
      );
      spelled = refl;
      added = c.in_ok-push.ensures.ok;
      behind = refl;
    }
