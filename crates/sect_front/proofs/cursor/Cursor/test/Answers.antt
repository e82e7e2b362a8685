use Rattle.std.proofs.Common.{refl}
use Rattle.sect_front.proofs.Chains.{none, one, operand, fails}
use Rattle.sect_front.proofs.cursor.Cursor.test.Goals as goal

pub returns-in_err-sign-clause-err : goal.returns-in_err-sign-clause-err
returns-in_err-sign-clause-err c =
    fails _ none
    c.in_err-sign.ensures.err c.from_residual.ensures.1

pub returns-in_err-left-clause-err : goal.returns-in_err-left-clause-err
returns-in_err-left-clause-err c =
    fails _ (one c.in_ok-sign.ensures.ok refl none)
    c.in_err-left.ensures.err c.from_residual-in_err-left.ensures.1

pub returns-in_err-comparison-clause-err : goal.returns-in_err-comparison-clause-err
returns-in_err-comparison-clause-err c =
    fails _ (one c.in_ok-sign.ensures.ok refl (operand c.in_ok-left.left c.in_ok-left.ensures.ok none))
    c.in_err-comparison.ensures.err c.from_residual-in_err-comparison.ensures.1

pub returns-in_err-right-clause-err : goal.returns-in_err-right-clause-err
returns-in_err-right-clause-err c =
    fails _ (one c.in_ok-sign.ensures.ok refl (operand c.in_ok-left.left c.in_ok-left.ensures.ok
    (one c.in_ok-comparison.ensures.ok refl none)))
    c.in_err-right.ensures.err c.from_residual-in_err-right.ensures.1

pub returns-in_err-sign-2-clause-err : goal.returns-in_err-sign-2-clause-err
returns-in_err-sign-2-clause-err c =
    fails _ (one c.in_ok-sign.ensures.ok refl (operand c.in_ok-left.left c.in_ok-left.ensures.ok
    (one c.in_ok-comparison.ensures.ok refl (operand c.in_ok-right.right c.in_ok-right.ensures.ok none))))
    c.in_err-sign-2.ensures.err c.from_residual-in_err-sign-2.ensures.1

pub returns-clause-ok : goal.returns-clause-ok
returns-clause-ok c = (
  c.sign.new.self,
  c.in_ok-sign.ensures.ok,
  (
    c.operand.new.self,
    c.in_ok-left.ensures.ok,
    (
      c.comparison.new.self,
      c.in_ok-comparison.ensures.ok,
      (
        c.operand-2.new.self,
        c.in_ok-right.ensures.ok,
        (c.sign-2.new.self, c.in_ok-sign-2.ensures.ok, refl),
      ),
    ),
  ),
)
