use Rattle.std.proofs.Common.{refl}
use Rattle.sect_front.proofs.Chains.{none, one, fails}
use Rattle.sect_front.proofs.cursor.Cursor.declared.Goals as goal

pub returns-in_err-name-clause-err : goal.returns-in_err-name-clause-err
returns-in_err-name-clause-err c =
    fails _ none
    c.in_err-name.ensures.err c.from_residual.ensures.1

pub returns-in_err-sign-clause-err : goal.returns-in_err-sign-clause-err
returns-in_err-sign-clause-err c =
    fails _ (one c.in_ok-name.ensures.ok refl none)
    c.in_err-sign.ensures.err c.from_residual-in_err-sign.ensures.1

pub returns-clause-ok : goal.returns-clause-ok
returns-clause-ok c = record {
  name = c.in_ok-name.name;
  are = (
    c.name.new.self,
    c.in_ok-name.ensures.ok,
    (c.sign.new.self, c.in_ok-sign.ensures.ok, refl),
  );
  added = c.in_ok-push.ensures.ok;
}
