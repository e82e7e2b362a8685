use Rattle.std.proofs.Common.{[], ◌∷◌, refl}
use Rattle.sect_front.specs.Syntax.{Primitive}
use Rattle.sect_front.specs.declared.token.Token.TheVariants as token
use Rattle.sect_front.specs.declared.tree.Primitive.TheVariants as primitive
use Rattle.sect_front.proofs.Chains.{none, one, fails}
use Rattle.sect_front.proofs.cursor.Cursor.made.Goals as goal

pub returns-in_err-r-clause-err : goal.returns-in_err-r-clause-err
returns-in_err-r-clause-err c =
    fails _ none
    c.in_err-r.ensures.err c.from_residual.ensures.1

pub returns-in_err-sign-clause-err : goal.returns-in_err-sign-clause-err
returns-in_err-sign-clause-err c =
    fails _ (one c.in_ok-r.ensures.ok refl none)
    c.in_err-sign.ensures.err c.from_residual-in_err-sign.ensures.1

pub returns-clause-ok : goal.returns-clause-ok
returns-clause-ok c = record {
  statement = Primitive (primitive.New c.args.x.now c.in_ok-r.r);
  tokens = token.Name c.in_ok-r.r ∷ token.Semicolon ∷ [];
  are = (c.name.new.self, c.in_ok-r.ensures.ok, (c.sign.new.self, c.in_ok-sign.ensures.ok, refl));
  spelled = refl;
  added = c.in_ok-push.ensures.ok;
  behind = refl;
}
