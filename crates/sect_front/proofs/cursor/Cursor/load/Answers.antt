use Rattle.std.proofs.Common.{[], ◌∷◌, refl}
use Rattle.sect_front.specs.Syntax.{Primitive}
use Rattle.sect_front.specs.declared.token.Token.TheVariants as token
use Rattle.sect_front.specs.declared.tree.Primitive.TheVariants as primitive
use Rattle.sect_front.proofs.Chains.{none, one, fails}
use Rattle.sect_front.proofs.cursor.Cursor.load.Goals as goal

pub returns-in_err-f-clause-err : goal.returns-in_err-f-clause-err
returns-in_err-f-clause-err c =
    fails _ none
    c.in_err-f.ensures.err c.from_residual.ensures.1

pub returns-in_err-sign-clause-err : goal.returns-in_err-sign-clause-err
returns-in_err-sign-clause-err c =
    fails _ (one c.in_ok-f.ensures.ok refl none)
    c.in_err-sign.ensures.err c.from_residual-in_err-sign.ensures.1

pub returns-clause-ok : goal.returns-clause-ok
returns-clause-ok c = record {
  statement = Primitive (primitive.Load c.args.x.now c.args.y.now c.in_ok-f.f);
  tokens = token.Name c.in_ok-f.f ∷ token.Semicolon ∷ [];
  are = (c.name.new.self, c.in_ok-f.ensures.ok, (c.sign.new.self, c.in_ok-sign.ensures.ok, refl));
  spelled = refl;
  added = c.in_ok-push.ensures.ok;
  behind = refl;
}
