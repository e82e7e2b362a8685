use Rattle.std.proofs.Common.{[], ◌∷◌, refl}
use Rattle.sect_front.specs.Syntax.{Primitive}
use Rattle.sect_front.specs.Grammar.{operand_token}
use Rattle.sect_front.proofs.Stopping.{refused_equal}
use Rattle.sect_front.specs.declared.token.Token.TheVariants as token
use Rattle.sect_front.specs.declared.tree.Primitive.TheVariants as primitive
use Rattle.sect_front.proofs.Chains.{none, one, operand, stops, fails}
use Rattle.sect_front.proofs.cursor.Cursor.store.Goals as goal

pub returns-in_err-f-clause-err : goal.returns-in_err-f-clause-err
returns-in_err-f-clause-err c =
    fails _ none
    c.in_err-f.ensures.err c.from_residual.ensures.1

pub returns-then-not-takes_equal-clause-err : goal.returns-then-not-takes_equal-clause-err
returns-then-not-takes_equal-clause-err c =
    stops (one c.in_ok-f.ensures.ok refl none) (c.takes_equal.ensures.stays c.if-not-takes_equal.true)
    (refused_equal c.name.new.self (c.takes_equal.ensures.none c.if-not-takes_equal.true))

pub returns-in_err-v-clause-err : goal.returns-in_err-v-clause-err
returns-in_err-v-clause-err c =
    fails _ (one c.in_ok-f.ensures.ok refl (one (c.takes_equal.ensures.taken c.if-not-takes_equal.false) refl none))
    c.in_err-v.ensures.err c.from_residual-in_err-v.ensures.1

pub returns-in_err-sign-clause-err : goal.returns-in_err-sign-clause-err
returns-in_err-sign-clause-err c =
    fails _ (one c.in_ok-f.ensures.ok refl (one (c.takes_equal.ensures.taken c.if-not-takes_equal.false) refl
    (operand c.in_ok-v.v c.in_ok-v.ensures.ok none)))
    c.in_err-sign.ensures.err c.from_residual-in_err-sign.ensures.1

pub returns-clause-ok : goal.returns-clause-ok
returns-clause-ok c = record {
  statement = Primitive (primitive.Store c.args.y.now c.in_ok-f.f c.in_ok-v.v);
  tokens = token.Name c.in_ok-f.f ∷ token.Equal ∷ operand_token c.in_ok-v.v ∷ token.Semicolon ∷ [];
  are = (
    c.name.new.self,
    c.in_ok-f.ensures.ok,
    (
      c.takes_equal.new.self,
      (c.takes_equal.ensures.taken c.if-not-takes_equal.false),
      (
        c.operand.new.self,
        c.in_ok-v.ensures.ok,
        (c.sign.new.self, c.in_ok-sign.ensures.ok, refl),
      ),
    ),
  );
  spelled = refl;
  added = c.in_ok-push.ensures.ok;
  behind = refl;
}
