use Rattle.std.proofs.Common.{[], ◌∷◌, refl}
use Rattle.sect_front.specs.Syntax.{Primitive}
use Rattle.sect_front.specs.Grammar.{operand_token}
use Rattle.sect_front.specs.declared.token.Token.TheVariants as token
use Rattle.sect_front.specs.declared.tree.Primitive.TheVariants as primitive
use Rattle.sect_front.proofs.Chains.{none, operand, fails}
use Rattle.sect_front.proofs.cursor.Cursor.printed.Goals as goal

pub returns-in_err-v-clause-err : goal.returns-in_err-v-clause-err
returns-in_err-v-clause-err c =
    fails _ none
    c.in_err-v.ensures.err c.from_residual.ensures.1

pub returns-in_err-sign-clause-err : goal.returns-in_err-sign-clause-err
returns-in_err-sign-clause-err c =
    fails _ (operand c.in_ok-v.v c.in_ok-v.ensures.ok none)
    c.in_err-sign.ensures.err c.from_residual-in_err-sign.ensures.1

pub returns-clause-ok : goal.returns-clause-ok
returns-clause-ok c = record {
  statement = Primitive (primitive.Print c.in_ok-v.v);
  tokens = operand_token c.in_ok-v.v ∷ token.Semicolon ∷ [];
  are = (c.operand.new.self, c.in_ok-v.ensures.ok, (c.sign.new.self, c.in_ok-sign.ensures.ok, refl));
  spelled = refl;
  added = c.in_ok-push.ensures.ok;
  behind = refl;
}
