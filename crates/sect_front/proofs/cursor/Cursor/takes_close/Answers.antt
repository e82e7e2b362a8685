use Rattle.std.proofs.Common.{refl, arith}
use Rattle.sect_front.specs.declared.token.Token.TheVariants as token
use Rattle.sect_front.proofs.cursor.Cursor.takes_close.Goals as goal

pub returns-in_default-clause-none : goal.returns-in_default-clause-none
returns-in_default-clause-none c = λ h. rw c.in_default.is at c.behind_sign.ensures.none token.CloseBrace refl

pub returns-clause-taken : goal.returns-clause-taken
returns-clause-taken c = λ h. record {
  stands = (rw c.in-Some.is at c.behind_sign.ensures.some token.CloseBrace refl).stands;
  last = (rw c.in-Some.is at c.behind_sign.ensures.some token.CloseBrace refl).behind;
  end = grind arith;
  braces = grind arith;
  low = λ h. grind arith;
}
