use Rattle.std.proofs.Common.{refl, arith}
use Rattle.sect_front.specs.declared.token.Token.TheVariants as token
use Rattle.sect_front.proofs.cursor.Cursor.open_brace.Goals as goal

pub returns-in_default-clause-err : goal.returns-in_default-clause-err
returns-in_default-clause-err c = (refl, refl, rw c.in_default.is at c.behind_sign.ensures.none token.OpenBrace refl)

pub returns-clause-ok : goal.returns-clause-ok
returns-clause-ok c = record {
  stands = (rw c.in-Some.is at c.behind_sign.ensures.some token.OpenBrace refl).stands;
  last = (rw c.in-Some.is at c.behind_sign.ensures.some token.OpenBrace refl).behind;
  end = grind arith;
  braces = grind arith;
  low = λ h. grind arith;
}

pub returns-then-self-ge-MOST_DEPTH-clause-err : goal.returns-then-self-ge-MOST_DEPTH-clause-err
returns-then-self-ge-MOST_DEPTH-clause-err c = (
  refl,
  _,
  (rw c.in-Some.is at c.behind_sign.ensures.some token.OpenBrace refl).stands,
  grind arith,
)
