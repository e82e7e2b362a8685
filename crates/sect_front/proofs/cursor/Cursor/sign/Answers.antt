use Rattle.std.proofs.Common.{refl}
use Rattle.sect_front.proofs.Stopping.{sign_single, sign_spelled, sign_calm, sign_no_word, sign_no_double, refused_sign}
use Rattle.sect_front.proofs.cursor.Cursor.sign.Goals as goal

pub takes-requires-clause-word : goal.takes-requires-clause-word
takes-requires-clause-word c = rw c.requires.byte (sign_no_word c.args.expected c.requires.one)

pub takes-requires-clause-alone : goal.takes-requires-clause-alone
takes-requires-clause-alone c = rw c.requires.byte (sign_no_double c.args.expected c.requires.one)

pub returns-then-takes-clause-ok : goal.returns-then-takes-clause-ok
returns-then-takes-clause-ok c =
    c.takes.ensures.taken _ (rw c.requires.byte (sign_single c.args.expected c.requires.one))
    (sign_calm c.args.expected c.requires.one) c.if-takes.true

pub returns-clause-err : goal.returns-clause-err
returns-clause-err c = (
  refl,
  c.takes.ensures.stays c.if-takes.false,
  refused_sign c.args.expected c.args.self.now c.requires.one
      (c.takes.ensures.none _ (rw c.requires.byte (sign_spelled c.args.expected c.requires.one)) c.if-takes.false),
)
