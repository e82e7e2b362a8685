use Rattle.std.proofs.Common.{refl}
use Rattle.sect_front.proofs.Chains.{passed}
use Rattle.sect_front.proofs.cursor.Cursor.takes.Goals as goal

pub returns-in_default-clause-none : goal.returns-in_default-clause-none
returns-in_default-clause-none c = λ token e h. rw c.in_default.is at c.behind_sign.ensures.none token e

pub returns-clause-taken : goal.returns-clause-taken
returns-clause-taken c = λ token e calm h.
    passed c.args.self.now (rw c.in-Some.is at c.behind_sign.ensures.some token e) refl calm c.pass.ensures
