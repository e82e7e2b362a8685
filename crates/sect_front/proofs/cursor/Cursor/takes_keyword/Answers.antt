use Rattle.sect_front.specs.steps.{Signs.{keyword_token}}
use Rattle.sect_front.proofs.Stopping.{same_token}
use Rattle.sect_front.proofs.Stopping.{calm_keyword}
use Rattle.sect_front.proofs.Stopping.{calm_keyword}
use Rattle.sect_front.proofs.Stopping.{calm_keyword}
use Rattle.sect_front.proofs.Chains.{passed}
use Rattle.sect_front.proofs.Stopping.{calm_keyword}
use Rattle.sect_front.proofs.cursor.Cursor.takes_keyword.Goals as goal

pub returns-in_default-clause-none : goal.returns-in_default-clause-none
returns-in_default-clause-none c = λ h. (rw c.in_default.is at c.token.ensures.none) _

pub returns-then-not-is-clause-none : goal.returns-then-not-is-clause-none
returns-then-not-is-clause-none c = λ h rest s.
    c.is.ensures.other c.if-not-is.true
    (same_token c.args.self.now.here _ rest c.token.new.token (keyword_token c.args.keyword)
    c.in-Some.ensures.some.stands s)

pub returns-clause-taken : goal.returns-clause-taken
returns-clause-taken c = λ h.
    passed c.args.self.now c.in-Some.ensures.some (c.is.ensures.is c.if-not-is.false) (calm_keyword c.args.keyword)
    c.pass.ensures
