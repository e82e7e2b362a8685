use Rattle.std.proofs.Common.{sym, subst}
use Rattle.sect_asking.specs.{Phrases.{sign_spot, condition_spots}, steps.Reading.{Reads}}
use Rattle.sect_asking.proofs.Passing.{both_read}
use Rattle.sect_asking.specs.declared.mark.Sign.TheVariants as sign
use Rattle.sect_asking.proofs.cursor.Cursor.+condition.Goals as goal

pub one-returns-then-branch-2-clause-reads : goal.one-returns-then-branch-2-clause-reads
one-returns-then-branch-2-clause-reads t c =
    let inner = c.in_ok-inner-2.inner in
    subst (λ v. Reads (λ w. sign_spot sign.OpenParen (condition_spots v (sign_spot sign.CloseParen w)))
    c.args.self.now.here c.needs.new.self.here) (sym c.in_ok-new-2.ensures.ok)
    (both_read (sign_spot sign.OpenParen) (λ w. condition_spots inner (sign_spot sign.CloseParen w)) _ _ _
    (subst (λ x. Reads (sign_spot sign.OpenParen) x c.takes_operator-2.new.self.here)
    (c.in_ok-takes_operator.ensures.stays c.if-branch.false)
    (c.in_ok-takes_operator-2.ensures.taken c.if-branch-2.true))
    (both_read (condition_spots inner) (sign_spot sign.CloseParen) _ _ _ c.in_ok-inner-2.ensures.reads
    c.in_ok-needs.ensures))
