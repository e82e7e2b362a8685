use Rattle.std.proofs.Common.{List, sym, subst, ap}
use Rattle.sect_asking.specs.Phrases.{sign_spot, equal_sign, numbers_spots}
use Rattle.sect_asking.specs.{declared.phrase.Numeral.{Numeral}, steps.Reading.{Reads}}
use Rattle.sect_asking.proofs.Passing.{both_read}
use Rattle.sect_asking.specs.declared.mark.Sign.TheVariants as sign
use Rattle.sect_asking.proofs.cursor.Cursor.prints.Goals as goal

pub returns-then-takes-clause-reads : goal.returns-then-takes-clause-reads
returns-then-takes-clause-reads c =
    let denied = c.in_ok-denied.denied in
    subst (λ (ns : List Numeral). Reads (λ w. sign_spot sign.Print (sign_spot (equal_sign denied)
    (sign_spot sign.OpenBracket (numbers_spots ns (sign_spot sign.CloseBracket w)))))
    c.args.self.now.here c.takes.new.self.here) (sym c.new.ensures.items)
    (both_read (sign_spot sign.Print) (λ w. sign_spot (equal_sign denied)
    (sign_spot sign.OpenBracket (sign_spot sign.CloseBracket w))) _ _ _ c.in_ok-needs.ensures
    (both_read (sign_spot (equal_sign denied)) (λ w. sign_spot sign.OpenBracket (sign_spot sign.CloseBracket w)) _ _ _
    c.in_ok-denied.ensures
    (both_read (sign_spot sign.OpenBracket) (sign_spot sign.CloseBracket) _ _ _ c.in_ok-needs-2.ensures
    (c.takes.ensures.taken c.if-takes.true))))

pub returns-clause-reads : goal.returns-clause-reads
returns-clause-reads c =
    let denied = c.in_ok-denied.denied in
    let ns = c.in_ok-numbers.numbers.items in
    both_read (sign_spot sign.Print) (λ w. sign_spot (equal_sign denied)
    (sign_spot sign.OpenBracket (numbers_spots ns (sign_spot sign.CloseBracket w)))) _ _ _ c.in_ok-needs.ensures
    (both_read (sign_spot (equal_sign denied))
    (λ w. sign_spot sign.OpenBracket (numbers_spots ns (sign_spot sign.CloseBracket w))) _ _ _ c.in_ok-denied.ensures
    (both_read (sign_spot sign.OpenBracket) (λ w. numbers_spots ns (sign_spot sign.CloseBracket w)) _ _ _
    c.in_ok-needs-2.ensures
    (subst (λ x. Reads (λ w. numbers_spots ns (sign_spot sign.CloseBracket w)) x c.needs-3.new.self.here)
    (ap (λ v. v.here) (c.takes.ensures.stays c.if-takes.false))
    (both_read (numbers_spots ns) (sign_spot sign.CloseBracket) _ _ _ c.in_ok-numbers.ensures c.in_ok-needs-3.ensures))))
