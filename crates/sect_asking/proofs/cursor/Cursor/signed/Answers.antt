use Rattle.std.proofs.Common.{subst}
use Rattle.sect_lemmas.proofs.Results.{if_ok}
use Rattle.sect_asking.specs.{Marks.{IsFirst}, Phrases.{sign_spot, number_spot}}
use Rattle.sect_asking.proofs.Passing.{both_read}
use Rattle.sect_asking.specs.declared.mark.Mark.TheVariants as mark
use Rattle.sect_asking.specs.declared.mark.Sign.TheVariants as sign
use Rattle.sect_asking.proofs.cursor.Cursor.signed.Goals as goal

pub returns-in-Null-clause-reads : goal.returns-in-Null-clause-reads
returns-in-Null-clause-reads c =
    c.pass.ensures.marks (mark.Sign sign.Null)
    (subst (λ s. IsFirst (mark.Sign s) c.args.count c.args.self.now.here) c.in-Null.is c.requires)

pub returns-in_ok-value-in-Minus-clause-reads : goal.returns-in_ok-value-in-Minus-clause-reads
returns-in_ok-value-in-Minus-clause-reads c =
    both_read (sign_spot sign.Minus) (number_spot c.in_ok-value-in-Minus.value) _ _ _
    (c.pass-in-Minus.ensures.marks (mark.Sign sign.Minus)
    (subst (λ s. IsFirst (mark.Sign s) c.args.count c.args.self.now.here) c.in-Minus.is c.requires))
    c.in_ok-value-in-Minus.ensures

pub returns-in_ok-needs-in-Print-2-clause-reads : goal.returns-in_ok-needs-in-Print-2-clause-reads
returns-in_ok-needs-in-Print-2-clause-reads c =
    both_read (sign_spot sign.Print)
    (λ w. sign_spot sign.OpenBracket (number_spot c.in_ok-place-in-Print.place (sign_spot sign.CloseBracket w))) _ _ _
    (c.pass-in-Print.ensures.marks (mark.Sign sign.Print)
    (subst (λ s. IsFirst (mark.Sign s) c.args.count c.args.self.now.here) c.in-Print.is c.requires))
    (both_read (sign_spot sign.OpenBracket)
    (λ w. number_spot c.in_ok-place-in-Print.place (sign_spot sign.CloseBracket w)) _ _ _
    c.in_ok-needs-in-Print.ensures
    (both_read (number_spot c.in_ok-place-in-Print.place) (sign_spot sign.CloseBracket) _ _ _
    c.in_ok-place-in-Print.ensures c.in_ok-needs-in-Print-2.ensures))

pub returns-in-Hash-clause-reads : goal.returns-in-Hash-clause-reads
returns-in-Hash-clause-reads c =
    if_ok c.counted.result (λ v k. k c.args.self.now.here (c.pass-in-Hash.ensures.marks (mark.Sign sign.Hash)
    (subst (λ s. IsFirst (mark.Sign s) c.args.count c.args.self.now.here) c.in-Hash.is c.requires)))
    c.counted.ensures.reads
