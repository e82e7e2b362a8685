use Rattle.std.proofs.Common.{◌≡◌, true, subst, arith}
use Rattle.sect_asking.specs.Marks.{IsFirst}
use Rattle.sect_asking.specs.declared.mark.Mark.TheVariants as mark
use Rattle.sect_asking.proofs.cursor.Cursor.takes.Goals as goal

pub returns-clause-taken : goal.returns-clause-taken
returns-clause-taken c is =
    let same : c.is.result ≡ true = grind arith in
    c.pass.ensures.marks (mark.Sign c.args.wanted)
    (subst (λ s. IsFirst (mark.Sign s) c.in-Some.count c.args.self.now.here) (c.is.ensures same)
    c.in-Some.ensures)
