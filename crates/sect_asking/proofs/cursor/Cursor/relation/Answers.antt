use Rattle.std.proofs.Common.{subst}
use Rattle.sect_asking.specs.{Marks.{IsFirst}, Phrases.{relation_sign}}
use Rattle.sect_asking.specs.declared.mark.Mark.TheVariants as mark
use Rattle.sect_asking.proofs.cursor.Cursor.relation.Goals as goal

pub returns : goal.returns
returns c =
    c.pass.ensures.placed (mark.Sign (relation_sign c.in-Some-relation_of.relation))
    (subst (λ s. IsFirst (mark.Sign s) c.in-Some.count c.args.self.now.here) c.in-Some-relation_of.ensures
    c.in-Some.ensures)
