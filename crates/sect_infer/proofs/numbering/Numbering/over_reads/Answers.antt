use Rattle.std.proofs.Common.{Some, sym, subst}
use Rattle.sect_infer.specs.steps.Putting.{AreThere, over_writes, over_reads}
use Rattle.sect_infer.proofs.numbering.Numbering.over_reads.Goals as goal

pub returns-in-None : goal.returns-in-None
returns-in-None c =
    let keys = c.args.self.now.keys in
    let above = c.in_ok-above.above.items in
    subst (λ o. AreThere keys (over_reads o) above) (sym c.in-None.is)
    (subst (λ o. AreThere keys (over_writes o) above) c.in-None.is c.in_ok-above.ensures)

pub returns-in_ok-push_read-in-Some : goal.returns-in_ok-push_read-in-Some
returns-in_ok-push_read-in-Some c =
    let keys = c.args.self.now.keys in
    subst (λ o. AreThere keys (over_reads o) c.push_read.new.above.items) (sym c.in-Some.is)
    (c.in_ok-push_read-in-Some.ensures (over_writes (Some c.in-Some.number))
    (subst (λ o. AreThere keys (over_writes o) c.in_ok-above.above.items) c.in-Some.is c.in_ok-above.ensures))
