use Rattle.std.proofs.Common.{sym, ◌∙◌}
use Rattle.sect_cert.proofs.AgainLaws.{repeats}
use Rattle.sect_cert.proofs.again.is_next.Goals as goal

pub returns-then-eq : goal.returns-then-eq
returns-then-eq c = λ is.
    repeats c.args.lines.before.now c.args.lines.text.now c.in-Some.field-0-0.now c.in-Some.before.now
    c.in-Some-halves.head.now c.in-Some-halves.list.now c.args.number c.in-Some.ensures c.in-Some-halves.ensures
    (sym c.eq.ensures ∙ c.if-eq.true) (c.is_node.ensures is)
