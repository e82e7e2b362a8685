use Rattle.std.proofs.Common.{◌≤◌, length, arith}
use Rattle.sect_lemmas.proofs.Places.{at_of}
use Rattle.sect_infer.proofs.work.gather.Goals as goal

pub take_over-requires-clause-next : goal.take_over-requires-clause-next
take_over-requires-clause-next c =
    let y = at_of c.args.section.flow.now c.args.node c.requires.node in
    let within : c.in-Some.next ≤ length c.args.section.flow.now =
    c.requires.within c.args.node c.in-Some.next y.0 y.1 (c.in-Some.ensures.leads y.0 y.1) in
    omega (arith, within, c.requires.numbered.count)
