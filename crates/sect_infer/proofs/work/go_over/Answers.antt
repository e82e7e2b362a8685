use Rattle.std.proofs.Common.{◌≤◌, length, subst, sym, refl, arith}
use Rattle.sect_lemmas.proofs.Places.{at_of}
use Rattle.sect_graph.specs.Paths.{IsSuccessor}
use Rattle.sect_infer.proofs.work.go_over.Goals as goal

pub pass_on-requires-clause-next : goal.pass_on-requires-clause-next
pass_on-requires-clause-next c =
    let y = at_of c.args.section.flow.now c.args.node c.requires.node in
    let within : c.in-Some.next ≤ length c.args.section.flow.now =
    c.requires.within c.args.node c.in-Some.next y.0 y.1
    (subst (λ o. IsSuccessor o c.in-Some.next) (sym (c.in-Some.ensures.goes y.0 y.1)) refl) in
    omega (arith, within, c.requires.numbered.count)
