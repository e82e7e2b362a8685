use Rattle.std.proofs.Common.{◌<◌, not, length, arith, sym, ◌∙◌, subst}
use Rattle.sect_lemmas.proofs.Places.{at_of}
use Rattle.sect_infer.proofs.TakingOver.{shared_numbered, shared_lawful, taken_visit}
use Rattle.sect_infer.proofs.Visiting.{tested_none, tested_some}
use Rattle.sect_infer.proofs.work.take_over.Goals as goal

pub visit-requires-clause-numbered : goal.visit-requires-clause-numbered
visit-requires-clause-numbered c =
    let a = c.args.section in
    let old = c.args.solution.now in
    shared_numbered a.scheme.now a.thread a.flow.now c.args.node c.args.next old.numbering
    old.lists c.share.new.self c.requires.numbered c.requires.lawful c.requires.taken
    (omega (arith, c.requires.node, c.requires.numbered.count)) c.share.ensures

pub visit-requires-clause-lawful : goal.visit-requires-clause-lawful
visit-requires-clause-lawful c =
    let a = c.args.section in
    let old = c.args.solution.now in
    shared_lawful a.scheme.now a.thread a.flow.now c.args.node c.args.next old.numbering
    old.lists c.share.new.self c.requires.numbered c.requires.lawful c.requires.taken
    (omega (arith, c.requires.node, c.requires.numbered.count)) c.share.ensures

pub returns : goal.returns
returns c =
    let a = c.args.section in
    let old = c.args.solution.now in
    let y = at_of a.flow.now c.args.node c.requires.node in
    taken_visit a.scheme.now a.thread a.flow.now c.args.node c.args.next old.numbering
    old.lists c.share.new.self c.requires.numbered c.requires.lawful c.requires.taken
    (omega (arith, c.requires.node, c.requires.numbered.count)) c.share.ensures y.0 y.1 c.visit.new.solution.numbering
    c.visit.new.solution.lists c.in_ok-visit.field-0 (not c.is_empty.result) c.in_ok-visit.ensures
    (λ off. sym c.of.ensures ∙ tested_none c.of.result.now c.is_empty.result c.is_empty.ensures off)
    (λ on. subst (λ xs. 0 < length xs) c.of.ensures
    (tested_some c.of.result.now c.is_empty.result c.is_empty.ensures on))
