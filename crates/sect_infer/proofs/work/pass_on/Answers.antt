use Rattle.std.proofs.Common.{◌<◌, not, length, arith, sym, ◌∙◌, subst}
use Rattle.sect_lemmas.proofs.Places.{at_of}
use Rattle.sect_infer.proofs.{Passing.{passed_own}, Visiting.{tested_none, tested_some}}
use Rattle.sect_infer.proofs.work.pass_on.Goals as goal

pub returns : goal.returns
returns c =
    let a = c.args.section in
    let old = c.args.solution.now in
    let y = at_of a.flow.now c.args.node c.requires.node in
    let new = c.put_generated.new.solution in
    passed_own a.scheme.now a.thread a.flow.now c.args.node c.args.next y.0 y.1 old.numbering new.numbering old.lists
    c.share.new.self new.lists c.requires.numbered c.requires.lawful c.requires.passed (not c.is_empty.result)
    (omega (arith, c.requires.node, c.requires.numbered.count)) c.share.ensures c.in_ok-put_generated.ensures
    (λ off. sym c.of.ensures ∙ tested_none c.of.result.now c.is_empty.result c.is_empty.ensures off)
    (λ on. subst (λ xs. 0 < length xs) c.of.ensures
    (tested_some c.of.result.now c.is_empty.result c.is_empty.ensures on))
