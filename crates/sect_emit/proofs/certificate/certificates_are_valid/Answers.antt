use Rattle.std.proofs.Common.{subst}
use Rattle.sect_types.specs.{First.{IsTyped}, Programs.{ProgramView, IsOfTree}, Sound.{AreSound}}
use Rattle.sect_emit.proofs.Written.{certified_by}
use Rattle.sect_emit.proofs.certificate.certificates_are_valid.Goals as goal

pub returns : goal.returns
returns c =
    let s = c.args.scheme.now in
    let typed = subst (λ (p : ProgramView). IsTyped p.source) c.program-2.ensures c.tree-facts.ensures.typed in
    let tree = subst IsOfTree c.program-2.ensures c.tree-facts.ensures.numbers in
    let sound = subst (λ (p : ProgramView). AreSound p.records p.globals p.locals p.texts) c.program.ensures
    c.facts-2.ensures.sound in
    certified_by s c.facts.ensures typed tree (c.spelled_locks_are_valid.ensures s c.facts.ensures typed tree sound)
