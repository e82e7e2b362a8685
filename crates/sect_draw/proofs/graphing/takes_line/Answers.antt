use Rattle.std.proofs.Common.{ap, ◌∙◌, sym, subst}
use Rattle.sect_types.specs.Programs.{ProgramView}
use Rattle.sect_names.specs.{Schemes.{SchemeView}, Printing.{AreNamed}}
use Rattle.sect_emit.proofs.shared.Sets.{set_named}
use Rattle.sect_draw.proofs.graphing.takes_line.Goals as goal

pub put_locks-requires : goal.put_locks-requires
put_locks-requires c =
    let set = c.set.result.now in
    subst (λ (p : ProgramView). AreNamed p set)
    (sym (c.program-program.ensures ∙ ap (λ (s : SchemeView). s.program) c.scheme.ensures))
    (set_named c.args.compiled.now c.facts.ensures.compiled c.args.section set c.set.ensures)
