use Rattle.std.proofs.Common.{ap, ◌∙◌, sym, subst}
use Rattle.sect_types.specs.Programs.{ProgramView}
use Rattle.sect_names.specs.{Schemes.{SchemeView}, Printing.{AreNamed}}
use Rattle.sect_emit.proofs.shared.Sets.{set_named}
use Rattle.sect_json.proofs.locks.section_value.Goals as goal

pub locks_value-requires : goal.locks_value-requires
locks_value-requires c =
    let set = c.set.result.now in
    subst (λ (p : ProgramView). AreNamed p set)
    (sym (c.program.ensures ∙ ap (λ (s : SchemeView). s.program) c.scheme.ensures))
    (set_named c.args.compiled.now c.facts.ensures.compiled c.args.section set c.set.ensures)
