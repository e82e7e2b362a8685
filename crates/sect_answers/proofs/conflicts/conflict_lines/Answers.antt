use Rattle.std.proofs.Common.{ap, ◌∙◌, sym, subst}
use Rattle.sect_types.specs.Programs.{ProgramView}
use Rattle.sect_names.specs.Schemes.{SchemeView}
use Rattle.sect_emit.specs.Compiled.{program_of}
use Rattle.sect_conflicts.proofs.shared.PathNames.{conflicts_named}
use Rattle.sect_conflicts.specs.Naming.{AreConflictsNamed}
use Rattle.sect_answers.proofs.conflicts.conflict_lines.Goals as goal

pub put_pairs-requires : goal.put_pairs-requires
put_pairs-requires c =
    let p = c.args.compiled.now in
    subst (λ (q : ProgramView). AreConflictsNamed q c.as_slice-2.result.now)
    (sym (c.program.ensures ∙ ap (λ (s : SchemeView). s.program) c.scheme.ensures))
    (subst (AreConflictsNamed (program_of p)) (sym c.as_slice-2.ensures.value)
    (conflicts_named p c.facts.ensures.compiled c.in_ok-pairs.pairs.items c.in_ok-pairs.ensures))
