use Rattle.std.proofs.{Common.{ap, sym, subst, ◌∙◌}, lemmas.Result.{IfOk-weaker}}
use Rattle.serde_json.specs.Written.{has_float}
use Rattle.sect_types.specs.Programs.{ProgramView}
use Rattle.sect_names.specs.Schemes.{SchemeView}
use Rattle.sect_emit.specs.Compiled.{program_of}
use Rattle.sect_conflicts.specs.Naming.{AreConflictsNamed}
use Rattle.sect_conflicts.proofs.shared.PathNames.{conflicts_named}
use Rattle.sect_json.specs.{Values.{document_text}, Conflicts.{conflicts_json}}
use Rattle.sect_json.proofs.PlainConflicts.{plain_conflicts}
use Rattle.sect_json.proofs.conflicts.conflicts_document.Goals as goal

pub conflicts_value-requires : goal.conflicts_value-requires
conflicts_value-requires c =
    let v = c.args.compiled.now in
    subst (λ (p : ProgramView). AreConflictsNamed p c.as_slice.result.now)
    (sym (c.program.ensures ∙ ap (λ (s : SchemeView). s.program) c.scheme.ensures))
    (subst (AreConflictsNamed (program_of v)) (sym c.as_slice.ensures.value)
    (conflicts_named v c.facts.ensures.compiled c.in_ok-pairs.pairs.items c.in_ok-pairs.ensures))

pub document-requires : goal.document-requires
document-requires c =
    ap has_float c.in_ok-value.ensures ∙ plain_conflicts c.program.result.now c.as_slice.result.now

pub returns : goal.returns
returns c =
    let v = c.args.compiled.now in
    let pairs = c.in_ok-pairs.pairs.items in
    let program = c.program.ensures ∙ ap (λ (s : SchemeView). s.program) c.scheme.ensures in
    let value = c.in_ok-value.ensures ∙ (ap (conflicts_json c.program.result.now) c.as_slice.ensures.value
    ∙ ap (λ (p : ProgramView). conflicts_json p pairs) program) in
    IfOk-weaker c.document.result _ _
    (λ text h. record { pairs = pairs; told = c.in_ok-pairs.ensures; printed = h ∙ ap document_text value })
    c.document.ensures
