use Rattle.std.proofs.{Common.{◌≡◌, Some, true, false, sym, ap, subst, ◌∙◌}, lemmas.Option.{get_or_from_slice_get}}
use Rattle.std.specs.Prelude.{slice_get}
use Rattle.sect_front.specs.declared.tree.Locking.TheVariants.{Inferred}
use Rattle.sect_types.specs.Programs.{ProgramView}
use Rattle.sect_names.specs.Schemes.{SchemeView}
use Rattle.sect_json.specs.Inspecting.{is_all}
use Rattle.sect_json.proofs.Rows.{view_flag}
use Rattle.sect_json.proofs.inspected_sections.all_value.Goals as goal

pub returns-in-All : goal.returns-in-All
returns-in-All c =
    let i = c.args.section in
    let here = subst (λ (p : ProgramView). slice_get p.lockings i ≡ Some c.locking.result)
    (c.program.ensures ∙ ap (λ (s : SchemeView). s.program) c.scheme.ensures) c.locking.ensures in
    view_flag true ∙ ap is_all (sym (get_or_from_slice_get c.args.compiled.now.scheme.program.lockings i
    c.locking.result Inferred here ∙ c.in-All.is))

pub returns-in-Inferred : goal.returns-in-Inferred
returns-in-Inferred c =
    let i = c.args.section in
    let here = subst (λ (p : ProgramView). slice_get p.lockings i ≡ Some c.locking.result)
    (c.program.ensures ∙ ap (λ (s : SchemeView). s.program) c.scheme.ensures) c.locking.ensures in
    view_flag false ∙ ap is_all (sym (get_or_from_slice_get c.args.compiled.now.scheme.program.lockings i
    c.locking.result Inferred here ∙ c.in-Inferred.is))
