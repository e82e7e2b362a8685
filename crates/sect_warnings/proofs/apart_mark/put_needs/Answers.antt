use Rattle.std.proofs.Common.{◌≡◌, [], ◌++◌, sym, ap, ◌∙◌, subst}
use Rattle.std.proofs.lemmas.Option.{get_or_from_slice_get}
use Rattle.std.specs.String.{string_bytes}
use Rattle.sect_lemmas.specs.Lists.{Has}
use Rattle.sect_types.specs.Programs.{ProgramView}
use Rattle.sect_names.specs.{Printing.{AreNamed}, Schemes.{SchemeView}}
use Rattle.sect_conflicts.specs.Conflicts.{set_at}
use Rattle.sect_warnings.specs.{Fields.{section_fields, used}, Labels.{needed_text}}
use Rattle.sect_warnings.proofs.{ClassMarks.{set_named}, Using.{fields_there}}
use Rattle.sect_warnings.proofs.apart_mark.put_needs.Goals as goal

pub put_needed-requires-clause-locks : goal.put_needed-requires-clause-locks
put_needed-requires-clause-locks c =
    let v = c.args.compiled.now in
    let i = c.args.section in
    let set : set_at v i ≡ c.set.result.now = get_or_from_slice_get v.sets i c.set.result.now [] c.set.ensures in
    rw (c.program-program.ensures, c.scheme.ensures)
    (subst (AreNamed v.scheme.program) set (set_named v c.facts.ensures.compiled i))

pub put_needed-requires-clause-fields : goal.put_needed-requires-clause-fields
put_needed-requires-clause-fields c = λ f h.
    let v = c.args.compiled.now in
    rw (c.program-program.ensures, c.scheme.ensures)
    (fields_there v c.facts.ensures.compiled c.args.section c.requires f
    (subst (λ fs. Has fs f) (c.as_slice.ensures.value ∙ c.in_ok-usage.ensures.uses) h))

pub returns : goal.returns
returns c =
    let v = c.args.compiled.now in
    let i = c.args.section in
    let old = string_bytes c.args.text.now in
    let t = v.scheme.program.source in
    let set : c.set.result.now ≡ set_at v i =
    sym (get_or_from_slice_get v.sets i c.set.result.now [] c.set.ensures) in
    let fields : c.as_slice.result.now ≡ section_fields used v i =
    c.as_slice.ensures.value ∙ c.in_ok-usage.ensures.uses in
    let program : c.program-program.result.now ≡ v.scheme.program =
    c.program-program.ensures ∙ ap (λ (s : SchemeView). s.program) c.scheme.ensures in
    c.in_ok-put_needed.ensures
    ∙ ap (λ (p : ProgramView). old ++ needed_text p.source c.set.result.now c.as_slice.result.now) program
    ∙ ap (λ ls. old ++ needed_text t ls c.as_slice.result.now) set
    ∙ ap (λ fs. old ++ needed_text t (set_at v i) fs) fields
