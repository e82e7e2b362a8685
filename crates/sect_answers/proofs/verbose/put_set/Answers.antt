use Rattle.std.proofs.{Common.{◌++◌, [], ap, ◌∙◌, sym, subst}, lemmas.Option.{get_or_from_slice_get}}
use Rattle.std.proofs.lemmas.Result.{on_ok_weaker}
use Rattle.std.specs.String.{string_bytes}
use Rattle.sect_types.specs.Programs.{ProgramView}
use Rattle.sect_names.specs.{Schemes.{SchemeView}, Printing.{AreNamed, locks_text}}
use Rattle.sect_emit.proofs.shared.Sets.{set_named}
use Rattle.sect_answers.proofs.verbose.put_set.Goals as goal

pub put_locks-requires : goal.put_locks-requires
put_locks-requires c =
    let set = c.set.result.now in
    subst (λ (p : ProgramView). AreNamed p set)
    (sym (c.program.ensures ∙ ap (λ (s : SchemeView). s.program) c.scheme.ensures))
    (set_named c.args.compiled.now c.facts.ensures.compiled c.args.section set c.set.ensures)

pub returns : goal.returns
returns c =
    let v = c.args.compiled.now in
    let set = c.set.result.now in
    let old = string_bytes c.args.text.now in
    on_ok_weaker c.put_locks.result
    (λ put. put ∙ (ap (λ (p : ProgramView). old ++ locks_text p.source set)
    (c.program.ensures ∙ ap (λ (s : SchemeView). s.program) c.scheme.ensures)
    ∙ ap (λ ls. old ++ locks_text v.scheme.program.source ls)
    (sym (get_or_from_slice_get v.sets c.args.section set [] c.set.ensures)))) c.put_locks.ensures
