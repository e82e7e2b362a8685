use Rattle.std.proofs.{Common.{[], map, ap, ◌∙◌, sym, subst}, lemmas.Option.{get_or_from_slice_get}}
use Rattle.std.proofs.lemmas.Result.{IfOk-weaker}
use Rattle.sect_types.specs.Programs.{ProgramView}
use Rattle.sect_names.specs.{Schemes.{SchemeView}, Printing.{AreNamed}}
use Rattle.sect_emit.proofs.shared.Sets.{set_named}
use Rattle.sect_json.specs.{Locks.{lock_json}, Values.{list}}
use Rattle.sect_json.proofs.compiling.set_value.Goals as goal

pub locks_value-requires : goal.locks_value-requires
locks_value-requires c =
    let set = c.set.result.now in
    subst (λ (p : ProgramView). AreNamed p set)
    (sym (c.program.ensures ∙ ap (λ (s : SchemeView). s.program) c.scheme.ensures))
    (set_named c.args.compiled.now c.facts.ensures.compiled c.args.section set c.set.ensures)

pub returns : goal.returns
returns c =
    let v = c.args.compiled.now in
    let set = c.set.result.now in
    IfOk-weaker c.locks_value.result _ _
    (λ value h. h
    ∙ (ap (λ (p : ProgramView). list (map (lock_json p.source) set))
    (c.program.ensures ∙ ap (λ (s : SchemeView). s.program) c.scheme.ensures)
    ∙ ap (λ ls. list (map (lock_json v.scheme.program.source) ls))
    (sym (get_or_from_slice_get v.sets c.args.section set [] c.set.ensures)))) c.locks_value.ensures
