use Rattle.std.proofs.{Common.{◌≡◌, ◌++◌, [], map, ap, ◌∙◌, sym, subst}, lemmas.Option.{get_or_from_slice_get}}
use Rattle.std.specs.{List.{flat_map}, Prelude.{slice_index_or}}
use Rattle.serde_json.proofs.Views.{view-Array}
use Rattle.sect_types.specs.Programs.{ProgramView}
use Rattle.sect_names.specs.{Schemes.{SchemeView}, Printing.{AreNamed}}
use Rattle.sect_emit.proofs.shared.Sets.{set_named}
use Rattle.sect_json.specs.{Compiling.{grip_json, path_grips_json}, Values.{list}}
use Rattle.sect_json.proofs.compiling.plan_value.Goals as goal

pub put_path_grips-requires : goal.put_path_grips-requires
put_path_grips-requires c =
    let set = c.set.result.now in
    subst (λ (p : ProgramView). AreNamed p set)
    (sym (c.program-program.ensures ∙ ap (λ (s : SchemeView). s.program) c.scheme.ensures))
    (set_named c.args.compiled.now c.facts.ensures.compiled c.args.section set c.set.ensures)

pub returns : goal.returns
returns c =
    let v = c.args.compiled.now in
    let set = c.set.result.now in
    let part = c.part.result.now in
    let program : c.program-program.result.now ≡ v.scheme.program =
    c.program-program.ensures ∙ ap (λ (s : SchemeView). s.program) c.scheme.ensures in
    view-Array c.put_path_grips.new.values
    ∙ ap list (c.in_ok-put_path_grips.ensures
    ∙ (ap (λ ds. ds ++ flat_map (path_grips_json c.program-program.result.now) set) c.in_ok-values.ensures
    ∙ (ap (λ (p : ProgramView). map (grip_json p) part ++ flat_map (path_grips_json p) set) program
    ∙ (ap (λ gs. map (grip_json v.scheme.program) gs ++ flat_map (path_grips_json v.scheme.program) set)
    (sym (get_or_from_slice_get v.parts c.args.section part [] c.part.ensures))
    ∙ ap (λ ls. map (grip_json v.scheme.program) (slice_index_or v.parts c.args.section [])
    ++ flat_map (path_grips_json v.scheme.program) ls)
    (sym (get_or_from_slice_get v.sets c.args.section set [] c.set.ensures))))))
