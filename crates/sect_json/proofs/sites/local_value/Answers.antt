use Rattle.std.proofs.{Common.{◌≡◌, ◌∙◌, [], Some, rules, sym, ap, subst}, lemmas.Option.{get_or_from_slice_get}}
use Rattle.std.proofs.lemmas.Result.{IfOk-weaker}
use Rattle.std.specs.{Prelude.{None, slice_get, slice_index_or}, String.{string_bytes}}
use Rattle.serde_json.specs.View.{view}
use Rattle.sect_types.specs.{LocalNames.{local_text, all_local_names}, Programs.{ProgramView}}
use Rattle.sect_points.specs.{Partitions.{ClassesView}, Sets.{PointsToView}}
use Rattle.sect_names.specs.{Printing.{local_at}, Schemes.{SchemeView}}
use Rattle.sect_json.specs.Sites.{holder_with, held_json}
use Rattle.sect_points.specs.declared.holders.Holder.TheVariants as holder
use Rattle.sect_json.proofs.sites.local_value.Goals as goal

pub returns : goal.returns
returns c =
    let v = c.args.of.now.compiled.now in
    let u = c.args.thread in
    let x = c.args.local in
    let called = c.local_name-called.result in
    let program = c.program.ensures ∙ ap (λ (s : SchemeView). s.program) c.scheme-scheme.ensures in
    let sets = c.points.ensures ∙ (ap (λ (k : ClassesView). k.sets) c.classes.ensures
    ∙ ap (λ (s : SchemeView). s.classes.sets) c.scheme-scheme.ensures) in
    let here = subst (λ (p : ProgramView). slice_get (slice_index_or (all_local_names p.source) u []) x ≡ Some called)
    program c.local_name-called.ensures in
    let text : string_bytes c.in_ok-name.name ≡ local_text called = search rules in
    let named : local_text called ≡ local_text (local_at v.scheme.program.source u x) =
    ap local_text (sym (get_or_from_slice_get (slice_index_or (all_local_names v.scheme.program.source) u []) x called
    (record { name = []; call = None }) here)) in
    IfOk-weaker c.told_holder.result _ _
    (λ value h. h ∙ (ap (λ n. holder_with n (view c.in_ok-sites.sites)) (text ∙ named)
    ∙ ap (holder_with (local_text (local_at v.scheme.program.source u x))) (c.in_ok-sites.ensures
    ∙ ap (λ (s : PointsToView). held_json s (holder.Local u x)) sets))) c.told_holder.ensures
