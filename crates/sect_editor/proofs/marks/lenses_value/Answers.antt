use Rattle.std.proofs.{Common.{ap, sym, subst, ◌∙◌}, lemmas.Result.{IfOk-weaker}}
use Rattle.std.specs.List.{flat_map}
use Rattle.sect_front.specs.Front.{IsSpelled}
use Rattle.sect_types.specs.Programs.{ProgramView}
use Rattle.sect_names.specs.Schemes.{SchemeView}
use Rattle.sect_places.specs.NodeSpans.{AreNodeSpans}
use Rattle.sect_editor.specs.{Marks.{lenses_at, section_numbers}, Ranges.{list}}
use Rattle.sect_editor.proofs.marks.lenses_value.Goals as goal

pub node_spans-requires : goal.node_spans-requires
node_spans-requires c =
    subst (λ (p : ProgramView). IsSpelled c.args.source.now p.source)
    (sym (c.program.ensures ∙ ap (λ (s : SchemeView). s.program) c.scheme.ensures)) c.requires

pub lens_values-requires : goal.lens_values-requires
lens_values-requires c =
    subst (λ (p : ProgramView). AreNodeSpans c.args.source.now p c.in_ok-spans.spans)
    (c.program.ensures ∙ ap (λ (s : SchemeView). s.program) c.scheme.ensures) c.in_ok-spans.ensures

pub returns : goal.returns
returns c =
    let v = c.args.compiled.now in
    let source = c.args.source.now in
    let spans = c.in_ok-spans.spans in
    IfOk-weaker c.lens_values.result _ _
    (λ value h. (
      spans,
      subst (λ (p : ProgramView). AreNodeSpans c.args.source.now p spans)
          (c.program.ensures ∙ ap (λ (s : SchemeView). s.program) c.scheme.ensures) c.in_ok-spans.ensures,
      c.in_ok-pairs.pairs.items,
      c.in_ok-pairs.ensures,
      h ∙ ap (λ pairs. list (flat_map (lenses_at v source spans pairs) (section_numbers v))) c.as_slice.ensures.value,
    )) c.lens_values.ensures
