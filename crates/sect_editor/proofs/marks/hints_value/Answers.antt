use Rattle.std.proofs.{Common.{ap, sym, subst, ◌∙◌}, lemmas.Result.{IfOk-weaker}}
use Rattle.sect_front.specs.Front.{IsSpelled}
use Rattle.sect_types.specs.Programs.{ProgramView}
use Rattle.sect_names.specs.Schemes.{SchemeView}
use Rattle.sect_places.specs.NodeSpans.{AreNodeSpans}
use Rattle.sect_editor.proofs.marks.hints_value.Goals as goal

pub node_spans-requires : goal.node_spans-requires
node_spans-requires c =
    subst (λ (p : ProgramView). IsSpelled c.args.source.now p.source)
    (sym (c.program.ensures ∙ ap (λ (s : SchemeView). s.program) c.scheme.ensures)) c.requires

pub hint_values-requires : goal.hint_values-requires
hint_values-requires c =
    subst (λ (p : ProgramView). AreNodeSpans c.args.source.now p c.in_ok-spans.spans)
    (c.program.ensures ∙ ap (λ (s : SchemeView). s.program) c.scheme.ensures) c.in_ok-spans.ensures

pub returns : goal.returns
returns c =
    let spans = c.in_ok-spans.spans in
    IfOk-weaker c.hint_values.result _ _
    (λ value h. (
      spans,
      subst (λ (p : ProgramView). AreNodeSpans c.args.source.now p spans)
          (c.program.ensures ∙ ap (λ (s : SchemeView). s.program) c.scheme.ensures) c.in_ok-spans.ensures,
      h,
    )) c.hint_values.ensures
