-- The places are those of the text.
use Rattle.std.proofs.Common.{List, ℕ, sym, ap, subst, ◌∙◌, refl}
use Rattle.std.proofs.lemmas.Result.{IfOk-weaker}
use Rattle.std.specs.Prelude.{option_map}
use Rattle.sect_types.specs.Programs.{ProgramView}
use Rattle.sect_places.specs.NodeSpans.{AreNodeSpans}
use Rattle.sect_names.specs.Schemes.{SchemeView}
use Rattle.sect_emit.specs.Compiled.{program_of}
use Rattle.sect_answers.proofs.placed_schedule.chart_printed.Goals as goal

pub chart-requires : goal.chart-requires
chart-requires c =
    subst (λ (s : List ℕ). AreNodeSpans s (program_of c.args.compiled.now) c.in_ok-spans.spans)
    (sym c.in_ok-lines.ensures)
    (subst (λ (p : ProgramView). AreNodeSpans c.args.text.source.now p c.in_ok-spans.spans)
    (c.program.ensures ∙ ap (λ (s : SchemeView). s.program) c.scheme.ensures) c.in_ok-spans.ensures)

pub returns-clause-answers : goal.returns-clause-answers
returns-clause-answers c =
    let spans = c.in_ok-spans.spans in
    IfOk-weaker c.chart.result _ _ (λ printed chart. record {
      places = record {
        source = c.in_ok-lines.lines;
        spans = spans;
        file = option_map (λ name. name.now) c.args.text.file;
      };
      placed = record {
        text = c.in_ok-lines.ensures;
        named = refl;
        nodes = subst (λ (p : ProgramView). AreNodeSpans c.args.text.source.now p spans)
            (c.program.ensures ∙ ap (λ (s : SchemeView). s.program) c.scheme.ensures) c.in_ok-spans.ensures;
      };
      chart = chart;
    }) c.chart.ensures.answers
