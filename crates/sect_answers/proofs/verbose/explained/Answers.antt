-- The places are those of the text, and the lines of classes stand behind the others.
use Rattle.std.proofs.Common.{◌∙◌, ◌++◌, ap, subst}
use Rattle.std.specs.{Prelude.{option_map}, String.{string_bytes}}
use Rattle.sect_types.specs.Programs.{ProgramView}
use Rattle.sect_places.specs.NodeSpans.{AreNodeSpans}
use Rattle.sect_names.specs.Schemes.{SchemeView}
use Rattle.sect_legend.specs.Legend.{AreClassLines, site_names}
use Rattle.sect_answers.specs.Verbose.{AreLinesOf}
use Rattle.sect_answers.proofs.verbose.explained.Goals as goal

pub returns : goal.returns
returns c =
    let source = c.args.source.now in
    let v = c.args.compiled.now in
    let spans = c.in_ok-spans.spans in
    let mark = option_map (λ m. m.now) c.marked.result in
    let lines = string_bytes c.in_ok-text.text in
    let classes = string_bytes c.in_ok-class_lines.field-0 in
    let numbers = v.scheme.classes.numbers in
    record {
      spans = spans;
      placed = subst (λ (p : ProgramView). AreNodeSpans source p spans)
          (c.program.ensures ∙ ap (λ (s : SchemeView). s.program) c.scheme.ensures) c.in_ok-spans.ensures;
      lines = lines;
      told = subst (λ m. AreLinesOf c.args.of v m source spans.heads lines) c.marked.ensures
          (subst (λ s. AreLinesOf c.args.of v mark s spans.heads lines) c.in_ok-lines.ensures c.in_ok-text.ensures);
      classes = classes;
      listed = subst (λ m. AreClassLines numbers (site_names v m source spans.sections) classes) c.marked.ensures
          (subst (λ s. AreClassLines numbers (site_names v mark s spans.sections) classes) c.in_ok-lines.ensures
          c.in_ok-class_lines.ensures);
      printed = c.in_ok-push_str.ensures.bytes ∙ ap (λ b. lines ++ b) c.as_str-2.ensures.value;
    }
