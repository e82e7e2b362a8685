-- The places are those of the text.
use Rattle.std.proofs.Common.{List, ℕ, ◌++◌, sym, ap, subst, ◌∙◌, refl}
use Rattle.std.specs.Prelude.{option_map}
use Rattle.sect_types.specs.Programs.{ProgramView}
use Rattle.sect_places.specs.NodeSpans.{AreNodeSpans}
use Rattle.sect_names.specs.Schemes.{SchemeView}
use Rattle.sect_emit.specs.Compiled.{program_of}
use Rattle.sect_answers.specs.Outcomes.{counts_line}
use Rattle.sect_answers.proofs.placed_list.list_printed.Goals as goal

pub put_list-requires : goal.put_list-requires
put_list-requires c = record {
  placed = subst (λ (s : List ℕ). AreNodeSpans s (program_of c.args.compiled.now) c.in_ok-spans.spans)
      (sym c.in_ok-lines.ensures)
      (subst (λ (p : ProgramView). AreNodeSpans c.args.text.source.now p c.in_ok-spans.spans)
      (c.program.ensures ∙ ap (λ (s : SchemeView). s.program) c.scheme.ensures) c.in_ok-spans.ensures);
  whole = c.requires.whole;
}

pub returns : goal.returns
returns c =
    let spans = c.in_ok-spans.spans in
    let (lines, listed, printed) = c.in_ok-put_list.ensures in
    record {
      places = record {
        source = c.in_ok-lines.lines;
        spans = spans;
        file = option_map (λ name. name.now) c.args.text.file;
      };
      placed = record {
        text = c.in_ok-lines.ensures;
        named = refl;
        nodes = subst (λ (p : ProgramView). AreNodeSpans c.args.text.source.now p spans)
            (c.program.ensures ∙ ap (λ (s : SchemeView). s.program) c.scheme.ensures) c.in_ok-spans.ensures;
      };
      lines = lines;
      listed = listed;
      printed = printed ∙ ap (λ bytes. bytes ++ lines) (c.in_ok-put_counts.ensures
          ∙ ap (λ old. old ++ counts_line c.args.outcomes.now) c.new-printed.ensures.bytes);
    }
