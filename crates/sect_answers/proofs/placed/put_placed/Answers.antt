-- The places are those of the text.
use Rattle.std.proofs.Common.{List, ℕ, sym, ap, subst, ◌∙◌, refl}
use Rattle.std.proofs.lemmas.Result.{on_ok_weaker}
use Rattle.std.specs.Prelude.{option_map}
use Rattle.sect_types.specs.Programs.{ProgramView}
use Rattle.sect_places.specs.NodeSpans.{AreNodeSpans}
use Rattle.sect_names.specs.Schemes.{SchemeView}
use Rattle.sect_emit.specs.Compiled.{program_of}
use Rattle.sect_answers.proofs.placed.put_placed.Goals as goal

pub put_ran_outcome-requires : goal.put_ran_outcome-requires
put_ran_outcome-requires c =
    let run = c.args.run in
    record {
      placed = subst (λ (s : List ℕ). AreNodeSpans s (program_of run.compiled.now) c.in_ok-spans.spans)
          (sym c.in_ok-lines.ensures)
          (subst (λ (p : ProgramView). AreNodeSpans run.text.source.now p c.in_ok-spans.spans)
          (c.program.ensures ∙ ap (λ (s : SchemeView). s.program) c.scheme.ensures) c.in_ok-spans.ensures);
      there = c.requires.there;
    }

pub returns : goal.returns
returns c =
    let run = c.args.run in
    let spans = c.in_ok-spans.spans in
    on_ok_weaker c.put_ran_outcome.result (λ put. (
      record {
        source = c.in_ok-lines.lines;
        spans = spans;
        file = option_map (λ name. name.now) run.text.file;
      },
      record {
        text = c.in_ok-lines.ensures;
        named = refl;
        nodes = subst (λ (p : ProgramView). AreNodeSpans run.text.source.now p spans)
            (c.program.ensures ∙ ap (λ (s : SchemeView). s.program) c.scheme.ensures) c.in_ok-spans.ensures;
      },
      put,
    )) c.put_ran_outcome.ensures
