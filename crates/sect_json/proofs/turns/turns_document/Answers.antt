use Rattle.std.proofs.Common.{ℕ, List, sym, ap, subst, ◌∙◌}
use Rattle.serde_json.specs.Written.{has_float}
use Rattle.sect_front.specs.Front.{IsSpelled}
use Rattle.sect_types.specs.Programs.{ProgramView}
use Rattle.sect_names.specs.Schemes.{SchemeView}
use Rattle.sect_places.specs.NodeSpans.{AreNodeSpans}
use Rattle.sect_emit.specs.Compiled.{program_of}
use Rattle.sect_world.specs.Worlds.{outcome_at}
use Rattle.sect_json.specs.{Values.{document_text}, Turns.{turns_json, leavers}}
use Rattle.sect_json.proofs.PlainTurns.{plain_turns}
use Rattle.sect_json.proofs.turns.turns_document.Goals as goal

pub node_spans-requires : goal.node_spans-requires
node_spans-requires c =
    subst (λ (p : ProgramView). IsSpelled c.args.source.now p.source)
    (sym (c.program-program.ensures ∙ ap (λ (s : SchemeView). s.program) c.scheme.ensures)) c.requires

pub schedule_value-requires : goal.schedule_value-requires
schedule_value-requires c =
    let program = c.program-program.ensures ∙ ap (λ (s : SchemeView). s.program) c.scheme.ensures in
    record {
      placed = subst (λ (s : List ℕ). AreNodeSpans s (program_of c.args.compiled.now) c.in_ok-spans.spans)
          (sym c.in_ok-lines.ensures)
          (subst (λ (p : ProgramView). AreNodeSpans c.args.source.now p c.in_ok-spans.spans) program
          c.in_ok-spans.ensures);
      named = tt;
    }

pub document-requires : goal.document-requires
document-requires c =
    let told = c.in_ok-value.ensures.answers in
    ap has_float told.told
    ∙ plain_turns c.args.compiled.now c.in_ok-lines.lines c.in_ok-spans.spans told.turns
    (outcome_at told.state (leavers told.turns))

pub returns-clause-answers : goal.returns-clause-answers
returns-clause-answers c =
    let told = c.in_ok-value.ensures.answers in
    let program = c.program-program.ensures ∙ ap (λ (s : SchemeView). s.program) c.scheme.ensures in
    record {
      spans = c.in_ok-spans.spans;
      placed = subst (λ (p : ProgramView). AreNodeSpans c.args.source.now p c.in_ok-spans.spans) program
          c.in_ok-spans.ensures;
      turns = told.turns;
      threads = told.threads;
      state = told.state;
      lead = told.lead;
      printed = c.in_ok-document.ensures ∙ ap document_text (told.told
          ∙ ap (λ (s : List ℕ). turns_json c.args.compiled.now s c.in_ok-spans.spans told.turns
          (outcome_at told.state (leavers told.turns))) c.in_ok-lines.ensures);
    }
