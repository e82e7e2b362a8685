use Rattle.std.specs.String.{string_bytes}
use Rattle.std.proofs.{Common.{sym, subst}, lemmas.Result.{IfOk-weaker}}
use Rattle.sect_answers.specs.{Scheduling.{AreTurnsOf}, declared.format.Format.{Format}}
use Rattle.sect_answers.proofs.schedule.turns_printed.Goals as goal

pub returns-in-Text-clause-answers : goal.returns-in-Text-clause-answers
returns-in-Text-clause-answers c =
    let w = c.args.wanted in
    IfOk-weaker c.turn_lines.result _ _
    (λ text h. subst (λ (f : Format). AreTurnsOf f c.args.source.now c.args.compiled.now w.fuel w.threads.now
    (string_bytes text)) (sym c.in-Text.is) h) c.turn_lines.ensures.answers

pub returns-in-Json-clause-answers : goal.returns-in-Json-clause-answers
returns-in-Json-clause-answers c =
    let w = c.args.wanted in
    IfOk-weaker c.turns_document.result _ _
    (λ text h. subst (λ (f : Format). AreTurnsOf f c.args.source.now c.args.compiled.now w.fuel w.threads.now
    (string_bytes text)) (sym c.in-Json.is) h) c.turns_document.ensures.answers
