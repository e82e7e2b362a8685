-- A report that is written is right for the words.
use Rattle.std.proofs.Common.{◌≡◌, [], IfOk, Result, inl, inr, map, subst}
use Rattle.std.specs.String.{string_bytes}
use Rattle.sect_command.specs.{declared.failure.Failure.{Failure}, declared.report.Report.{Report}}
use Rattle.sect_command.specs.{Statuses.{wrong_words}, Reporting.{IsReport}, Wanting.{IsWanted}}
use Rattle.sect_command.proofs.dispatch.answered.Goals as goal

pub returns-in-Ok-Answers : goal.returns-in-Ok-Answers
returns-in-Ok-Answers g c = elim c.report_told.ensures [
  | inl failed ↦ inl failed
  | inr told ↦ inr (inl (
    told.0,
    inr (
      c.in-Ok-Answers.asked,
      subst (IsWanted (map string_bytes c.args.words.now)) c.in-Ok-Answers.field-0-is c.in-Ok-Answers.ensures,
      subst (λ (r : Result Report Failure). IfOk r (IsReport (g.T.Texts.bytes_of c.args.around.now.texts.now)
          c.args.around.now.screen (g.I.Read.remaining c.args.input) c.in-Ok-Answers.asked)) told.1
          c.reported-report.ensures,
    ),
    told.2,
  ))
]

pub returns-in-Err : goal.returns-in-Err
returns-in-Err g c = elim c.report_told-in-Err.ensures [
  | inl failed ↦ inl failed
  | inr told ↦ inr (inl (
    told.0,
    inl (subst (λ (r : Result Report Failure). IfOk r (λ report. (report.status ≡ wrong_words)
        × (report.complaints.items ≡ []))) told.1 c.words_refused-report.ensures.answers),
    told.2,
  ))
]
