-- The threads that the words mean are those of the answer.
use Rattle.std.proofs.Common.{◌≡◌, ℕ, List, sym, subst}
use Rattle.sect_lemmas.proofs.Results.{given}
use Rattle.sect_answers.specs.Naming.{AreMeant}
use Rattle.sect_answers.specs.{Charting.{IsCharted}, Scheduling.{IsScheduled}, Serial.{IsOutcome}}
use Rattle.sect_command.specs.Requests.{Answers, AreMeantBy, IsRefusalDue}
use Rattle.sect_command.specs.declared.request.Request.{Request}
use Rattle.sect_command.proofs.printing.in_order.Goals as goal

meant : (source : List ℕ) (r q : Request) (spread : List ℕ) → AreMeantBy source r spread → r ≡ q
    → AreMeantBy source q spread
meant source r q spread are is = subst (λ (x : Request). AreMeantBy source x spread) is are

pub returns-in_ok-serial_outcome-in-Serial-clause-answers : goal.returns-in_ok-serial_outcome-in-Serial-clause-answers
returns-in_ok-serial_outcome-in-Serial-clause-answers c =
    subst (λ (r : Request). Answers c.args.text.name.now r c.args.text.source.now c.into_bytes.result.items)
    (sym c.in-Serial.is) (
      c.args.threads.items,
      meant c.args.text.source.now c.args.request.now _ c.args.threads.items c.requires.meant c.in-Serial.is,
      subst (λ v. IsOutcome c.args.text.source.now c.in-Serial.fuel c.args.threads.items c.in-Serial.format v.items)
          (sym c.into_bytes.ensures.value) c.in_ok-serial_outcome-in-Serial.ensures.answers,
    )

pub returns-in_err-serial_outcome-in-Serial-clause-refuses : goal.returns-in_err-serial_outcome-in-Serial-clause-refuses
returns-in_err-serial_outcome-in-Serial-clause-refuses c =
    given c.from_residual.result
    (IsRefusalDue c.args.text.name.now c.args.request.now c.args.text.source.now)
    c.in_err-serial_outcome-in-Serial.field-0.0
    (subst (λ (r : Request). IsRefusalDue c.args.text.name.now r c.args.text.source.now
    c.in_err-serial_outcome-in-Serial.field-0.0) (sym c.in-Serial.is) (
      c.args.threads.items,
      meant c.args.text.source.now c.args.request.now _ c.args.threads.items c.requires.meant c.in-Serial.is,
      c.in_err-serial_outcome-in-Serial.ensures.refuses,
    )) c.from_residual.ensures.1

pub returns-in_ok-schedule_outcome-in-Schedule-clause-answers
    : goal.returns-in_ok-schedule_outcome-in-Schedule-clause-answers
returns-in_ok-schedule_outcome-in-Schedule-clause-answers c =
    subst (λ (r : Request). Answers c.args.text.name.now r c.args.text.source.now c.into_bytes-in-Schedule.result.items)
    (sym c.in-Schedule.is) (
      c.args.threads.items,
      meant c.args.text.source.now c.args.request.now _ c.args.threads.items c.requires.meant c.in-Schedule.is,
      subst (λ v. IsScheduled c.args.text.source.now c.in-Schedule.k c.in-Schedule.fuel c.args.threads.items
          c.in-Schedule.format v.items) (sym c.into_bytes-in-Schedule.ensures.value)
          c.in_ok-schedule_outcome-in-Schedule.ensures.answers,
    )

pub returns-in_err-schedule_outcome-in-Schedule-clause-refuses
    : goal.returns-in_err-schedule_outcome-in-Schedule-clause-refuses
returns-in_err-schedule_outcome-in-Schedule-clause-refuses c =
    given c.from_residual-in_err-schedule_outcome-in-Schedule.result
    (IsRefusalDue c.args.text.name.now c.args.request.now c.args.text.source.now)
    c.in_err-schedule_outcome-in-Schedule.field-0.0
    (subst (λ (r : Request). IsRefusalDue c.args.text.name.now r c.args.text.source.now
    c.in_err-schedule_outcome-in-Schedule.field-0.0) (sym c.in-Schedule.is) (
      c.args.threads.items,
      meant c.args.text.source.now c.args.request.now _ c.args.threads.items c.requires.meant c.in-Schedule.is,
      c.in_err-schedule_outcome-in-Schedule.ensures.refuses,
    )) c.from_residual-in_err-schedule_outcome-in-Schedule.ensures.1

pub returns-in_ok-schedule_chart-in-Chart-clause-answers : goal.returns-in_ok-schedule_chart-in-Chart-clause-answers
returns-in_ok-schedule_chart-in-Chart-clause-answers c =
    subst (λ (r : Request). Answers c.args.text.name.now r c.args.text.source.now c.into_bytes-in-Chart.result.items)
    (sym c.in-Chart.is) (
      c.args.threads.items,
      meant c.args.text.source.now c.args.request.now _ c.args.threads.items c.requires.meant c.in-Chart.is,
      subst (λ v. IsCharted c.args.text.source.now c.in-Chart.k c.in-Chart.fuel c.args.threads.items v.items)
          (sym c.into_bytes-in-Chart.ensures.value) c.in_ok-schedule_chart-in-Chart.ensures.answers,
    )

pub returns-in_err-schedule_chart-in-Chart-clause-refuses : goal.returns-in_err-schedule_chart-in-Chart-clause-refuses
returns-in_err-schedule_chart-in-Chart-clause-refuses c =
    given c.from_residual-in_err-schedule_chart-in-Chart.result
    (IsRefusalDue c.args.text.name.now c.args.request.now c.args.text.source.now)
    c.in_err-schedule_chart-in-Chart.field-0.0
    (subst (λ (r : Request). IsRefusalDue c.args.text.name.now r c.args.text.source.now
    c.in_err-schedule_chart-in-Chart.field-0.0) (sym c.in-Chart.is) (
      c.args.threads.items,
      meant c.args.text.source.now c.args.request.now _ c.args.threads.items c.requires.meant c.in-Chart.is,
      c.in_err-schedule_chart-in-Chart.ensures.refuses,
    )) c.from_residual-in_err-schedule_chart-in-Chart.ensures.1
