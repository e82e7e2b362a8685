use Rattle.std.proofs.Common.{subst, length, ◌≡◌, ◌<◌, ℕ, ap}
use Rattle.sect_lemmas.proofs.Results.{given}
use Rattle.sect_lemmas.specs.Lists.{Has}
use Rattle.sect_types.specs.Programs.{ProgramView}
use Rattle.sect_answers.specs.{Answers.{of_source}, Scheduling.{IsScheduleDue, of_world}}
use Rattle.sect_world.specs.Schedules.{IsUnrun}
use Rattle.sect_answers.proofs.Refusing.{schedule_source_due, schedule_due, schedule_runs}
use Rattle.sect_answers.specs.declared.refusal.Refusal.TheVariants as refusal
use Rattle.sect_answers.proofs.placed_schedule.placed_chart.Goals as goal

pub returns-in_err-compiled-clause-refuses : goal.returns-in_err-compiled-clause-refuses
returns-in_err-compiled-clause-refuses c =
    let why = c.in_err-compiled.field-0.0 in
    given c.from_residual.result (IsScheduleDue c.args.text.source.now c.args.k c.args.schedule.items) (of_source why)
    (schedule_source_due c.args.text.source.now c.args.k c.args.schedule.items why c.in_err-compiled.ensures.refuses)
    c.from_residual.ensures.1

pub returns-in_err-chart_printed-clause-refuses : goal.returns-in_err-chart_printed-clause-refuses
returns-in_err-chart_printed-clause-refuses c =
    let why = c.in_err-chart_printed.field-0.0 in
    let unrun = subst (λ ts. IsUnrun why ts (length c.in_ok-compiled.compiled.scheme.program.texts))
    c.as_slice.ensures.value c.in_err-chart_printed.ensures.refuses in
    given c.from_residual-in_err-chart_printed.result
    (IsScheduleDue c.args.text.source.now c.args.k c.args.schedule.items)
    (of_world why)
    (schedule_due c.args.text.source.now c.args.k c.args.schedule.items c.in_ok-compiled.compiled why
    c.in_ok-compiled.ensures.compiled.accepted unrun) c.from_residual-in_err-chart_printed.ensures.1

pub returns-in_err-compiled-clause-only : goal.returns-in_err-compiled-clause-only
returns-in_err-compiled-clause-only c = λ s accepted there.
    let why = c.in_err-compiled.field-0.0 in
    given c.from_residual.result (λ r. r ≡ refusal.Memory) (of_source why)
    (ap of_source (c.in_err-compiled.ensures.only s accepted)) c.from_residual.ensures.1

pub returns-in_err-chart_printed-clause-only : goal.returns-in_err-chart_printed-clause-only
returns-in_err-chart_printed-clause-only c = λ s accepted there.
    let why = c.in_err-chart_printed.field-0.0 in
    let schedule = c.args.schedule.items in
    let own = c.in_ok-compiled.compiled.scheme in
    let same : s.program ≡ own.program = c.texts_have_one_program.ensures c.args.text.source.now own.program s.program
    c.in_ok-compiled.ensures.compiled.accepted.text accepted.text in
    let count = length own.program.texts in
    let within : (t : ℕ) → Has schedule t → t < count =
    subst (λ (p : ProgramView). (t : ℕ) → Has schedule t → t < length p.texts) same there in
    let unrun = subst (λ ts. IsUnrun why ts count) c.as_slice.ensures.value c.in_err-chart_printed.ensures.refuses in
    given c.from_residual-in_err-chart_printed.result (λ r. r ≡ refusal.Memory) (of_world why)
    (schedule_runs schedule count why within unrun) c.from_residual-in_err-chart_printed.ensures.1
