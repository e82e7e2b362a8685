use Rattle.std.proofs.Common.{◌≡◌, sym, subst}
use Rattle.sect_lemmas.proofs.Results.{given}
use Rattle.sect_types.specs.Programs.{ProgramView}
use Rattle.sect_serial.specs.Exploring.{HasStates}
use Rattle.sect_answers.specs.Outcomes.{of_outcomes}
use Rattle.sect_answers.proofs.Outcoming.{ends_of_runs, listed_gives}
use Rattle.sect_answers.specs.declared.refusal.Refusal.TheVariants as refusal
use Rattle.sect_answers.proofs.outcomes.all_outcomes.Goals as goal

pub returns-in_err-all-clause-only : goal.returns-in_err-all-clause-only
returns-in_err-all-clause-only c = λ p states text all few.
    let own = c.in_ok-program.program in
    let why = c.in_err-all.field-0.0 in
    let same = subst (λ (q : ProgramView). HasStates q c.args.fuel states)
    (sym (c.in_ok-program.ensures.only p text)) all in
    given c.from_residual-in_err-all.result (λ r. r ≡ refusal.Memory) (of_outcomes why)
    (listed_gives own c.args.fuel states c.args.most why same few c.in_err-all.ensures)
    c.from_residual-in_err-all.ensures.1

pub returns-clause-answers : goal.returns-clause-answers
returns-clause-answers c =
    let p = c.in_ok-program.program in
    let all = c.in_ok-all.all in
    record {
      program = p;
      typed = c.in_ok-program.ensures.answers;
      outcomes = all;
      explores = c.in_ok-all.ensures;
      runs = λ k d from.
          ends_of_runs d p c.args.fuel all.found (c.every_run_is_serial.ensures d from.compiled)
          (c.every_order_is_run.ensures d from.compiled)
          (c.in_ok-program.ensures.only d.scheme.program from.accepted.text)
          c.in_ok-all.ensures.outcomes;
      printed = c.in_ok-outcomes_printed.ensures;
    }
