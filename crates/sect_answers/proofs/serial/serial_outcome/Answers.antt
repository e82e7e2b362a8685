use Rattle.std.proofs.Common.{◌≡◌, List, ℕ, refl, sym, subst}
use Rattle.sect_types.specs.{Programs.{ProgramView}, Whole.{RunsWhole}}
use Rattle.sect_answers.specs.Serial.{of_serial}
use Rattle.sect_lemmas.proofs.Results.{given}
use Rattle.sect_answers.proofs.Refusing.{ended_gives}
use Rattle.sect_answers.specs.declared.refusal.Refusal.TheVariants as refusal
use Rattle.sect_answers.proofs.serial.serial_outcome.Goals as goal

pub returns-in_err-end-clause-only : goal.returns-in_err-end-clause-only
returns-in_err-end-clause-only c = λ p e text runs.
    let why = c.in_err-end.field-0.0 in
    let ran = subst (λ (q : ProgramView). RunsWhole q c.args.fuel c.args.order.items e)
    (sym (c.in_ok-program.ensures.only p text)) runs in
    let slice = subst (λ (ts : List ℕ). RunsWhole c.in_ok-program.program c.args.fuel ts e)
    (sym c.as_slice.ensures.value) ran in
    given c.from_residual-in_err-end.result (λ r. r ≡ refusal.Memory) (of_serial why)
    (ended_gives e why (c.in_err-end.ensures.only e slice)) c.from_residual-in_err-end.ensures.1

pub returns-in_err-outcome_printed-clause-only : goal.returns-in_err-outcome_printed-clause-only
returns-in_err-outcome_printed-clause-only c = λ p e text runs.
    given c.from_residual-in_err-outcome_printed.result (λ r. r ≡ refusal.Memory) refusal.Memory refl
    c.from_residual-in_err-outcome_printed.ensures.1
