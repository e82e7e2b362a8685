use Rattle.std.proofs.Common.{◌≡◌, refl}
use Rattle.sect_lemmas.proofs.Results.{given}
use Rattle.sect_answers.proofs.Running.{outcome_of_run}
use Rattle.sect_answers.specs.declared.refusal.Refusal.TheVariants as refusal
use Rattle.sect_answers.proofs.run.timed_outcome.Goals as goal

pub returns-in_err-timed_of-clause-only : goal.returns-in_err-timed_of-clause-only
returns-in_err-timed_of-clause-only g c = λ s accepted.
    given c.from_residual-in_err-timed_of.result (λ r. r ≡ refusal.Memory) refusal.Memory refl
    c.from_residual-in_err-timed_of.ensures.1

pub returns-clause-answers : goal.returns-clause-answers
returns-clause-answers g c =
    let (run, whole, printed) = c.in_ok-timed_of.ensures in
    outcome_of_run _ _ _ _ _ c.in_ok-compiled.compiled c.in_ok-compiled.ensures.compiled run whole printed
