use Rattle.std.proofs.Common.{◌≡◌, refl}
use Rattle.sect_lemmas.proofs.Results.{given}
use Rattle.sect_answers.specs.declared.format.Format.TheVariants.{Text}
use Rattle.sect_answers.proofs.Running.{serial_of_run}
use Rattle.sect_answers.specs.declared.refusal.Refusal.TheVariants as refusal
use Rattle.sect_answers.proofs.placed_runs.placed_timed_run.Goals as goal

pub returns-in_err-timed_printed-clause-only : goal.returns-in_err-timed_printed-clause-only
returns-in_err-timed_printed-clause-only g c = λ s accepted.
    given c.from_residual-in_err-timed_printed.result (λ r. r ≡ refusal.Memory) refusal.Memory refl
    c.from_residual-in_err-timed_printed.ensures.1

pub returns-clause-answers : goal.returns-clause-answers
returns-clause-answers g c =
    let v = c.in_ok-compiled.compiled in
    let from = c.in_ok-compiled.ensures.compiled in
    let (run, whole, printed) = c.in_ok-timed_printed.ensures in
    record {
      compiled = v;
      from = from;
      run = run;
      whole = whole;
      serial = serial_of_run _ _ _ Text _ v from run whole refl;
      printed = printed;
    }
