use Rattle.std.proofs.Common.{◌≡◌, refl}
use Rattle.sect_lemmas.proofs.Results.{given}
use Rattle.sect_answers.specs.declared.refusal.Refusal.TheVariants as refusal
use Rattle.sect_answers.proofs.conflicts.program_conflicts.Goals as goal

pub returns-in_err-conflicts_printed-clause-only : goal.returns-in_err-conflicts_printed-clause-only
returns-in_err-conflicts_printed-clause-only c = λ s accepted.
    given c.from_residual-in_err-conflicts_printed.result (λ r. r ≡ refusal.Memory) refusal.Memory refl
    c.from_residual-in_err-conflicts_printed.ensures.1
