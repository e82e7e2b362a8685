use Rattle.std.proofs.Common.{◌≡◌, refl}
use Rattle.sect_lemmas.proofs.Results.{given}
use Rattle.sect_answers.specs.declared.refusal.Refusal.TheVariants as refusal
use Rattle.sect_answers.proofs.verbose.verbose_answer.Goals as goal

pub returns-in_err-explained-clause-only : goal.returns-in_err-explained-clause-only
returns-in_err-explained-clause-only c = λ s accepted.
    given c.from_residual-in_err-explained.result (λ r. r ≡ refusal.Memory) refusal.Memory refl
    c.from_residual-in_err-explained.ensures.1
