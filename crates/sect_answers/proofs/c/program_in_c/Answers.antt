use Rattle.std.proofs.Common.{◌≡◌, refl}
use Rattle.sect_lemmas.proofs.Results.{given}
use Rattle.sect_answers.specs.declared.refusal.Refusal.TheVariants as refusal
use Rattle.sect_answers.proofs.c.program_in_c.Goals as goal

pub returns-in_err-c_program-clause-only : goal.returns-in_err-c_program-clause-only
returns-in_err-c_program-clause-only c = λ s accepted.
    given c.from_residual-in_err-c_program.result (λ r. r ≡ refusal.Memory) refusal.Memory refl
    c.from_residual-in_err-c_program.ensures.1
