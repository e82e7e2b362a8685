use Rattle.std.proofs.Common.{◌≡◌, refl, ap}
use Rattle.sect_lemmas.proofs.Results.{given}
use Rattle.sect_answers.specs.Compiling.{IsCompileDue, of_compile}
use Rattle.sect_answers.proofs.Refusing.{compile_due}
use Rattle.sect_answers.specs.declared.refusal.Refusal.TheVariants as refusal
use Rattle.sect_answers.proofs.compile.program_document.Goals as goal

pub returns-in_err-compiled-clause-only : goal.returns-in_err-compiled-clause-only
returns-in_err-compiled-clause-only g c = λ s offered accepted.
    let why = c.in_err-compiled.field-0.0 in
    given c.from_residual.result (λ r. r ≡ refusal.Memory) (of_compile why)
    (ap of_compile (c.in_err-compiled.ensures.only s offered accepted)) c.from_residual.ensures.1

pub returns-in_err-compiled-clause-refuses : goal.returns-in_err-compiled-clause-refuses
returns-in_err-compiled-clause-refuses g c =
    let why = c.in_err-compiled.field-0.0 in
    given c.from_residual.result (IsCompileDue c.args.source.now c.args.k c.args.workers) (of_compile why)
    (compile_due c.args.source.now c.args.k c.args.workers why c.in_err-compiled.ensures.refuses)
    c.from_residual.ensures.1

pub returns-in_err-compiled_document-clause-only : goal.returns-in_err-compiled_document-clause-only
returns-in_err-compiled_document-clause-only g c = λ s offered accepted.
    given c.from_residual-in_err-compiled_document.result (λ r. r ≡ refusal.Memory) refusal.Memory refl
    c.from_residual-in_err-compiled_document.ensures.1
