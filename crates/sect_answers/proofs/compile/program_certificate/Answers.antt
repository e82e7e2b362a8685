use Rattle.std.proofs.Common.{◌≡◌, ap}
use Rattle.sect_lemmas.proofs.Results.{given}
use Rattle.sect_answers.specs.Compiling.{IsCompileDue, of_compile}
use Rattle.sect_answers.proofs.Refusing.{compile_due}
use Rattle.sect_answers.specs.declared.refusal.Refusal.TheVariants as refusal
use Rattle.sect_answers.proofs.compile.program_certificate.Goals as goal

pub returns-clause-answers : goal.returns-clause-answers
returns-clause-answers g c =
    let told = c.in_ok-certify_with.ensures.certified in
    record {
      compiled = told.compiled;
      from = told.from;
      cert = told.cert;
      certifies = told.certifies;
      spelled = told.spelled;
    }

pub returns-clause-valid : goal.returns-clause-valid
returns-clause-valid g c =
    let told = c.in_ok-certify_with.ensures.certified in
    record {
      s = told.compiled.scheme;
      accepted = told.from.accepted;
      cert = told.cert;
      text = told.certifies.text;
      spelled = told.spelled;
      holds = told.valid;
    }

pub returns-in_err-certify_with-clause-only : goal.returns-in_err-certify_with-clause-only
returns-in_err-certify_with-clause-only g c = λ s offered accepted.
    let why = c.in_err-certify_with.field-0.0 in
    given c.from_residual.result (λ r. r ≡ refusal.Memory) (of_compile why)
    (ap of_compile (c.in_err-certify_with.ensures.only s offered accepted)) c.from_residual.ensures.1

pub returns-in_err-certify_with-clause-refuses : goal.returns-in_err-certify_with-clause-refuses
returns-in_err-certify_with-clause-refuses g c =
    let why = c.in_err-certify_with.field-0.0 in
    given c.from_residual.result (IsCompileDue c.args.source.now c.args.k c.args.workers) (of_compile why)
    (compile_due c.args.source.now c.args.k c.args.workers why c.in_err-certify_with.ensures.refuses)
    c.from_residual.ensures.1
