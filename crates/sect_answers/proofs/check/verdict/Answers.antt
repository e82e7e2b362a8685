use Rattle.std.proofs.Common.{◌≡◌, List, ℕ, ap, subst}
use Rattle.sect_check.specs.{Valid.{IsValid}, Verdicts.{IsRead}}
use Rattle.sect_lemmas.proofs.Results.{given}
use Rattle.sect_answers.specs.Checking.{IsCheckDue, of_check}
use Rattle.sect_answers.proofs.{Cutting.{split_once}, Refusing.{check_due}}
use Rattle.sect_answers.specs.declared.refusal.Refusal.TheVariants as refusal
use Rattle.sect_answers.proofs.check.verdict.Goals as goal

pub returns-in_err-check-clause-only : goal.returns-in_err-check-clause-only
returns-in_err-check-clause-only c = λ valid.
    let why = c.in_err-check.field-0.0 in
    let k = c.args.k in
    let cert = c.split.result.0.now in
    let one = split_once c.args.input.now valid.cert valid.source cert c.split.result.1.now valid.split
    c.split.ensures in
    let read = subst (λ (b : List ℕ). IsRead c.split.result.1.now k b IsValid) one.0
    (subst (λ (b : List ℕ). IsRead b k valid.cert IsValid) one.1 valid.holds) in
    given c.from_residual.result (λ r. r ≡ refusal.Memory) (of_check why)
    (ap of_check (c.in_err-check.ensures.only read)) c.from_residual.ensures.1

pub returns-in_err-check-clause-refuses : goal.returns-in_err-check-clause-refuses
returns-in_err-check-clause-refuses c =
    let why = c.in_err-check.field-0.0 in
    let due = check_due c.args.input.now c.split.result.0.now c.split.result.1.now c.args.k why c.split.ensures
    c.in_err-check.ensures.judges in
    given c.from_residual.result (IsCheckDue c.args.input.now c.args.k) (of_check why) due c.from_residual.ensures.1
