use Rattle.std.proofs.Common.{◌≡◌, Err, ap}
use Rattle.sect_lemmas.proofs.Results.{given}
use Rattle.sect_infer.specs.declared.workers.InferFault.{InferFault}
use Rattle.sect_emit.specs.Faults.{IsDueBy, of_workers, of_source}
use Rattle.sect_emit.proofs.Working.{not_both, refused_for_memory, workers_due, source_due}
use Rattle.sect_emit.specs.declared.fault.CompileFault.TheVariants as fault
use Rattle.sect_emit.proofs.compiling.compile_with.Goals as goal

pub returns-in_err-check_workers-clause-only : goal.returns-in_err-check_workers-clause-only
returns-in_err-check_workers-clause-only g c =
    λ s offered accepted. absurd (not_both c.args.workers offered c.in_err-check_workers.ensures.err.1)

pub returns-in_err-check_workers-clause-refuses : goal.returns-in_err-check_workers-clause-refuses
returns-in_err-check_workers-clause-refuses g c =
    let why = c.in_err-check_workers.field-0.0 in
    let bad = c.in_err-check_workers.ensures.err in
    given c.from_residual.result (IsDueBy c.args.workers c.args.source.now c.args.k) (of_workers why)
    (workers_due c.args.workers c.args.source.now c.args.k why bad.0 bad.1) c.from_residual.ensures.1

pub returns-in_err-scheme-clause-only : goal.returns-in_err-scheme-clause-only
returns-in_err-scheme-clause-only g c = λ s offered accepted.
    let why = c.in_err-scheme.field-0.0 in
    given c.from_residual-in_err-scheme.result (λ r. r ≡ fault.Memory) (of_source why)
    (ap of_source (c.in_err-scheme.ensures.only s accepted)) c.from_residual-in_err-scheme.ensures.1

pub returns-in_err-scheme-clause-refuses : goal.returns-in_err-scheme-clause-refuses
returns-in_err-scheme-clause-refuses g c =
    let why = c.in_err-scheme.field-0.0 in
    given c.from_residual-in_err-scheme.result (IsDueBy c.args.workers c.args.source.now c.args.k) (of_source why)
    (source_due c.args.workers c.args.source.now c.args.k why c.in_ok-check_workers.ensures.ok
    c.in_err-scheme.ensures.refuses) c.from_residual-in_err-scheme.ensures.1

pub returns-in_err-locks-clause-only : goal.returns-in_err-locks-clause-only
returns-in_err-locks-clause-only g c = λ s offered accepted.
    let why = c.in_err-locks.field-0.0 in
    given c.from_residual-in_err-locks.result (λ r. r ≡ fault.Memory) (of_workers why)
    (refused_for_memory c.args.workers why offered
    (λ bad. c.in_err-locks.ensures.workers.0 (ap (λ (f : InferFault). Err f) bad)))
    c.from_residual-in_err-locks.ensures.1
