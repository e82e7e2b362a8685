use Rattle.std.proofs.Common.{arith, refl}
use Rattle.sect_front.specs.Tokens.{procedure_tokens, procedures_tokens}
use Rattle.sect_front.proofs.Loops.{next}
use Rattle.sect_front.proofs.listing.put_procedures.Goals as goal

pub loop-procedure-preserved : goal.loop-procedure-preserved
loop-procedure-preserved c =
    let i = c.loop-procedure.procedure-index in
    next procedures_tokens procedure_tokens c.args.procedures.now i c.procedure-item.result
    _ c.loop-procedure.out.items _ (omega arith) c.procedure-item.is (λ y ys w. refl)
    c.loop-procedure.invariant c.in_ok-put_procedure.ensures
