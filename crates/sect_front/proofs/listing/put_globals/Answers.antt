use Rattle.std.proofs.Common.{arith, refl}
use Rattle.sect_front.specs.Tokens.{global_tokens, globals_tokens}
use Rattle.sect_front.proofs.Loops.{next}
use Rattle.sect_front.proofs.listing.put_globals.Goals as goal

pub loop-global-preserved : goal.loop-global-preserved
loop-global-preserved c =
    let i = c.loop-global.global-index in
    next globals_tokens global_tokens c.args.globals.now i c.global-item.result _ c.loop-global.out.items _
    (omega arith) c.global-item.is (λ y ys w. refl) c.loop-global.invariant c.in_ok-put_global.ensures
