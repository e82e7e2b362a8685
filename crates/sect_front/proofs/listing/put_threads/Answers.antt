use Rattle.std.proofs.Common.{arith, refl}
use Rattle.sect_front.specs.Tokens.{thread_tokens, threads_tokens}
use Rattle.sect_front.proofs.Loops.{next}
use Rattle.sect_front.proofs.listing.put_threads.Goals as goal

pub loop-thread-preserved : goal.loop-thread-preserved
loop-thread-preserved c =
    let i = c.loop-thread.thread-index in
    next threads_tokens thread_tokens c.args.threads.now i c.thread-item.result _ c.loop-thread.out.items _
    (omega arith) c.thread-item.is (λ y ys w. refl) c.loop-thread.invariant c.in_ok-put_thread.ensures
