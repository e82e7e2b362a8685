use Rattle.std.proofs.Common.{arith, refl}
use Rattle.sect_check.specs.Names.{Denotes}
use Rattle.sect_check.proofs.Resolving.{refuses}
use Rattle.sect_check.proofs.claiming.locks_of.Goals as goal

pub returns-in_err-next_lock : goal.returns-in_err-next_lock
returns-in_err-next_lock c =
    let n = c.args.naming.now in
    refuses (Denotes n.scheme n.thread) c.args.list.now c.loop-named.named-index c.named-item.result
    c.named-item.result c.from_residual-in_err-next_lock.result c.in_err-next_lock.field-0.0 (omega arith)
    c.named-item.is refl
    c.from_residual-in_err-next_lock.ensures.1 c.in_err-next_lock.ensures
