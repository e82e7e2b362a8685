use Rattle.sect_infer.proofs.Extending.{there_absent}
use Rattle.sect_names.specs.declared.lock.Effect.TheVariants as effect
use Rattle.sect_names.specs.declared.lock.Lock.TheVariants as lock
use Rattle.sect_infer.proofs.numbering.Numbering.push_write.Goals as goal

pub returns-else-has_writes : goal.returns-else-has_writes
returns-else-has_writes c = λ locks are. there_absent c.args.self.now.keys locks c.args.above.now.items
    (lock.Path c.args.path.now effect.Write) are (c.has_writes.ensures c.if-has_writes.false c.args.path.now)
