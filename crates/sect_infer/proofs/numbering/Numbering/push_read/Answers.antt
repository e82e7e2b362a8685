use Rattle.sect_infer.proofs.Extending.{there_absent}
use Rattle.sect_names.specs.declared.lock.Right.TheVariants as right
use Rattle.sect_names.specs.declared.lock.Lock.TheVariants as lock
use Rattle.sect_infer.proofs.numbering.Numbering.push_read.Goals as goal

pub returns-else-has_broad : goal.returns-else-has_broad
returns-else-has_broad c = λ locks are. there_absent c.args.self.now.keys locks c.args.above.now.items
    (lock.Class c.args.class right.Read) are
    (c.has_broad.ensures c.if-has_broad.false (lock.Class c.args.class right.Read) tt)
