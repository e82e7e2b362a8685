use Rattle.sect_warnings.proofs.ClassMarks.{set_named}
use Rattle.sect_warnings.proofs.outcome.put_outcome.Goals as goal

pub put_locks-requires : goal.put_locks-requires
put_locks-requires c =
    rw (c.program.ensures, c.scheme.ensures, c.set_of-set.ensures)
    (set_named c.args.compiled.now c.facts.ensures.compiled c.args.section)
