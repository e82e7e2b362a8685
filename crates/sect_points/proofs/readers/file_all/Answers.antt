use Rattle.std.proofs.Common.{arith}
use Rattle.sect_points.proofs.ReaderLaws.{filed_more}
use Rattle.sect_points.proofs.readers.file_all.Goals as goal

pub loop-placed-preserved : goal.loop-placed-preserved
loop-placed-preserved c =
    filed_more c.args.locals c.loop-placed.placed-index c.args.all.now c.placed-item.result c.loop-placed.rows.items
    c.file.new.rows.items (omega arith) c.placed-item.is c.loop-placed.invariant c.in_ok-file.ensures
