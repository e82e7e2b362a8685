use Rattle.std.proofs.Common.{◌<◌, length, arith}
use Rattle.sect_emit.specs.{Compiled.{program_of}, Labels.{thread_name}}
use Rattle.sect_draw.proofs.Columns.{cell_more}
use Rattle.sect_draw.proofs.charting.heading.Goals as goal

pub loop-thread-preserved : goal.loop-thread-preserved
loop-thread-preserved c =
    let p = program_of c.args.world.now.compiled in
    let u = c.loop-thread.thread in
    let within : u < length p.texts = omega (arith, c.loop-thread-test.true, c.thread_count-thread-end.ensures.texts) in
    record {
      added = cell_more (thread_name p.source) p.texts u c.loop-thread.cells.items
          c.push-in-loop-thread.new.self.items c.in_ok-name.field-0 _ within c.in_ok-push-2.ensures.items
          c.in_ok-name.ensures c.loop-thread.invariant.added;
      count = omega (arith, c.in_ok-push-2.ensures.len, c.loop-thread.invariant.count);
    }
