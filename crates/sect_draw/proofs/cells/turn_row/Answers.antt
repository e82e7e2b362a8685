use Rattle.std.proofs.Common.{◌<◌, length, arith}
use Rattle.sect_draw.specs.Chart.{cell_text}
use Rattle.sect_draw.specs.steps.Turning.{shown, program_in, compiled_in, places_in}
use Rattle.sect_draw.proofs.Columns.{cell_more}
use Rattle.sect_draw.proofs.cells.turn_row.Goals as goal

pub loop-thread-preserved : goal.loop-thread-preserved
loop-thread-preserved c =
    let t = c.args.turn.now in
    let texts = (program_in t).texts in
    let u = c.loop-thread.thread in
    let within : u < length texts = omega (arith, c.loop-thread-test.true, c.thread_count-thread-end.ensures.texts) in
    record {
      added = cell_more (cell_text (compiled_in t) (places_in t) (shown t)) texts u c.loop-thread.cells.items
          c.push-in-loop-thread.new.self.items c.in_ok-cell.field-0 _ within c.in_ok-push-2.ensures.items
          c.in_ok-cell.ensures c.loop-thread.invariant.added;
      count = omega (arith, c.in_ok-push-2.ensures.len, c.loop-thread.invariant.count);
    }
