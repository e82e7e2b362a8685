use Rattle.std.proofs.Common.{◌≡◌, ◌+◌, ◌++◌, drop, vec_len}
use Rattle.sect_emit.specs.{Compiled.{program_of}, Labels.{thread_name}}
use Rattle.sect_draw.specs.Chart.{by_thread, heading}
use Rattle.sect_draw.specs.steps.CellTexts.{texts}
use Rattle.sect_draw.proofs.charting.heading.Given as goal

abbrev pub invariant-loop-thread : goal.invariant-loop-thread
invariant-loop-thread l = (let p = program_of l.world.compiled in
    record {
      added : texts l.cells.items ++ by_thread (thread_name p.source) l.thread (drop l.thread p.texts) ≡ heading p;
      count : vec_len l.cells ≡ 1 + l.thread;
    })
