use Rattle.std.proofs.Common.{◌-◌, length}
use Rattle.sect_chains.specs.steps.Working.{kept_of}
use Rattle.sect_chains.proofs.{Spreading.{IsOrderly}, Working.{IsWorklist, all_steps}}
use Rattle.sect_chains.proofs.trail.trail_of.Given as goal

abbrev pub invariant-loop-done : goal.invariant-loop-done
invariant-loop-done l = record {
  work : IsWorklist l.section.scheme.now l.section.thread l.section.last.now l.section.flow.now l.trail.numbering
      (kept_of l.trail) l.done;
  order : IsOrderly l.section.scheme.now l.section.thread l.section.last.now l.section.flow.now l.trail l.done;
}

abbrev pub decreases-loop-done : goal.decreases-loop-done
decreases-loop-done l = length (all_steps l.section.scheme.now l.section.flow.now) - l.done
