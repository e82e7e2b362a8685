use Rattle.sect_endings.specs.steps.Sets.{IsMet}
use Rattle.sect_endings.proofs.Marked.{marks_push}
use Rattle.sect_endings.proofs.sets.meeting.Goals as goal

pub loop-state-preserved : goal.loop-state-preserved
loop-state-preserved c = marks_push c.loop-state.state c.loop-state.marks.items c.push.new.self.items c.is_met.result
    (IsMet c.args.graph.now c.args.within.now c.args.thread) c.loop-state.invariant c.is_met.ensures
    c.in_ok-push.ensures.items
