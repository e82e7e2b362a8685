use Rattle.sect_endings.specs.Graphs.{IsEnd}
use Rattle.sect_endings.proofs.Marked.{marks_push}
use Rattle.sect_endings.proofs.sets.ends_of.Goals as goal

pub loop-state-preserved : goal.loop-state-preserved
loop-state-preserved c = marks_push c.loop-state.state c.loop-state.marks.items c.push.new.self.items c.is_end.result
    (IsEnd c.args.graph.now) c.loop-state.invariant c.is_end.ensures c.in_ok-push.ensures.items
