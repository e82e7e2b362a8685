use Rattle.sect_endings.specs.steps.Sets.{MovesInto}
use Rattle.sect_endings.proofs.Marked.{marks_push}
use Rattle.sect_endings.proofs.sets.moving.Goals as goal

pub loop-state-preserved : goal.loop-state-preserved
loop-state-preserved c = marks_push c.loop-state.state c.loop-state.marks.items c.push.new.self.items
    c.moves_into.result (MovesInto c.args.graph.now c.args.within.now) c.loop-state.invariant c.moves_into.ensures
    c.in_ok-push.ensures.items
