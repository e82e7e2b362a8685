use Rattle.std.proofs.Common.{arith}
use Rattle.sect_endings.proofs.Walks.{passes_more, circles, circles_so, way_end}
use Rattle.sect_endings.proofs.rounds.circle.Goals as goal

pub meet-requires-clause-inside : goal.meet-requires-clause-inside
meet-requires-clause-inside c = way_end c.args.graph.now c.args.within.now c.loop-thread.invariant.0
    c.args.run.now.state c.loop-thread.run.state c.loop-thread.invariant.1.way

pub loop-thread-preserved : goal.loop-thread-preserved
loop-thread-preserved c = passes_more c.args.graph.now c.args.within.now c.loop-thread.thread c.args.run.now.state
    c.loop-thread.run.state c.meet.new.run.state c.args.run.now.order.items c.loop-thread.run.order.items
    c.meet.new.run.order.items c.loop-thread.invariant c.in_ok-meet.ensures

pub go_once-requires : goal.go_once-requires
go_once-requires c = c.requires.settled.moves c.loop-thread.run.state (way_end c.args.graph.now c.args.within.now
    c.loop-thread.invariant.0 c.args.run.now.state c.loop-thread.run.state c.loop-thread.invariant.1.way)

pub returns-then-before-len : goal.returns-then-before-len
returns-then-before-len c =
    let all = c.loop-thread.invariant in
    circles_so c.args.graph.now c.args.within.now c.args.threads c.args.run.now.state c.loop-thread.run.state
    c.args.run.now.order.items c.loop-thread.run.order.items (all.0, all.1, λ t lt. all.2 t (omega arith)) (omega arith)

pub returns : goal.returns
returns c =
    let all = c.loop-thread.invariant in
    let one = c.in_ok-go_once.ensures in
    circles c.args.graph.now c.args.within.now c.args.threads c.args.run.now.state c.loop-thread.run.state one.0
    c.go_once.new.run.state c.args.run.now.order.items c.loop-thread.run.order.items c.go_once.new.run.order.items
    (all.0, all.1, λ t lt. all.2 t (omega arith)) one.1 one.2 one.3
