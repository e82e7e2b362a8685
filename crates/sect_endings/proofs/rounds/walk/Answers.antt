use Rattle.sect_endings.proofs.Walks.{walk_on, goal_at}
use Rattle.sect_endings.proofs.rounds.walk.Goals as goal

pub go-preserved : goal.go-preserved
go-preserved c =
    λ within n a lt. let prev = c.go.invariant within n a lt in
    rw c.in_ok-step.ensures.state (walk_on c.args.graph.now within c.args.goals.now c.args.ranks.now n
    c.args.run.now.state c.go.run.state c.in-Some.thread c.in-Some.next c.args.run.now.order.items
    c.go.run.order.items c.step.new.run.order.items a c.in-Some.ensures.0 c.in-Some.ensures.1
    c.in_ok-step.ensures.order prev.0 prev.1)

pub returns : goal.returns
returns c =
    λ within n a lt. let prev = c.go.invariant within n a lt in (
      prev.0,
      goal_at c.args.graph.now within c.args.goals.now c.args.ranks.now n c.go.run.state a prev.1
          c.in_default.ensures,
    )
