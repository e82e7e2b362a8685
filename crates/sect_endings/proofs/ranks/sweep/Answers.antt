use Rattle.std.proofs.Common.{◌≡◌, ◌-◌, ◌+◌, arith}
use Rattle.sect_endings.proofs.Ranked.{step_joined, step_passed}
use Rattle.sect_endings.proofs.ranks.sweep.Goals as goal
use Rattle.sect_endings.proofs.ranks.sweep.Goals.{then-joins, else-joins}

pub loop-step-preserved : goal.loop-step-preserved
loop-step-preserved c =
    let g = c.args.graph.now in
    let s = c.states.result - 1 - c.loop-step.step in
    let at : s + c.loop-step.step + 1 ≡ g.states = omega arith in
    elim c.if-joins.branch [
      | then-joins w ↦ step_joined g c.args.within.now c.args.goals.now c.loop-step.ranks c.if-joins.ranks
          c.args.ranked c.loop-step.count c.if-joins.count s c.loop-step.step c.loop-step.invariant.sound at
          (c.joins.ensures.0 w.if-joins.true) w.ranks-is w.count-is c.loop-step.invariant.more
      | else-joins w ↦ rw (w.ranks-is, w.count-is) (step_passed g c.args.within.now c.args.goals.now c.loop-step.ranks
          c.args.ranked c.loop-step.count s c.loop-step.step c.loop-step.invariant at
          (λ j. absurd (let yes = c.joins.ensures.1 j in let no = w.if-joins.false in cc)))
    ]
