use Rattle.std.proofs.Common.{◌∙◌}
use Rattle.sect_table.specs.steps.Links.{list_at}
use Rattle.sect_table.proofs.Walking.{split_here, mode_step, mode_here}
use Rattle.sect_table.proofs.arena.mode_among.Goals as goal

pub returns-then-nodes-node : goal.returns-then-nodes-node
returns-then-nodes-node c =
    let inv = c.loop-step.invariant in
    mode_here (list_at c.args.queues.now.lists c.args.list) c.loop-step.step _ _ inv.0 c.in_ok-node.was c.args.nodes.now
    _ _ inv.1 c.requires.nodes c.args.thread c.if-nodes-node.true
    ∙ inv.2

pub loop-step-preserved : goal.loop-step-preserved
loop-step-preserved c =
    let xs = list_at c.args.queues.now.lists c.args.list in
    let inv = c.loop-step.invariant in (
      c.after-at.ensures.next c.args.list _ _ c.requires.list
          (split_here xs c.loop-step.step _ _ inv.0 c.in_ok-node.was),
      c.after-at.ensures.within,
      mode_step xs c.loop-step.step _ _ inv.0 c.in_ok-node.was c.args.nodes.now _ _ inv.1 c.requires.nodes
          c.args.thread c.if-nodes-node.false
          ∙ inv.2,
    )
