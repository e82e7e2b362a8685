use Rattle.std.proofs.Common.{sym, ◌∙◌}
use Rattle.sect_table.specs.steps.Links.{list_at}
use Rattle.sect_table.proofs.Walking.{split_here, hold_step, hold_here}
use Rattle.sect_table.proofs.arena.mode_along.Goals as goal

pub returns-then-is_same : goal.returns-then-is_same
returns-then-is_same c =
    let inv = c.loop-step.invariant in
    hold_here (list_at c.args.chains.now.lists c.args.list) c.loop-step.step _ _ inv.0 c.in_ok-node.was c.args.nodes.now
    _ _ inv.1 c.requires.nodes c.args.key (sym c.is_same.ensures.test ∙ c.if-is_same.true)
    ∙ inv.2

pub loop-step-preserved : goal.loop-step-preserved
loop-step-preserved c =
    let xs = list_at c.args.chains.now.lists c.args.list in
    let inv = c.loop-step.invariant in (
      c.after-at.ensures.next c.args.list _ _ c.requires.list
          (split_here xs c.loop-step.step _ _ inv.0 c.in_ok-node.was),
      c.after-at.ensures.within,
      hold_step xs c.loop-step.step _ _ inv.0 c.in_ok-node.was c.args.nodes.now _ _ inv.1
          c.requires.nodes c.args.key (sym c.is_same.ensures.test ∙ c.if-is_same.false)
          ∙ inv.2,
    )
