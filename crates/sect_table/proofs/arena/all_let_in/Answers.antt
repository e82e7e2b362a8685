use Rattle.std.proofs.Common.{sym, ◌∙◌}
use Rattle.sect_table.specs.steps.Links.{list_at}
use Rattle.sect_table.proofs.Walking.{split_here, join_step}
use Rattle.sect_table.proofs.arena.all_let_in.Goals as goal

pub loop-step-preserved : goal.loop-step-preserved
loop-step-preserved c =
    let xs = list_at c.args.queues.now.lists c.args.list in
    let inv = c.loop-step.invariant in (
      c.after-at.ensures.next c.args.list _ _ c.requires.list
          (split_here xs c.loop-step.step _ _ inv.0 c.in-Some.is),
      c.after-at.ensures.within,
      join_step xs c.loop-step.step _ _ inv.0 c.in-Some.is c.args.nodes.now _ _ inv.1 c.requires.nodes
          c.args.thread c.args.mode (sym c.lets.ensures ∙ c.if-not-lets.false)
          ∙ inv.2,
    )
