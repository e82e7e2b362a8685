use Rattle.std.proofs.Common.{inr, true}
use Rattle.sect_lemmas.proofs.Changed.{set_put}
use Rattle.sect_types.proofs.Marking.{read_false}
use Rattle.sect_types.proofs.rules.called.mark.Goals as goal

pub returns-in_ok-push : goal.returns-in_ok-push
returns-in_ok-push c =
    inr (
      read_false c.args.marked.now.items c.args.number c.index.result.now c.requires c.index.ensures
          c.if-not-index.true,
      set_put c.args.number true c.args.marked.now.items,
      c.in_ok-push.ensures.items,
    )
