use Rattle.sect_table.proofs.Shown.{queues-seen}
use Rattle.sect_table.proofs.arena.Arena.lets_in.Goals as goal

pub returns : goal.returns
returns c = rw (
  queues-seen _ _ _ _ _ _ c.args.key c.args.at c.self.invariant c.self.view_is c.requires.number c.requires.known,
  ← c.deref.ensures.value,
) c.all_let_in.ensures
