use Rattle.sect_table.proofs.Shown.{seen}
use Rattle.sect_table.proofs.arena.Arena.thread_count.Goals as goal

pub returns : goal.returns
returns c = (seen _ _ _ _ _ _ c.self.invariant c.self.view_is).threads_are
