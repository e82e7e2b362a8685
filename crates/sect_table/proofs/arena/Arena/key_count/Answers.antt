use Rattle.std.proofs.Common.{◌∙◌}
use Rattle.sect_table.proofs.Shown.{seen}
use Rattle.sect_table.proofs.arena.Arena.key_count.Goals as goal

pub returns : goal.returns
returns c = c.len.ensures.len ∙ (seen _ _ _ _ _ _ c.self.invariant c.self.view_is).keys_are
