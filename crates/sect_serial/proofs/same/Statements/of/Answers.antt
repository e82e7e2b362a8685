use Rattle.std.proofs.Common.{◌∙◌}
use Rattle.sect_types.proofs.shared.Joining.{joined_stop}
use Rattle.sect_serial.proofs.same.Statements.of.Goals as goal

pub returns : goal.returns
returns c = joined_stop _ ∙ c.as_slice.ensures
