use Rattle.sect_c.proofs.Plans.{tables_tell}
use Rattle.sect_c.proofs.laws.tables_tell_keys.Goals as goal

pub returns : goal.returns
returns c = tables_tell
