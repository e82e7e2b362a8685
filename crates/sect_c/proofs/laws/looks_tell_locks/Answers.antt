use Rattle.sect_c.proofs.Paths.{looks_tell}
use Rattle.sect_c.proofs.laws.looks_tell_locks.Goals as goal

pub returns : goal.returns
returns c = looks_tell
