use Rattle.sect_c.proofs.Programs.{texts_tell}
use Rattle.sect_c.proofs.laws.texts_tell_programs.Goals as goal

pub returns : goal.returns
returns c = texts_tell
