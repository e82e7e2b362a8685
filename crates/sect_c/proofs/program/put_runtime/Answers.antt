use Rattle.sect_c.specs.Programs.{runtime_c}
use Rattle.sect_c.proofs.program.put_runtime.Goals as goal

pub returns : goal.returns
unfolding runtime_c
returns c = c.in_ok-push_str.ensures.bytes
