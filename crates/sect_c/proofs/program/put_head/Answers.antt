use Rattle.sect_c.specs.Programs.{head_c}
use Rattle.sect_c.proofs.program.put_head.Goals as goal

pub returns : goal.returns
unfolding head_c
returns c = c.in_ok-push_str.ensures.bytes
