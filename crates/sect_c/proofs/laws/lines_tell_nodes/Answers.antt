use Rattle.sect_c.proofs.Graphs.{nodes_tell}
use Rattle.sect_c.proofs.laws.lines_tell_nodes.Goals as goal

pub returns : goal.returns
returns c = nodes_tell
