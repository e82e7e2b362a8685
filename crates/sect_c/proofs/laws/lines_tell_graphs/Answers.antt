use Rattle.sect_c.proofs.Graphs.{graphs_tell}
use Rattle.sect_c.proofs.laws.lines_tell_graphs.Goals as goal

pub returns : goal.returns
returns c = graphs_tell
