-- A graph may be read by several threads at a time.
use denote.Param.Send.{IsSync}
use Rattle.sect_graph.specs.contracts.graph.Graph as shown
use Rattle.sect_graph.proofs.graph.Graph.TheSendSync as sent

pub graph_sync : IsSync shown.the_row
graph_sync = sent.the_sync
