-- The control-flow graphs of a program.
use Rattle.std.specs.Prelude.{◌≡◌, ℕ, ◌≤◌, List, Some, slice_get, length}
use Rattle.sect_types.specs.{Statements.{TextView}, Sections.{SectionView, sections_of}, Traces.{node_count}}
use Rattle.sect_graph.specs.{declared.flow.Node.{Node}, Paths.{LeadsTo, PathsAreTraces, PathsAreRests, IsConnected}}
use Rattle.sect_graph.specs.{Rests.{RunsRests}, Layout.{flow_nodes}}

-- the nodes are the graph of the text: they lie in text order, its paths are the traces, each node runs the first step
-- of what is left there, and control goes on to a node or to the exit
pub record IsGraphOf (text : TextView) (g : List Node) : Type 0 where
  pub nodes : g ≡ flow_nodes text
  pub paths : PathsAreTraces text g
  pub rests : PathsAreRests text g
  pub connected : IsConnected g
  pub running : RunsRests text g
  pub count : length g ≡ node_count text
  pub within : (i j : ℕ) (x : Node) → slice_get g i ≡ Some x → LeadsTo x j → j ≤ length g

-- a graph for each thread, and one for each section
pub record GraphView : Type 0 where
  pub threads : List (List Node)
  pub sections : List (List Node)

-- they are those of a program with these texts
pub record AreGraphs (texts : List TextView) (g : GraphView) : Type 0 where
  pub thread_count : length g.threads ≡ length texts
  pub section_count : length g.sections ≡ length (sections_of texts)
  pub threads : (t : ℕ) (text : TextView) (flow : List Node) → slice_get texts t ≡ Some text
      → slice_get g.threads t ≡ Some flow → IsGraphOf text flow
  pub sections : (i : ℕ) (s : SectionView) (flow : List Node) → slice_get (sections_of texts) i ≡ Some s
      → slice_get g.sections i ≡ Some flow → IsGraphOf s.body flow
