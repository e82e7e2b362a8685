-- The graphs of a compiled program are those of its texts.
use Rattle.std.proofs.Common.{◌≡◌, ℕ, List, Some, true, false, sym, subst}
use Rattle.std.specs.Prelude.{slice_get}
use Rattle.sect_types.specs.{Programs.{ProgramView, environment_at}, Sound.{IsSound}, Statements.{TextView}}
use Rattle.sect_types.specs.Sections.{SectionView, sections_of}
use Rattle.sect_graph.specs.{declared.flow.Node.{Node}, Graphs.{GraphView}, Layout.{flow_nodes}}
use Rattle.sect_emit.specs.Compiled.{CompiledView, IsCompiled}
use Rattle.sect_emit.specs.Naming.{AreNodesOf}
use Rattle.sect_emit.proofs.Labelled.{flow_there}

module _ (c : CompiledView) (compiled : IsCompiled c) (gs : GraphView) (graphs : gs ≡ c.scheme.graphs) where
  pub thread_graph : (u : ℕ) (text : TextView) (g : List Node) → slice_get c.scheme.program.texts u ≡ Some text
      → slice_get gs.threads u ≡ Some g → g ≡ flow_nodes text
  thread_graph u text g at there = (compiled.scheme.graphed.threads u text g at
      (subst (λ (h : GraphView). slice_get h.threads u ≡ Some g) graphs there)).nodes

  pub section_graph : (i : ℕ) (s : SectionView) (g : List Node)
      → slice_get (sections_of c.scheme.program.texts) i ≡ Some s → slice_get gs.sections i ≡ Some g
      → g ≡ flow_nodes s.body
  section_graph i s g at there = (compiled.scheme.graphed.sections i s g at
      (subst (λ (h : GraphView). slice_get h.sections i ≡ Some g) graphs there)).nodes

  -- and what their nodes name is there
  module _ (p : ProgramView) (program : p ≡ c.scheme.program) where
    pub thread_named : (u : ℕ) (text : TextView) (g : List Node) → slice_get p.texts u ≡ Some text
        → slice_get gs.threads u ≡ Some g → IsSound (environment_at p u) false text → AreNodesOf p u g
    thread_named u text g at there sound = subst (AreNodesOf p u)
        (sym (thread_graph u text g (subst (λ (q : ProgramView). slice_get q.texts u ≡ Some text) program at) there))
        (flow_there p u false text sound)

    pub section_named : (i : ℕ) (s : SectionView) (g : List Node) → slice_get (sections_of p.texts) i ≡ Some s
        → slice_get gs.sections i ≡ Some g → IsSound (environment_at p s.thread) true s.body
        → AreNodesOf p s.thread g
    section_named i s g at there sound = subst (AreNodesOf p s.thread)
        (sym (section_graph i s g (subst (λ (q : ProgramView). slice_get (sections_of q.texts) i ≡ Some s) program at)
        there)) (flow_there p s.thread true s.body sound)
