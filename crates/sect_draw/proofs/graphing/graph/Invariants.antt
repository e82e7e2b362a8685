use Rattle.std.proofs.Common.{◌≡◌, ◌≤◌, ◌++◌, ◌-◌, List, ℕ}
use Rattle.sect_draw.specs.Graphs.{AreClusters, opening}
use Rattle.sect_draw.proofs.graphing.graph.Given as goal

abbrev pub invariant-loop-section : goal.invariant-loop-section
invariant-loop-section l = record {
  order : l.first ≤ l.section;
  clusters : List ℕ;
  drawn : AreClusters l.compiled l.first (l.section - l.first) clusters;
  printed : l.text.items ≡ opening ++ clusters;
}
