-- What lock inference knows of a program.
use Rattle.std.specs.Prelude.{◌≡◌, ◌≤◌, ℕ, List, Option, None, length, slice_index_or}
use Rattle.sect_types.specs.Programs.{ProgramView, sites_of}
use Rattle.sect_points.specs.{Partitions.{ClassesView, IsParted}, Sets.{InSets}, Flow.{IsLeastFlow}}
use Rattle.sect_points.specs.Statements.{thread_actions}
use Rattle.sect_hints.specs.Hints.{AreGuards, AreUnguarded}
use Rattle.sect_graph.specs.Graphs.{GraphView, AreGraphs}

-- the program, the most fields of a path, the classes of its sites, the guard of each record, the control-flow graphs
pub record SchemeView : Type 0 where
  pub program : ProgramView
  pub most : ℕ
  pub classes : ClassesView
  pub guards : List (Option ℕ)
  pub graphs : GraphView

-- the global that guards a record, if any
abbrev pub guard_of : List (Option ℕ) → ℕ → Option ℕ
guard_of guards r = slice_index_or guards r None

-- what a scheme keeps: k is at most 3, these are the program's least sets with their classes, its guards and its graphs
pub record IsScheme (s : SchemeView) : Type 0 where
  pub most : s.most ≤ 3
  pub parted : IsParted s.classes
  pub sites : s.classes.sets.sites ≡ length (sites_of s.program.globals s.program.texts)
  pub flow : IsLeastFlow (InSets s.classes.sets) (thread_actions s.program)
  pub guarded : AreGuards s.program s.guards
  pub unguarded : AreUnguarded s.program s.guards
  pub graphed : AreGraphs s.program.texts s.graphs
