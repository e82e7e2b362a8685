-- The document of a compiled program has no float.
use Rattle.std.proofs.{Common.{ℕ, List, ◌∷◌, Option, Some, None, length, map, refl}, lemmas.Bool.{or_from}}
use Rattle.std.specs.{Prelude.{slice_get, slice_index_or, option_map, [], ◌+◌}, List.{range_with_len, flat_map}}
use Rattle.sect_types.specs.Sections.{sections_of}
use Rattle.sect_graph.specs.{declared.flow.Successors.{Successors}, declared.flow.Successors.TheVariants.{Next, Branch}}
use Rattle.sect_emit.specs.{Compiled.{CompiledView, program_of}, Graphed.{graphed_nodes}}
use Rattle.sect_emit.specs.{declared.graphs.GraphOf.{GraphOf}, declared.plan.Grip.{Grip}}
use Rattle.sect_json.specs.Nodes.{next_json, next_at, node_json, nodes_json}
use Rattle.sect_json.specs.Compiling.{grip_json, reached_json, path_grips_json, set_json, plan_json, section_json}
use Rattle.sect_json.specs.Compiling.{thread_json, compiled_json}
use Rattle.sect_points.specs.{declared.holders.Variable.{Variable}, Paths.{PathView, base_of, fields_of}}
use Rattle.sect_points.specs.declared.holders.Variable.TheVariants.{Global, Local}
use Rattle.sect_types.specs.declared.expansion.action.Field.{Field}
use Rattle.sect_names.specs.declared.lock.Lock.{Lock}
use Rattle.sect_json.specs.Locks.{lock_json}
use Rattle.sect_json.proofs.{Plain.{IsPlain, ArePlain, plain_map, plain_append, plain_flat}, PlainKeys.{plain_key}}
use Rattle.sect_json.proofs.PlainLocks.{plain_lock}
use Rattle.sect_emit.specs.declared.graphs.GraphOf.TheVariants as graphed
use Rattle.sect_names.specs.declared.lock.Lock.TheVariants as lock

plain_next : (next : Option Successors) → IsPlain (next_json next)
plain_next None = refl
plain_next (Some (Next n)) = refl
plain_next (Some (Branch holds fails)) = refl

module _ (c : CompiledView) where
  pub plain_next_at : (of : GraphOf) (n : ℕ) → IsPlain (next_at c of n)
  plain_next_at of n = plain_next (option_map (λ x. x.next) (slice_get (graphed_nodes c of) n))

  plain_node : (of : GraphOf) (n : ℕ) → IsPlain (node_json c of n)
  plain_node of n = or_from _ _ (plain_next_at of n) refl

  plain_nodes : (of : GraphOf) → IsPlain (nodes_json c of)
  plain_nodes of = plain_map (node_json c of) (plain_node of) (range_with_len 0 (length (graphed_nodes c of) + 1))

  plain_grip : (g : Grip) → IsPlain (grip_json (program_of c) g)
  plain_grip g = or_from _ _ (plain_key (program_of c) g.key) refl

  pub plain_set : (i : ℕ) → IsPlain (set_json c i)
  plain_set i =
      plain_map (lock_json (program_of c).source) (plain_lock (program_of c).source) (slice_index_or c.sets i [])

  plain_reached : (path : PathView) (v : Variable) (fs : List Field) → IsPlain (reached_json (program_of c) path v fs)
  plain_reached path (Global g) [] = refl
  plain_reached path (Global g) (f ∷ fs) = refl
  plain_reached path (Local t x) fs = refl

  plain_path_grips : (l : Lock) → ArePlain (path_grips_json (program_of c) l)
  plain_path_grips lock.All = refl
  plain_path_grips (lock.Class n r) = refl
  plain_path_grips (lock.Path path e) =
      or_from _ _ (or_from _ _ (plain_reached path (base_of path) (fields_of path)) refl) refl

  pub plain_plan : (i : ℕ) → IsPlain (plan_json c i)
  plain_plan i =
      let locks = slice_index_or c.sets i [] in
      plain_append (map (grip_json (program_of c)) (slice_index_or c.parts i []))
      (flat_map (path_grips_json (program_of c)) locks)
      (plain_map (grip_json (program_of c)) plain_grip (slice_index_or c.parts i []))
      (plain_flat (path_grips_json (program_of c)) plain_path_grips locks)

  plain_section : (i : ℕ) → IsPlain (section_json c i)
  plain_section i =
      or_from _ _ (plain_set i) (or_from _ _ (plain_nodes (graphed.Section i)) (or_from _ _ (plain_plan i) refl))

  plain_thread : (u : ℕ) → IsPlain (thread_json c u)
  plain_thread u = or_from _ _ (plain_nodes (graphed.Thread u)) refl

  pub plain_compiled : IsPlain (compiled_json c)
  plain_compiled =
      or_from _ _ (plain_map (section_json c) plain_section
      (range_with_len 0 (length (sections_of (program_of c).texts))))
      (or_from _ _ (plain_map (thread_json c) plain_thread (range_with_len 0 (length (program_of c).texts))) refl)
