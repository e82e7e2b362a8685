-- What is known of a program has no float.
use Rattle.std.proofs.{Common.{ℕ, List, length, map, refl}, lemmas.Bool.{or_from}}
use Rattle.std.specs.{Prelude.{◌+◌, slice_get}, List.{range_with_len}}
use Rattle.sect_front.specs.declared.tree.Locking.{Locking}
use Rattle.sect_places.specs.{declared.name_use.NameSpan.{NameSpan}, declared.origin_spans.NodeSpan.{NodeSpan}}
use Rattle.sect_places.specs.NodeSpans.{NodeSpansView}
use Rattle.sect_emit.specs.{Compiled.{CompiledView, program_of}, Graphed.{graphed_nodes}, Labels.{thread_name}}
use Rattle.sect_json.specs.Inspecting.{origin_json, spans_at, thread_node_json, is_all, thread_json}
use Rattle.sect_json.specs.Sites.{place_of, call_of, sites_json}
use Rattle.sect_json.specs.steps.Inspected.{rest_with}
use Rattle.sect_json.proofs.{Plain.{IsPlain, plain_map}, PlainCompiling.{plain_next_at}, PlainCalls.{plain_calls}}
use Rattle.sect_json.proofs.PlainSites.{plain_bytes, plain_locals, plain_sites}
use Rattle.sect_front.specs.declared.tree.Locking.TheVariants as locking
use Rattle.sect_emit.specs.declared.graphs.GraphOf.TheVariants as graphed

pub plain_origin : (source : List ℕ) (spans : List NodeSpan) (n : ℕ) → IsPlain (origin_json source spans n)
plain_origin source spans n =
    or_from _ _ (plain_bytes source (call_of (slice_get spans n)))
    (or_from _ _ (plain_bytes source (place_of (slice_get spans n))) refl)

pub plain_all : (l : Locking) → IsPlain (is_all l)
plain_all locking.All = refl
plain_all locking.Inferred = refl

module _ (c : CompiledView) (source : List ℕ) (v : NodeSpansView) where
  plain_thread_node : (u n : ℕ) → IsPlain (thread_node_json c source v u n)
  plain_thread_node u n =
      let of = graphed.Thread u in
      or_from _ _ (plain_next_at c of n) (or_from _ _ (plain_origin source (spans_at v of) n) refl)

  plain_thread : (names : List NameSpan) (u : ℕ) → IsPlain (thread_json c source v names u)
  plain_thread names u =
      let t = (program_of c).source in
      or_from _ _ (plain_calls source names (length t.procedures) (thread_name t u))
      (or_from _ _ (plain_locals c u)
      (or_from _ _ (plain_map (thread_node_json c source v u) (plain_thread_node u)
      (range_with_len 0 (length (graphed_nodes c (graphed.Thread u)) + 1))) refl))

  -- what is told of a program behind its sections
  pub plain_rest : (names : List NameSpan) → IsPlain (rest_with (sites_json c source v.sections names)
      (map (thread_json c source v names) (range_with_len 0 (length (program_of c).texts))))
  plain_rest names =
      or_from _ _ (plain_sites c source v.sections names)
      (or_from _ _ (plain_map (thread_json c source v names) (plain_thread names)
      (range_with_len 0 (length (program_of c).texts))) refl)
