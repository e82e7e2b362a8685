-- Sites as JSON have no float.
use Rattle.std.proofs.{Common.{ℕ, List, [], ◌∷◌, Option, Some, None, refl, sym, subst}, lemmas.Bool.{or_from}}
use Rattle.std.specs.{List.{flat_map, range_with_len}, Prelude.{length, slice_get, slice_index_or, option_map, filter}}
use Rattle.serde_json.specs.Data.{Data}
use Rattle.sect_front.specs.{declared.span.Span.{Span}, declared.tree.GlobalObject.{GlobalObject}}
use Rattle.sect_types.specs.{declared.expansion.action.Label.{Label}, Sections.{sections_of}}
use Rattle.sect_graph.specs.declared.flow.Node.{Node}
use Rattle.sect_points.specs.{Sets.{PointsToView}, declared.holders.Holder.{Holder}}
use Rattle.sect_places.specs.{declared.name_use.NameSpan.{NameSpan}, declared.origin_spans.NodeSpan.{NodeSpan}}
use Rattle.sect_store.specs.Printing.{fields_at}
use Rattle.sect_emit.specs.{Compiled.{CompiledView, program_of}, Graphed.{graphed_nodes}}
use Rattle.sect_json.specs.Values.{count, by_place}
use Rattle.sect_json.specs.Sites.{bytes_json, place_of, call_of, may_hold, held_json, field_json, fields_json}
use Rattle.sect_json.specs.Sites.{local_json, locals_json, global_json, made_json, sites_by, sites_at, section_sites}
use Rattle.sect_json.specs.Sites.{sites_json, class_sites, class_json, AreClasses}
use Rattle.sect_json.proofs.Plain.{IsPlain, ArePlain, plain_map, plain_append, plain_by_place, plain_flat}
use Rattle.sect_types.specs.declared.expansion.action.Label.TheVariants as label
use Rattle.sect_types.specs.declared.expansion.action.Action.TheVariants as action
use Rattle.sect_points.specs.declared.holders.Holder.TheVariants as holder
use Rattle.sect_emit.specs.declared.graphs.GraphOf.TheVariants as graphed

pub plain_bytes : (source : List ℕ) (s : Option Span) → IsPlain (bytes_json source s)
plain_bytes source None = refl
plain_bytes source (Some s) = refl

plain_held : (sets : PointsToView) (h : Holder) → IsPlain (held_json sets h)
plain_held sets h = plain_map count (λ n. refl) (filter (may_hold sets h) (range_with_len 0 sets.sites))

plain_field : (sets : PointsToView) (s f : ℕ) (name : List ℕ) → IsPlain (field_json sets s f name)
plain_field sets s f name = or_from _ _ refl (or_from _ _ (plain_held sets (holder.Slot s f)) refl)

plain_class : (numbers : List ℕ) (n : ℕ) → IsPlain (class_json numbers n)
plain_class numbers n = or_from _ _ refl (or_from _ _ (plain_map count (λ k. refl) (class_sites numbers n)) refl)

pub plain_classes : (numbers : List ℕ) (values : List Data) → AreClasses numbers values → ArePlain values
plain_classes numbers values are =
    subst ArePlain (sym are.told) (plain_map (class_json numbers) (plain_class numbers) (range_with_len 0 are.most))

module _ (c : CompiledView) where
  plain_fields : (s : ℕ) → IsPlain (fields_json c s)
  plain_fields s =
      let sets = c.scheme.classes.sets in
      plain_by_place (field_json sets s) (plain_field sets s) 0 (fields_at (program_of c) s)

  plain_local : (u x : ℕ) → IsPlain (local_json c u x)
  plain_local u x = or_from _ _ refl (or_from _ _ (plain_held c.scheme.classes.sets (holder.Local u x)) refl)

  pub plain_locals : (u : ℕ) → IsPlain (locals_json c u)
  plain_locals u =
      plain_map (local_json c u) (plain_local u)
      (range_with_len 0 (length (slice_index_or (program_of c).locals u [])))

  plain_global : (source : List ℕ) (names : List NameSpan) (s : ℕ) (g : GlobalObject)
      → IsPlain (global_json c source names s g)
  plain_global source names s g =
      or_from _ _ (plain_fields s) (or_from _ _ (plain_bytes source _) refl)

  plain_made : (source : List ℕ) (from : Option NodeSpan) (r s : ℕ) → IsPlain (made_json c source from r s)
  plain_made source from r s =
      or_from _ _ (plain_bytes source (call_of from))
      (or_from _ _ (plain_fields s) (or_from _ _ (plain_bytes source (place_of from)) refl))

  plain_by : (source : List ℕ) (from : Option NodeSpan) (l : Option Label) → ArePlain (sites_by c source from l)
  plain_by source from (Some (label.Act (action.New x r s))) = or_from _ _ (plain_made source from r s) refl
  plain_by source from (Some (label.Act (action.Assign x v))) = refl
  plain_by source from (Some (label.Act (action.Compute x v o w))) = refl
  plain_by source from (Some (label.Act (action.Load x b f))) = refl
  plain_by source from (Some (label.Act (action.Store b f v))) = refl
  plain_by source from (Some (label.Act (action.Print v))) = refl
  plain_by source from (Some (label.Test t)) = refl
  plain_by source from (Some (label.Section i)) = refl
  plain_by source from None = refl

  plain_section : (source : List ℕ) (spans : List (List NodeSpan)) (i : ℕ) → ArePlain (section_sites c source spans i)
  plain_section source spans i =
      plain_flat (sites_at c source spans i)
      (λ n. plain_by source (slice_get (slice_index_or spans i []) n)
      (option_map (λ (x : Node). x.label) (slice_get (graphed_nodes c (graphed.Section i)) n)))
      (range_with_len 0 (length (graphed_nodes c (graphed.Section i))))

  pub plain_sites : (source : List ℕ) (spans : List (List NodeSpan)) (names : List NameSpan)
      → ArePlain (sites_json c source spans names)
  plain_sites source spans names =
      plain_append (by_place (global_json c source names) 0 (program_of c).source.globals) _
      (plain_by_place (global_json c source names) (plain_global source names) 0 (program_of c).source.globals)
      (plain_flat (section_sites c source spans) (plain_section source spans)
      (range_with_len 0 (length (sections_of (program_of c).texts))))
