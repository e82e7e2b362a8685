-- Sections as they are written.
use Rattle.std.specs.Prelude.{◌≡◌, ℕ, List, [], ◌∷◌, ◌++◌, codes, map, slice_index_or}
use Rattle.serde_json.specs.{Data.{Data}, Written.{compact_text}}
use Rattle.sect_graph.specs.Layout.{flow_nodes}
use Rattle.sect_infer.specs.Sets.{AreNeeded}
use Rattle.sect_names.specs.{Needed.{end_of}, declared.link.Link.{Link}, declared.lock.Lock.{Lock}}
use Rattle.sect_places.specs.{NodeSpans.{NodeSpansView}, Spans.{no_span}}
use Rattle.sect_lint.specs.Json.{span_json}
use Rattle.sect_emit.specs.{Compiled.{CompiledView}, Explaining.{IsChained, section_at}}
use Rattle.sect_json.specs.{Values.{count, list, by_place, record_of, AreTold}, Compiling.{plan_json}}
use Rattle.sect_json.specs.{Explaining.{chain_json}, Inspecting.{section_node_json, IsSectionInspected}}
use Rattle.sect_json.specs.declared.context.Inspected.{Inspected}
use Rattle.sect_json.specs.steps.Writes.{elements_from}

-- a chain for each lock of section i stands behind what was there
pub record AreChainsPut (c : CompiledView) (i : ℕ) (old new : List ℕ) : Type 0 where
  pub chains : List (List Link)
  pub chained : IsChained c i chains
  pub written : new ≡ old ++ compact_text (list (map (chain_json c i) chains))

-- so do the nodes of section i, each with the maximal ones of the locks that are needed there
pub record AreNodesPut (of : Inspected) (i : ℕ) (old new : List ℕ) : Type 0 where
  pub needed : List (List Lock)
  pub at : AreNeeded of.compiled.now.scheme (section_at of.compiled.now i).thread (end_of of.compiled.now.scheme i)
      (section_at of.compiled.now i).body (flow_nodes (section_at of.compiled.now i).body) needed
  pub written : new ≡ old
      ++ compact_text (list (by_place (section_node_json of.compiled.now of.source.now of.spans.now i) 0 needed))

-- what is told last of a section
abbrev pub end_with : Data → Data → ℕ → ℕ → Data
end_with place plan i t = record_of (
    (codes "place", place) ∷ (codes "plan", plan) ∷ (codes "section", count i) ∷ (codes "thread", count t) ∷ [])

abbrev pub section_end : CompiledView → List ℕ → NodeSpansView → ℕ → Data
section_end c source v i =
    end_with (span_json source (slice_index_or v.heads i no_span)) (plan_json c i) i (section_at c i).thread

-- the first sections stand behind what was there
pub record AreSectionsPut (of : Inspected) (many : ℕ) (old new : List ℕ) : Type 0 where
  pub sections : List Data
  pub inspected : AreTold (IsSectionInspected of.compiled.now of.source.now of.spans.now) many sections
  pub written : new ≡ old ++ compact_text (list sections)

-- so do the first ones behind the bracket of their list
pub record AreSectionsSoFar (of : Inspected) (many : ℕ) (opened new : List ℕ) : Type 0 where
  pub sections : List Data
  pub inspected : AreTold (IsSectionInspected of.compiled.now of.source.now of.spans.now) many sections
  pub written : new ≡ opened ++ elements_from 0 sections
