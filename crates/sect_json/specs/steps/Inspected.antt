-- What a document is made of. The private functions that make it cite this.
use Rattle.std.specs.Prelude.{◌≡◌, ℕ, List, [], ◌∷◌, ◌++◌, Option, Some, None, codes, length, map}
use Rattle.std.specs.String.{string_bytes}
use Rattle.serde_json.specs.{Data.{Data}, View.{view}, Written.{compact_text}}
use Rattle.sect_types.specs.{Sections.{sections_of}, declared.expansion.action.Label.{Label}}
use Rattle.sect_places.specs.{NodeSpans.{AreNodeSpans}, Spans.{AreProper}, declared.name_use.NameSpan.{NameSpan}}
use Rattle.sect_emit.specs.Compiled.{program_of}
use Rattle.sect_json.specs.{Values.{count, list, record_of, AreTold}, Calls.{procedure_json}}
use Rattle.sect_json.specs.{Inspecting.{ThreadTold, IsSectionInspected, inspection_json}, Sites.{SiteTold, AreClasses}}
use Rattle.sect_json.specs.{declared.context.Inspected.{Inspected}, declared.inspecting.Threaded.{Threaded}}
use Rattle.sect_json.specs.{declared.sites.Sited.{Sited}, declared.sites.Made.{Made}}
use Rattle.sect_json.specs.steps.Writes.{member_text}
use Rattle.sect_types.specs.declared.expansion.action.Action.TheVariants as action
use Rattle.sect_types.specs.declared.expansion.action.Label.TheVariants as label

-- these names stand in a text of so many bytes
abbrev pub AreNamesWithin : ℕ → List NameSpan → Type 0
AreNamesWithin total names = AreProper total (map (λ n. n.span) names)

-- the places are those of the program's nodes and names in its text
pub record IsInspected (of : Inspected) : Type 0 where
  pub placed : AreNodeSpans of.source.now (program_of of.compiled.now) of.spans.now
  pub named : AreNamesWithin (length of.source.now) of.names.now

-- what is told of a thread and of a site
abbrev pub thread_told : Threaded → ThreadTold
thread_told t = record {
  calls = view t.calls;
  locals = view t.locals;
  name = string_bytes t.name;
  nodes = view t.nodes;
}

abbrev pub site_told : Sited → SiteTold
site_told t = record {
  call = view t.call;
  fields = view t.fields;
  global = view t.global;
  place = view t.place;
  shape = string_bytes t.shape;
}

-- what a node makes that does this
abbrev pub made_at : Label → Option Made
made_at (label.Act (action.New x r s)) = Some (record { shape = r; site = s })
made_at _ = None

-- what is told of a program before its sections stands behind what was there
pub record IsHeadPut (of : Inspected) (old new : List ℕ) : Type 0 where
  pub classes : List Data
  pub parted : AreClasses of.compiled.now.scheme.classes.numbers classes
  pub written : new ≡ old ++ (member_text 123 (codes "classes") (list classes)
      ++ (member_text 44 (codes "k") (count of.compiled.now.scheme.most)
      ++ member_text 44 (codes "procedures") (list (map (procedure_json of.source.now of.names.now)
      (program_of of.compiled.now).source.procedures))))

-- what is told behind them
abbrev pub rest_with : List Data → List Data → Data
rest_with sites threads = record_of ((codes "sites", list sites) ∷ (codes "threads", list threads) ∷ [])

-- what is known of the program stands behind what was there
pub record IsProgramPut (of : Inspected) (old new : List ℕ) : Type 0 where
  pub classes : List Data
  pub parted : AreClasses of.compiled.now.scheme.classes.numbers classes
  pub sections : List Data
  pub inspected : AreTold (IsSectionInspected of.compiled.now of.source.now of.spans.now)
      (length (sections_of (program_of of.compiled.now).texts)) sections
  pub written : new ≡ old ++ compact_text
      (inspection_json of.compiled.now of.source.now of.spans.now of.names.now classes sections)
