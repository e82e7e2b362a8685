-- What is listed of a text: what it declares, and its sections.
use Rattle.std.specs.{Prelude.{◌≡◌, ℕ, List, [], ◌∷◌, ◌++◌, Option, Some, None, codes}, List.{flat_map}, Fmt.{decimal}}
use Rattle.serde_json.specs.Data.{Data, string, object, no_members, member}
use Rattle.sect_front.specs.declared.span.Span.{Span}
use Rattle.sect_places.specs.{NodeSpans.{NodeSpansView, AreNodeSpans}, declared.name_use.NameSpan.{NameSpan}}
use Rattle.sect_places.specs.declared.name_use.Role.{Role}
use Rattle.sect_emit.specs.{Compiled.{CompiledView, program_of}, Explaining.{section_at}, Labels.{thread_name}}
use Rattle.sect_editor.specs.{Accepted.{IsCompiledIf}, Marks.{head_at, section_numbers}, Queries.{AreNamesOf}}
use Rattle.sect_editor.specs.Ranges.{count, list, range_json}
use Rattle.sect_places.specs.declared.name_use.Role.TheVariants as role
use Rattle.sect_places.specs.declared.name_use.Thing.TheVariants as thing

-- how the protocol calls what is listed: a struct, a variable, a function, and a module for a thread
abbrev pub symbol_kind : Role → Option ℕ
symbol_kind (role.Declared thing.Record) = Some 23
symbol_kind (role.Declared thing.Global) = Some 13
symbol_kind (role.Declared thing.Procedure) = Some 12
symbol_kind (role.Declared thing.Thread) = Some 2
symbol_kind _ = None

abbrev pub symbol_json : List ℕ → NameSpan → ℕ → Data
symbol_json source n kind =
    object (member (codes "kind") (count kind) (member (codes "name") (string n.used.name)
    (member (codes "range") (range_json source n.span) (member (codes "selectionRange") (range_json source n.span)
    no_members))))

abbrev pub symbol_by : List ℕ → NameSpan → Option ℕ → List Data
symbol_by source n None = []
symbol_by source n (Some kind) = symbol_json source n kind ∷ []

-- the records, globals, procedures and threads, in text order
abbrev pub symbols_of : List ℕ → List NameSpan → List Data
symbols_of source names = flat_map (λ n. symbol_by source n (symbol_kind n.used.role)) names

-- a section stands at its `atomic`; it is called by its number, and its thread stands beside it
abbrev pub section_with : List ℕ → Span → List ℕ → List ℕ → Data
section_with source head thread name =
    object (member (codes "detail") (string thread) (member (codes "kind") (count 24) (member (codes "name")
    (string name) (member (codes "range") (range_json source head) (member (codes "selectionRange")
    (range_json source head) no_members)))))

abbrev pub section_symbols : CompiledView → List ℕ → NodeSpansView → ℕ → List Data
section_symbols c source v i =
    section_with source (head_at v i) (thread_name (program_of c).source (section_at c i).thread)
    (codes "section " ++ decimal i) ∷ []

-- the sections of a text that is accepted, by number
abbrev pub AreSectionSymbols : List ℕ → Option CompiledView → List Data → Type 0
AreSectionSymbols source None sections = sections ≡ []
AreSectionSymbols source (Some c) sections =
    (v : NodeSpansView) × AreNodeSpans source (program_of c) v
    × (sections ≡ flat_map (section_symbols c source v) (section_numbers c))

-- what a text declares, and then its sections
pub record AreSymbols (source : List ℕ) (k : ℕ) (value : Data) : Type 0 where
  pub names : List NameSpan
  pub named : AreNamesOf source names
  pub compiled : Option CompiledView
  pub from : IsCompiledIf source k compiled
  pub sections : List Data
  pub listed : AreSectionSymbols source compiled sections
  pub told : value ≡ list (symbols_of source names ++ sections)
