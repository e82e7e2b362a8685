-- Hints that would spare a section a lock on a whole class, as it is found by trying.
use Rattle.std.specs.Prelude.{◌≡◌, ◌≢◌, ◌⊎◌, ℕ, Bool, not, ◌&&◌, nat_eq, is_some, List, [], ◌++◌, Option, Some, None}
use Rattle.std.specs.Prelude.{codes, drop, take, position, slice_get}
use Rattle.sect_front.specs.{TreeView.{TreeView}, declared.tree.Record.{Record}}
use Rattle.sect_types.specs.declared.expansion.action.Label.{Label}
use Rattle.sect_graph.specs.{declared.flow.Node.{Node}, Layout.{flow_nodes}}
use Rattle.sect_places.specs.{Declarations.{record_of}, declared.name_use.NameSpan.{NameSpan}}
use Rattle.sect_names.specs.{declared.lock.Lock.{Lock}, declared.refusal.SourceRefusal.{SourceRefusal}}
use Rattle.sect_names.specs.{Printing.{global_name}, Schemes.{SchemeView, guard_of}, Sources.{IsDue}}
use Rattle.sect_lint.specs.Naming.{found}
use Rattle.sect_emit.specs.{Compiled.{CompiledView, IsCompiledFrom}, Explaining.{section_at}}
use Rattle.sect_warnings.specs.Outcomes.{IsOutcome}
use Rattle.sect_types.specs.declared.expansion.action.Action.TheVariants as action
use Rattle.sect_types.specs.declared.expansion.action.Label.TheVariants as label
use Rattle.sect_names.specs.declared.refusal.SourceRefusal.TheVariants as refusal

-- the record of the object that a node loads from or stores to
abbrev pub touched : Label → Option ℕ
touched (label.Act (action.Load x b f)) = Some f.of
touched (label.Act (action.Store b f v)) = Some f.of
touched _ = None

abbrev pub touched_by : Option Node → Option ℕ
touched_by None = None
touched_by (Some n) = touched n.label

abbrev pub touched_at : CompiledView → ℕ → ℕ → Option ℕ
touched_at c i j = touched_by (slice_get (flow_nodes (section_at c i).body) j)

-- an object of that record may guard those of record r: it is another, and nothing guards its objects
abbrev pub may_guard : SchemeView → ℕ → ℕ → Bool
may_guard s r own = not (nat_eq own r) && not (is_some (guard_of s.guards own))

-- the first global whose object may
abbrev pub guard_for : SchemeView → ℕ → Option ℕ
guard_for s r = position (may_guard s r) s.program.globals

-- which name declares a record
abbrev pub declared_by : List NameSpan → Option Record → Option ℕ
declared_by names None = None
declared_by names (Some r) = record_of names r.name

abbrev pub record_name : List NameSpan → TreeView → ℕ → Option NameSpan
record_name names t r = found names (declared_by names (slice_get t.records r))

-- the text with a hint behind the name of a record
abbrev pub hinted : List ℕ → NameSpan → List ℕ → List ℕ
hinted source n guard = take n.span.end source ++ codes " protected_by " ++ guard ++ drop n.span.end source

abbrev pub hint_words : List ℕ → List ℕ → List ℕ
hint_words name guard = codes "; `record " ++ name ++ codes " protected_by " ++ guard ++ codes "`"

-- the text with the hint is refused, or its program comes to this
abbrev pub IsTried : List ℕ → CompiledView → ℕ → Lock → NameSpan → List ℕ → List ℕ → Type 0
IsTried source c i l n guard text =
    ((why : SourceRefusal) × (why ≢ refusal.Memory) × IsDue (hinted source n guard) c.scheme.most why × (text ≡ []))
    ⊎ ((d : CompiledView) × (said : List ℕ) × IsCompiledFrom (hinted source n guard) c.scheme.most d
    × IsOutcome d i l said × (text ≡ hint_words n.used.name guard ++ said))

abbrev pub IsHintOf : List ℕ → CompiledView → ℕ → Lock → Option NameSpan → Option ℕ → List ℕ → Type 0
IsHintOf source c i l (Some n) (Some g) text = IsTried source c i l n (global_name c.scheme.program.source g) text
IsHintOf source c i l None g text = text ≡ []
IsHintOf source c i l (Some n) None text = text ≡ []

-- what is said of a hint of that record, if of any
abbrev pub IsHintSaid : List ℕ → List NameSpan → CompiledView → ℕ → Lock → Option ℕ → List ℕ → Type 0
IsHintSaid source names c i l None text = text ≡ []
IsHintSaid source names c i l (Some r) text =
    IsHintOf source c i l (record_name names c.scheme.program.source r) (guard_for c.scheme r) text
