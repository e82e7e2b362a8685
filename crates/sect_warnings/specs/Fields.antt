-- The fields that sections use, and whether two sections have one in common.
use Rattle.std.specs.Prelude.{ℕ, zero, suc, Bool, ◌&&◌, ◌||◌, nat_eq, if◌then◌else◌, List, [], ◌∷◌, ◌++◌, length}
use Rattle.std.specs.{Prelude.{Option, Some, None, slice_get}, List.{list_any}}
use Rattle.sect_types.specs.declared.expansion.action.{Field.{Field}, Label.{Label}}
use Rattle.sect_graph.specs.{declared.flow.Node.{Node}, Layout.{flow_nodes}}
use Rattle.sect_emit.specs.{Compiled.{CompiledView}, Explaining.{section_at}}
use Rattle.sect_types.specs.declared.expansion.action.Action.TheVariants as action
use Rattle.sect_types.specs.declared.expansion.action.Label.TheVariants as label

-- the field that a node stores to
abbrev pub stored : Label → Option Field
stored (label.Act (action.Store b f v)) = Some f
stored _ = None

-- the field that it uses: it loads from it or stores to it
abbrev pub used : Label → Option Field
used (label.Act (action.Load x b f)) = Some f
used (label.Act (action.Store b f v)) = Some f
used _ = None

abbrev pub is_same_field : Field → Field → Bool
is_same_field f g = nat_eq f.of g.of && nat_eq f.number g.number

abbrev pub has_field : List Field → Field → Bool
has_field fs f = list_any (λ g. is_same_field g f) fs

-- the list, and behind it the field, if it isn't there
abbrev pub with_field : List Field → Option Field → List Field
with_field fs None = fs
with_field fs (Some f) = if has_field fs f then fs else fs ++ f ∷ []

abbrev pub field_at : (Label → Option Field) → Option Node → Option Field
field_at by None = None
field_at by (Some n) = by n.label

-- the fields of the first nodes, so many of these, each once, in the order of their first nodes
abbrev pub fields_to : (Label → Option Field) → List Node → ℕ → List Field
fields_to by nodes zero = []
fields_to by nodes (suc j) = with_field (fields_to by nodes j) (field_at by (slice_get nodes j))

-- those of section i
abbrev pub section_fields : (Label → Option Field) → CompiledView → ℕ → List Field
section_fields by c i =
    fields_to by (flow_nodes (section_at c i).body) (length (flow_nodes (section_at c i).body))

-- some field is in both lists
abbrev pub have_common : List Field → List Field → Bool
have_common fs gs = list_any (has_field gs) fs

-- the list has a field of the same record
abbrev pub has_record : List Field → Field → Bool
has_record fs f = list_any (λ g. nat_eq g.of f.of) fs

-- some record has a field in each of both lists
abbrev pub have_record : List Field → List Field → Bool
have_record fs gs = list_any (has_record gs) fs

-- sections i and j use fields of one record
abbrev pub share_record : CompiledView → ℕ → ℕ → Bool
share_record c i j = have_record (section_fields used c i) (section_fields used c j)

-- one of sections i and j stores to a field that the other uses
abbrev pub share_field : CompiledView → ℕ → ℕ → Bool
share_field c i j =
    have_common (section_fields stored c i) (section_fields used c j)
    || have_common (section_fields stored c j) (section_fields used c i)
