-- Stores of what another section of the thread has loaded from the same field.
use Rattle.std.specs.Prelude.{◌≡◌, ℕ, zero, suc, Bool, true, false, ◌&&◌, nat_eq, List, [], ◌∷◌}
use Rattle.std.specs.Prelude.{◌++◌, if◌then◌else◌, map, fold, length, Option, Some, None, slice_get, slice_index_or}
use Rattle.std.specs.List.{list_any, flat_map}
use Rattle.sect_types.specs.{Sections.{sections_of}, declared.expansion.action.Label.{Label}}
use Rattle.sect_types.specs.declared.expansion.action.Field.{Field}
use Rattle.sect_graph.specs.{declared.flow.Node.{Node}, Layout.{flow_nodes}}
use Rattle.sect_places.specs.{declared.origin.Origin.{Origin}, Origins.{section_origins_of}}
use Rattle.sect_flows.specs.{declared.point.LocalAt.{LocalAt}, declared.point.ProgramPoint.{ProgramPoint}}
use Rattle.sect_flows.specs.Flows.{MayFlow}
use Rattle.sect_conflicts.specs.Conflicts.{Selects}
use Rattle.sect_emit.specs.{Compiled.{CompiledView}, Explaining.{section_at}}
use Rattle.sect_names.specs.declared.lock.Effect.{Effect}
use Rattle.sect_warnings.specs.{declared.access.Access.{Access}, declared.lost.LostUpdate.{LostUpdate}}
use Rattle.sect_warnings.specs.Fields.{is_same_field}
use Rattle.sect_types.specs.declared.expansion.action.Action.TheVariants as action
use Rattle.sect_types.specs.declared.expansion.action.Label.TheVariants as label
use Rattle.sect_types.specs.declared.expansion.action.Value.TheVariants as value
use Rattle.sect_names.specs.declared.lock.Effect.TheVariants as effect

-- ---- loads and stores

-- the field and the local of a load, or of a store of a local
abbrev pub accessed : Effect → Label → Option (Field × ℕ)
accessed effect.Read (label.Act (action.Load x b f)) = Some (f, x)
accessed effect.Write (label.Act (action.Store b f (value.Local x))) = Some (f, x)
accessed _ _ = None

-- that of node j of section i, which comes from that item
abbrev pub found_at : ℕ → ℕ → ℕ → Option (Field × ℕ) → List Access
found_at i j item None = []
found_at i j item (Some a) = record { section = i; node = j; item = item; field = a.0; local = a.1 } ∷ []

abbrev pub at_node : Effect → ℕ → ℕ → Option Node → Option Origin → List Access
at_node e i j (Some n) (Some o) = found_at i j o.item (accessed e n.label)
at_node e i j _ _ = []

-- those of the first nodes of section i, so many of these, which come from there
abbrev pub to_node : Effect → ℕ → List Node → List Origin → ℕ → List Access
to_node e i nodes origins zero = []
to_node e i nodes origins (suc j) =
    to_node e i nodes origins j ++ at_node e i j (slice_get nodes j) (slice_get origins j)

abbrev pub in_section : Effect → CompiledView → ℕ → List Origin → List Access
in_section e c i origins = to_node e i (flow_nodes (section_at c i).body) origins (length origins)

-- those of the first sections, so many
abbrev pub to_section : Effect → CompiledView → ℕ → List Access
to_section e c zero = []
to_section e c (suc i) =
    to_section e c i ++ in_section e c i (slice_index_or (section_origins_of c.scheme.program.source) i [])

-- all loads, or all stores of locals, section by section and node by node
abbrev pub accesses : Effect → CompiledView → List Access
accesses e c = to_section e c (length (sections_of c.scheme.program.texts))

-- one of these loads stands in section i and is from the field
abbrev pub loads_in : List Access → ℕ → Field → Bool
loads_in loads i f = list_any (λ (a : Access). nat_eq a.section i && is_same_field a.field f) loads

-- ---- what is lost

abbrev pub point_of : Access → ProgramPoint
point_of a = record { section = Some a.section; node = a.node }

abbrev pub local_there : Access → LocalAt
local_there a = record { point = point_of a; local = a.local }

abbrev pub thread_of : CompiledView → Access → ℕ
thread_of c a = (section_at c a.section).thread

-- what the load gives, or a sum of it, is stored to the same field, in a section of the same thread that doesn't load
-- from the field itself
pub record IsLost (c : CompiledView) (u : LostUpdate) : Type 0 where
  pub field : is_same_field u.load.field u.store.field ≡ true
  pub thread : thread_of c u.load ≡ thread_of c u.store
  pub blind : loads_in (accesses effect.Read c) u.store.section u.store.field ≡ false
  pub flows : MayFlow c.scheme.graphs (thread_of c u.load) (point_of u.load) u.load.local (local_there u.store)

-- of a load and each of these stores
abbrev pub with_stores : List Access → Access → List LostUpdate
with_stores stores load = map (λ (s : Access). record { load = load; store = s }) stores

-- of all loads, one after another, each with all stores
abbrev pub all_pairs : CompiledView → List LostUpdate
all_pairs c = flat_map (with_stores (accesses effect.Write c)) (accesses effect.Read c)

-- the store is that of one of these
abbrev pub has_store : List LostUpdate → Access → Bool
has_store us s =
    list_any (λ (u : LostUpdate). nat_eq u.store.section s.section && nat_eq u.store.node s.node) us

abbrev pub with_update : List LostUpdate → LostUpdate → List LostUpdate
with_update us u = if has_store us u.store then us else us ++ u ∷ []

-- of each store the first
abbrev pub once : List LostUpdate → List LostUpdate
once us = fold with_update [] us

abbrev pub no_access : Access
no_access = record { section = 0; node = 0; item = 0; field = record { of = 0; number = 0 }; local = 0 }

abbrev pub no_update : LostUpdate
no_update = record { load = no_access; store = no_access }

-- these are the lost updates: of each store the first load that it loses
abbrev pub AreLost : CompiledView → List LostUpdate → Type 0
AreLost c us = (all : List LostUpdate) × Selects (IsLost c) (all_pairs c) all × (us ≡ once all)
