-- What a statement changes, by the nodes of graphs. The private functions of `changed_values` cite it.
use Rattle.std.specs.Prelude.{◌≡◌, ℕ, List, [], Option, Some, None, slice_get, slice_index_or, option_map}
use Rattle.serde_json.specs.Data.{Data}
use Rattle.sect_types.specs.{Programs.{ProgramView}, Store.{StoreView}}
use Rattle.sect_types.specs.{declared.expansion.action.Action.{Action}, declared.expansion.action.Label.{Label}}
use Rattle.sect_types.specs.declared.expansion.action.Label.TheVariants.{Act, Test, Section}
use Rattle.sect_types.specs.Meaning.{WorkView, Change, Unchanged, Written, Added, Came, Went, Fell, first_datum}
use Rattle.sect_types.specs.Meaning.{fresh, one, looked, found_at}
use Rattle.sect_types.specs.declared.declarations.types.ValueType.{ValueType}
use Rattle.sect_types.specs.declared.meaning.store.ObjectName.{ObjectName}
use Rattle.sect_emit.specs.{Compiled.{CompiledView, program_of}, Graphed.{graphed_nodes}, State.{State}}
use Rattle.sect_emit.specs.declared.graphs.GraphOf.{GraphOf}
use Rattle.sect_world.specs.{declared.standing.Standing.{Standing}, Sights.{work_of}}
use Rattle.sect_world.specs.declared.standing.Standing.TheVariants.{At, Broken}
use Rattle.sect_json.specs.{Changes.{next_change, placed_json}, declared.changes.Change.{Change as Told}}
use Rattle.sect_emit.specs.declared.graphs.GraphOf.TheVariants as graphed
use Rattle.sect_json.specs.declared.changes.Change.TheVariants as told

abbrev pub action_in : Option Label → Option Action
action_in None = None
action_in (Some (Act a)) = Some a
action_in (Some (Test t)) = None
action_in (Some (Section i)) = None

-- the statement of a node
abbrev pub node_action : CompiledView → GraphOf → ℕ → Option Action
node_action c of n = action_in (option_map (λ x. x.label) (slice_get (graphed_nodes c of) n))

-- the statement of a section at which a thread stands
abbrev pub standing_action : CompiledView → Standing → Option Action
standing_action c (At (graphed.Thread u) n) = None
standing_action c (At (graphed.Section i) n) = node_action c (graphed.Section i) n
standing_action c (Broken why) = None

abbrev pub came_change : Came → Change
came_change (Went w change) = change
came_change (Fell why w) = Unchanged

-- a field of this type of an object that is just made
abbrev pub first_json : ProgramView → ObjectName → List (List ℕ) → ℕ → ValueType → Data
first_json p o names f type = placed_json p o names f (first_datum type)

-- what is told of a change
abbrev pub change_shown : ProgramView → Told → Change
change_shown p told.Nothing = Unchanged
change_shown p (told.Written o f d) = Written o f d
change_shown p (told.Made r site) = Added (fresh site (slice_index_or p.records r []))

-- what a statement of thread t does to the store
abbrev pub action_change : ProgramView → ℕ → StoreView → WorkView → Option Action → Change
action_change p t s w None = Unchanged
action_change p t s w (Some a) = came_change (one p t a (found_at s (looked a w.locals)) w)

-- this is the statement that thread t runs next in its section, or it changes nothing
abbrev pub IsNextAction : CompiledView → State → ℕ → Option Action → Type 0
IsNextAction c s t a = next_change c s t ≡ action_change (program_of c) t s.store (work_of s t) a
