-- How values flow from local to local along the control paths of a thread.
use Rattle.std.specs.Prelude.{◌≡◌, ◌⊎◌, ◌||◌, ℕ, Bool, true, false, not, nat_eq, if◌then◌else◌, List, [], ◌∷◌}
use Rattle.std.specs.Prelude.{Option, Some, None, slice_get, slice_index_or}
use Rattle.sect_types.specs.declared.expansion.action.{Label.{Label}, Value.{Value}}
use Rattle.sect_graph.specs.{declared.flow.Node.{Node}, Graphs.{GraphView}, Paths.{IsSuccessor}}
use Rattle.sect_graph.specs.declared.flow.Successors.TheVariants.{Next}
use Rattle.sect_flows.specs.declared.point.{LocalAt.{LocalAt}, ProgramPoint.{ProgramPoint}}
use Rattle.sect_flows.specs.declared.way.Way.{Way}
use Rattle.sect_types.specs.declared.expansion.action.Action.TheVariants as action
use Rattle.sect_types.specs.declared.expansion.action.Label.TheVariants as label
use Rattle.sect_types.specs.declared.expansion.action.Value.TheVariants as value

-- ---- what a statement does with the value of a local

-- local x is left as it is
abbrev pub keeps : Label → ℕ → Bool
keeps (label.Act (action.Assign y v)) x = not (nat_eq y x)
keeps (label.Act (action.Compute y v o w)) x = not (nat_eq y x)
keeps (label.Act (action.New y r site)) x = not (nat_eq y x)
keeps (label.Act (action.Load y b f)) x = not (nat_eq y x)
keeps _ x = true

abbrev pub is_local : Value → ℕ → Bool
is_local (value.Local y) x = nat_eq y x
is_local _ x = false

-- the local that is set by the value of local x, if one is
abbrev pub set_by : Label → ℕ → Option ℕ
set_by (label.Act (action.Assign y v)) x = if is_local v x then Some y else None
set_by (label.Act (action.Compute y v o w)) x = if is_local v x || is_local w x then Some y else None
set_by _ x = None

-- the value of local x is behind it in local y, or in a sum there
abbrev pub Passes : Label → ℕ → ℕ → Type 0
Passes l x y = ((keeps l x ≡ true) × (y ≡ x)) ⊎ (set_by l x ≡ Some y)

-- ---- where control goes on

abbrev pub is_section : ℕ → Label → Bool
is_section i (label.Section n) = nat_eq n i
is_section i _ = false

-- the first node that is section i
abbrev pub node_of : ℕ → List Node → Option Node
node_of i [] = None
node_of i (x ∷ xs) = if is_section i x.label then Some x else node_of i xs

-- the nodes among which a point of thread t stands
abbrev pub nodes_at : GraphView → ℕ → Option ℕ → List Node
nodes_at g t None = slice_index_or g.threads t []
nodes_at g t (Some i) = slice_index_or g.sections i []

-- from a node: into the section that it is, or on to the nodes behind it
abbrev pub way_by : Option ℕ → Node → Way
way_by section x = entered x.label where
  entered : Label → Way
  entered (label.Section i) = record { label = x.label; section = Some i; to = Next 0 }
  entered _ = record { label = x.label; section = section; to = x.next }

-- from the exit of a section: on behind the node that it is
abbrev pub leaving : Option Node → Option Way
leaving None = None
leaving (Some x) = Some (record { label = x.label; section = None; to = x.next })

abbrev pub way_or : Option Node → GraphView → ℕ → Option ℕ → Option Way
way_or (Some x) g t section = Some (way_by section x)
way_or None g t None = None
way_or None g t (Some i) = leaving (node_of i (nodes_at g t None))

-- from a point of thread t
abbrev pub way_at : GraphView → ℕ → ProgramPoint → Option Way
way_at g t p = way_or (slice_get (nodes_at g t p.section) p.node) g t p.section

-- control may come this way to point q
abbrev pub Reaches : Way → ProgramPoint → Type 0
Reaches w q = (q.section ≡ w.section) × IsSuccessor w.to q.node

-- ---- values

-- in one step a value goes from a local at one point to a local at the next
abbrev pub Flows : GraphView → ℕ → LocalAt → LocalAt → Type 0
Flows g t h k =
    (w : Way) × (way_at g t h.point ≡ Some w) × Reaches w k.point × Passes w.label h.local k.local

-- it goes by way of these
abbrev pub FlowsBy : GraphView → ℕ → LocalAt → List LocalAt → LocalAt → Type 0
FlowsBy g t h [] k = h ≡ k
FlowsBy g t h (m ∷ ms) k = Flows g t h m × FlowsBy g t m ms k

-- local x right behind the statement at point p
abbrev pub IsSetAt : GraphView → ℕ → ProgramPoint → ℕ → LocalAt → Type 0
IsSetAt g t p x h = (w : Way) × (way_at g t p ≡ Some w) × Reaches w h.point × (h.local ≡ x)

-- what the statement at point p of thread t sets local x to may come to this local
abbrev pub MayFlow : GraphView → ℕ → ProgramPoint → ℕ → LocalAt → Type 0
MayFlow g t p x k = (h : LocalAt) × (via : List LocalAt) × IsSetAt g t p x h × FlowsBy g t h via k
