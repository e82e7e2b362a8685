-- Which warnings are due of a compiled program.
use Rattle.std.specs.Prelude.{◌≡◌, ◌<◌, ℕ, zero, suc, Bool, true, false, All, List, [], ◌∷◌, ◌++◌, length, map, Option}
use Rattle.std.specs.Prelude.{Some, None, slice_get}
use Rattle.std.specs.{Prelude.{slice_index_or}, List.{flat_map, list_any}}
use Rattle.sect_lemmas.specs.Lists.{Has}
use Rattle.sect_front.specs.TreeView.{TreeView}
use Rattle.sect_types.specs.{Items.{items}, Sections.{SectionView, sections_of}, declared.expansion.action.Base.{Base}}
use Rattle.sect_types.specs.declared.expansion.action.Label.{Label}
use Rattle.sect_graph.specs.{declared.flow.Node.{Node}, Layout.{flow_nodes}}
use Rattle.sect_points.specs.NeverFilled.{IsNeverFilled}
use Rattle.sect_places.specs.{declared.origin.Origin.{Origin}, Origins.{section_origins_of}}
use Rattle.sect_places.specs.SectionItems.{section_items_of}
use Rattle.sect_names.specs.{Carrying.{right_for}, declared.lock.Lock.{Lock}, Needed.{end_of, IsLeast}}
use Rattle.sect_emit.specs.{Compiled.{CompiledView}, Explaining.{section_at}}
use Rattle.sect_conflicts.specs.{declared.conflict.SectionPair.{SectionPair}, Conflicts.{set_at, Selects}}
use Rattle.sect_conflicts.specs.Comparing.{AreConflicts}
use Rattle.sect_warnings.specs.{declared.warning.Finding.{Finding}, declared.warning.Warning.{Warning}}
use Rattle.sect_warnings.specs.{Apart.{AreApart, pair_warning, firsts}, Lost.{accesses, IsLost, AreLost}}
use Rattle.sect_warnings.specs.declared.lost.LostUpdate.{LostUpdate}
use Rattle.sect_types.specs.declared.expansion.action.Action.TheVariants as action
use Rattle.sect_types.specs.declared.expansion.action.Base.TheVariants as base
use Rattle.sect_types.specs.declared.expansion.action.Label.TheVariants as label
use Rattle.sect_names.specs.declared.lock.Effect.TheVariants as effect
use Rattle.sect_names.specs.declared.lock.Lock.TheVariants as lock
use Rattle.sect_names.specs.declared.lock.Right.TheVariants as right
use Rattle.sect_warnings.specs.declared.warning.Finding.TheVariants as finding

-- section i is marked `all`, and if it weren't, its lock set would be this lock alone
abbrev pub WouldDo : CompiledView → ℕ → Lock → Type 0
WouldDo c i l =
    (of : SectionView) × (slice_get (sections_of c.scheme.program.texts) i ≡ Some of)
    × (end_of c.scheme i ≡ lock.All ∷ []) × IsLeast c.scheme of.thread [] of.body (l ∷ [])

-- a node that prints, which is admitted in sections alone
abbrev pub is_print : Label → Bool
is_print (label.Act (action.Print v)) = true
is_print _ = false

-- section i prints
abbrev pub prints : CompiledView → ℕ → Bool
prints c i = list_any (λ (n : Node). is_print n.label) (flow_nodes (section_at c i).body)

-- the finding is due of section i
abbrev pub IsDueOf : CompiledView → ℕ → Finding → Type 0
IsDueOf c i finding.NoLock = (set_at c i ≡ []) × (prints c i ≡ false)
IsDueOf c i finding.AllForOne = (l : Lock) × WouldDo c i l
IsDueOf c i (finding.ClassLock n e) = Has (set_at c i) (lock.Class n (right_for e))
IsDueOf c i (finding.NeverFilled j x) = IsNeverFilled c.scheme.classes.sets (section_at c i).thread x
IsDueOf c i (finding.NoCommonField j) = AreApart c i j
IsDueOf c i (finding.LostUpdate u) =
    (u.store.section ≡ i) × Has (accesses effect.Read c) u.load × Has (accesses effect.Write c) u.store × IsLost c u

abbrev pub IsDue : CompiledView → Warning → Type 0
IsDue c w = IsDueOf c w.section w.finding

abbrev pub warning : ℕ → ℕ → Finding → Warning
warning i item f = record { section = i; finding = f; item = item }

-- of section i, which is that item and takes this lock: that it locks a whole class, if it is for more than to make
-- objects
abbrev pub class_at : ℕ → ℕ → Lock → List Warning
class_at i item (lock.Class n right.Read) = warning i item (finding.ClassLock n effect.Read) ∷ []
class_at i item (lock.Class n right.Write) = warning i item (finding.ClassLock n effect.Write) ∷ []
class_at i item _ = []

-- the local whose object a node loads from or stores to, if there is one
abbrev pub local_of : Base → Option ℕ
local_of (base.Local x) = Some x
local_of (base.Global g) = None

abbrev pub through : Label → Option ℕ
through (label.Act (action.Load x b f)) = local_of b
through (label.Act (action.Store b f v)) = local_of b
through _ = None

-- of node j of section i, which is that item and goes through that local: that the local is never filled
abbrev pub unfilled_at : ℕ → ℕ → ℕ → Option ℕ → List Warning
unfilled_at i j item None = []
unfilled_at i j item (Some x) = warning i item (finding.NeverFilled j x) ∷ []

abbrev pub at_node : ℕ → ℕ → Option Node → Option Origin → List Warning
at_node i j (Some n) (Some o) = unfilled_at i j o.item (through n.label)
at_node i j _ _ = []

-- of its first nodes, so many of these, which come from there
abbrev pub to_node : ℕ → List Node → List Origin → ℕ → List Warning
to_node i nodes origins zero = []
to_node i nodes origins (suc j) =
    to_node i nodes origins j ++ at_node i j (slice_get nodes j) (slice_get origins j)

-- what may be told of section i, which is that item, and whose nodes come from there: that it takes no lock, then that
-- it takes all for one, then the classes that it locks, and what may be told of its nodes
abbrev pub at_section : CompiledView → ℕ → ℕ → List Origin → List Warning
at_section c i item origins =
    warning i item finding.NoLock ∷ warning i item finding.AllForOne ∷ flat_map (class_at i item) (set_at c i)
    ++ to_node i (flow_nodes (section_at c i).body) origins (length origins)

-- of the first sections, so many
abbrev pub to_section : CompiledView → ℕ → List Warning
to_section c zero = []
to_section c (suc i) =
    to_section c i
    ++ at_section c i (slice_index_or (section_items_of c.scheme.program.source) i 0)
    (slice_index_or (section_origins_of c.scheme.program.source) i [])

-- of all that may be told of sections one by one these are due, in this order
abbrev pub AreOfSections : CompiledView → List Warning → Type 0
AreOfSections c ws = Selects (IsDue c) (to_section c (length (sections_of c.scheme.program.texts))) ws

-- and of what may be told of two sections; of each section what is told of it and the first such other
abbrev pub AreOfPairs : CompiledView → List Warning → Type 0
AreOfPairs c ws =
    (pairs : List SectionPair) × (all : List Warning) × AreConflicts c pairs
    × Selects (IsDue c) (map (pair_warning c.scheme.program.source) pairs) all × (ws ≡ firsts all)

-- what is told of a lost update, at the store
abbrev pub lost_warning : LostUpdate → Warning
lost_warning u = warning u.store.section u.store.item (finding.LostUpdate u)

-- and of what goes from section to section
abbrev pub AreOfFlows : CompiledView → List Warning → Type 0
AreOfFlows c ws = (us : List LostUpdate) × AreLost c us × (ws ≡ map lost_warning us)

-- these are the warnings of the program
abbrev pub AreWarnings : CompiledView → List Warning → Type 0
AreWarnings c ws =
    (one : List Warning) × (two : List Warning) × (three : List Warning) × AreOfSections c one × AreOfPairs c two
    × AreOfFlows c three × (ws ≡ one ++ two ++ three)

-- each stands at an item of the tree
abbrev pub AreAtItems : TreeView → List Warning → Type 0
AreAtItems t ws = All (λ (w : Warning). w.item < length (items t)) ws
