-- The steps of a program, and what the carrying of locks over them keeps.
use Rattle.std.specs.Prelude.{◌≡◌, ◌↔◌, ℕ, ⊤, List, Some, slice_get}
use Rattle.sect_lemmas.specs.Lists.{Has}
use Rattle.sect_types.specs.{Programs.{ProgramView, environment_at}, Sections.{SectionView, sections_of}}
use Rattle.sect_types.specs.{Sound.{IsSoundAction}, declared.expansion.action.Label.{Label}}
use Rattle.sect_types.specs.declared.expansion.action.Label.TheVariants.{Act, Test, Section}
use Rattle.sect_graph.specs.declared.flow.Node.{Node}
use Rattle.sect_points.specs.{Paths.{PathView}, Sets.{InSets}, declared.holders.Holder.{Holder}, PathClasses.{Agree}}
use Rattle.sect_points.specs.Statements.{thread_action, thread_actions}
use Rattle.sect_names.specs.{declared.lock.Lock.{Lock}, Schemes.{SchemeView}, Locks.{Covers, IsLockOf}}
use Rattle.sect_names.specs.Carrying.{Before, CarriedBack, Generated}

-- a statement of thread t is one of the program's
abbrev pub IsProgramStep : SchemeView → ℕ → Label → Type 0
IsProgramStep s t (Act a) = Has (thread_actions s.program) (thread_action t a)
IsProgramStep s t (Test c) = ⊤
IsProgramStep s t (Section i) = ⊤

-- a statement of thread t agrees with the declarations
abbrev pub IsSoundStep : ProgramView → ℕ → Label → Type 0
IsSoundStep p t (Act a) = IsSoundAction (environment_at p t) a
IsSoundStep p t (Test c) = ⊤
IsSoundStep p t (Section i) = ⊤

-- what may denote before the step what a path denotes after it has no class but the path's
abbrev pub KeepsItsClass : SchemeView → ℕ → Label → Type 0
KeepsItsClass s t step = (p q : PathView) → Before s.classes t step p q → Agree s.classes q p

-- what a lock covers after the step, it covers before it: each of both carried back
abbrev pub RespectsCover : SchemeView → ℕ → Label → Type 0
RespectsCover s t step =
    (l big r : Lock) → Covers s big l → CarriedBack s t step l r
    → (over : Lock) × CarriedBack s t step big over × Covers s over r

-- the node stands in the graph of this section of the program
abbrev pub StandsIn : SchemeView → SectionView → Node → Type 0
StandsIn s section x =
    (i : ℕ) × (g : List Node) × (j : ℕ) × (slice_get (sections_of s.program.texts) i ≡ Some section)
    × (slice_get s.graphs.sections i ≡ Some g) × (slice_get g j ≡ Some x)

-- two schemes know the same: one number for each site's class, the same sites for each holder, the same guards, the
-- same graphs
pub record AreOneScheme (s r : SchemeView) : Type 0 where
  pub numbers : s.classes.numbers ≡ r.classes.numbers
  pub sets : (h : Holder) (site : ℕ) → InSets s.classes.sets h site ↔ InSets r.classes.sets h site
  pub guards : s.guards ≡ r.guards
  pub graphs : s.graphs ≡ r.graphs

-- the locks that the nodes and the section's end generate, and those that the nodes carry back, are the program's
pub record AreLawful (s : SchemeView) (t : ℕ) (last : List Lock) (g : List Node) : Type 0 where
  pub generated : (j : ℕ) (y : Node) → slice_get g j ≡ Some y → (l : Lock) → Generated s t y.label l → IsLockOf s t l
  pub ended : (l : Lock) → Has last l → IsLockOf s t l
  pub carried : (j : ℕ) (y : Node) → slice_get g j ≡ Some y → (l r : Lock) → IsLockOf s t l
      → CarriedBack s t y.label l r → IsLockOf s t r
