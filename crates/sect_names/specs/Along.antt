-- What is needed along steps, one step after another, and the beginnings of needed paths.
use Rattle.std.specs.Prelude.{◌≡◌, ℕ, ⊤, Option, Some, None, List, [], ◌∷◌, ◌⊎◌}
use Rattle.sect_lemmas.specs.Lists.{Has}
use Rattle.sect_types.specs.{Statements.{TextView}, declared.expansion.action.Field.{Field}}
use Rattle.sect_types.specs.declared.expansion.action.Label.{Label}
use Rattle.sect_points.specs.{declared.holders.Variable.TheVariants.{Global}, Paths.{PathView, var, dot}}
use Rattle.sect_names.specs.{declared.lock.Effect.{Effect}, declared.lock.Lock.{Lock}, Schemes.{SchemeView, guard_of}}
use Rattle.sect_names.specs.{Locks.{Covers}, Carrying.{Generated, CarriedBack}, Laws.{IsProgramStep}, Walks.{IsWalk}}
use Rattle.sect_names.specs.declared.lock.Effect.TheVariants as effect
use Rattle.sect_names.specs.declared.lock.Lock.TheVariants as lock

-- needed before a step, where these are needed after it: the step generates it, or carries it back from one of these
abbrev pub NeededBefore : SchemeView → ℕ → Label → (Lock → Type 0) → Lock → Type 0
NeededBefore s t step After l = Generated s t step l ⊎ ((m : Lock) × After m × CarriedBack s t step m l)

-- needed before these steps, one after another, where these locks are generated at their end
abbrev pub NeededAlong : SchemeView → ℕ → List Lock → List Label → Lock → Type 0
NeededAlong s t last [] l = Has last l
NeededAlong s t last (step ∷ steps) l = NeededBefore s t step (NeededAlong s t last steps) l

-- needed before the text: along some walk through it
abbrev pub NeededIn : SchemeView → ℕ → List Lock → TextView → Lock → Type 0
NeededIn s t last text l = (steps : List Label) × IsWalk text steps × NeededAlong s t last steps l

-- each step is one of the program's
abbrev pub AreProgramSteps : SchemeView → ℕ → List Label → Type 0
AreProgramSteps s t [] = ⊤
AreProgramSteps s t (step ∷ steps) = IsProgramStep s t step × AreProgramSteps s t steps

-- p begins with q and goes on from there by the field f
abbrev pub GoesBy : PathView → PathView → Field → Type 0
GoesBy (var v) q f = ⊥
GoesBy (dot e g) q f = ((q ≡ e) × (f ≡ g)) ⊎ GoesBy e q f

-- the path whose lock stands for reading the object of q
abbrev pub read_for : Option ℕ → PathView → PathView
read_for None q = q
read_for (Some g) q = var (Global g)

-- the lock for reading a field of the object of q, that of the object or of its record's guard
abbrev pub reading_lock : SchemeView → PathView → Field → Lock
reading_lock s q f = lock.Path (read_for (guard_of s.guards f.of) q) effect.Read

-- where a path is needed, each of its beginnings may be read by another lock that is
abbrev pub ReadsBeginnings : SchemeView → (Lock → Type 0) → Type 0
ReadsBeginnings s Needs =
    (p q : PathView) (f : Field) (e : Effect) → Needs (lock.Path p e) → GoesBy p q f
    → (m : Lock) × Needs m × Covers s m (reading_lock s q f)
