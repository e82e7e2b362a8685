-- The locks that a section needs, and the least set of them.
use Rattle.std.specs.Prelude.{◌≡◌, ℕ, slice_index_or, List, [], ◌∷◌, ◌++◌}
use Rattle.sect_front.specs.declared.tree.Locking.{Locking}
use Rattle.sect_lemmas.specs.Lists.{Has}
use Rattle.sect_types.specs.{Statements.{TextView}, Traces.{Visit, IsTrace}}
use Rattle.sect_graph.specs.{declared.flow.Node.{Node}, Paths.{IsRestAt}}
use Rattle.sect_names.specs.{declared.lock.Lock.{Lock}, Schemes.{SchemeView}, Locks.{Covers, CoveredBy}}
use Rattle.sect_names.specs.Carrying.{Generated, CarriedBack}
use Rattle.sect_front.specs.declared.tree.Locking.TheVariants as locking
use Rattle.sect_names.specs.declared.lock.Lock.TheVariants as lock

-- the lock x, needed after these steps, is carried back over them, from the last to the first, to the lock l
abbrev pub CarriedOver : SchemeView → ℕ → List Visit → Lock → Lock → Type 0
CarriedOver s t [] x l = x ≡ l
CarriedOver s t (visit ∷ steps) x l = (m : Lock) × CarriedOver s t steps x m × CarriedBack s t visit.label m l

-- the first of the steps generates the lock; at the end, where none is left, these are generated
abbrev pub GeneratedFirst : SchemeView → ℕ → List Lock → List Visit → Lock → Type 0
GeneratedFirst s t last [] l = Has last l
GeneratedFirst s t last (visit ∷ steps) l = Generated s t visit.label l

-- along these steps, at whose end those locks are generated, a lock is generated that the steps before carry back to
-- the lock l
abbrev pub IsNeededOn : SchemeView → ℕ → List Lock → List Visit → Lock → Type 0
IsNeededOn s t last steps l =
    (before : List Visit) × (rest : List Visit) × (x : Lock) × (steps ≡ before ++ rest) × GeneratedFirst s t last rest x
    × CarriedOver s t before x l

-- the lock is needed at the entry of a section of thread t with this body, whose end generates those locks: along some
-- trace
abbrev pub IsNeeded : SchemeView → ℕ → List Lock → TextView → Lock → Type 0
IsNeeded s t last body l = (steps : List Visit) × IsTrace body 0 steps × IsNeededOn s t last steps l

-- it is needed from node j of the body's graph on: along some rest of a trace that begins there
abbrev pub IsNeededFrom : SchemeView → ℕ → List Lock → TextView → List Node → ℕ → Lock → Type 0
IsNeededFrom s t last body g j l = (rest : List Visit) × IsRestAt body g j rest × IsNeededOn s t last rest l

-- what the end of a section generates: the lock on all where the section takes that
abbrev pub end_locks : Locking → List Lock
end_locks locking.Inferred = []
end_locks locking.All = lock.All ∷ []

-- of the section of that number
abbrev pub end_of : SchemeView → ℕ → List Lock
end_of s i = end_locks (slice_index_or s.program.lockings i locking.Inferred)

-- each lock that is needed is covered by one of these
abbrev pub Protects : SchemeView → ℕ → List Lock → TextView → List Lock → Type 0
Protects s t last body locks = (l : Lock) → IsNeeded s t last body l → CoveredBy s locks l

-- the locks protect; each set that protects covers each of them; none of them covers another
pub record IsLeast (s : SchemeView) (t : ℕ) (last : List Lock) (body : TextView) (locks : List Lock) : Type 0 where
  pub protects : Protects s t last body locks
  pub least : (others : List Lock) → Protects s t last body others → (l : Lock) → Has locks l → CoveredBy s others l
  pub apart : (l big : Lock) → Has locks l → Has locks big → Covers s big l → big ≡ l
