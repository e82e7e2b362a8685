-- Chains: why a lock is needed at the entry of a section.
use Rattle.std.specs.Prelude.{◌≡◌, ◌⊎◌, ℕ, List, [], ◌∷◌, Some, length, slice_get}
use Rattle.sect_lemmas.specs.Lists.{Has}
use Rattle.sect_graph.specs.{declared.flow.Node.{Node}, Paths.{LeadsTo}}
use Rattle.sect_names.specs.{declared.link.Link.{Link}, declared.lock.Lock.{Lock}, Schemes.{SchemeView}}
use Rattle.sect_names.specs.Carrying.{Generated, CarriedBack}

abbrev pub link : ℕ → Lock → Link
link j l = record { node = j; lock = l }

-- the step's node generates its lock; the exit, whose number is behind that of the last node, generates those locks
abbrev pub IsGeneratedAt : SchemeView → ℕ → List Lock → List Node → Link → Type 0
IsGeneratedAt s t last g a =
    ((x : Node) × (slice_get g a.node ≡ Some x) × Generated s t x.label a.lock)
    ⊎ ((a.node ≡ length g) × Has last a.lock)

-- control may go on from the node of the one step to that of the other, whose lock is carried back over the first node
-- to the first lock
abbrev pub LinksTo : SchemeView → ℕ → List Node → Link → Link → Type 0
LinksTo s t g a b =
    (x : Node) × (slice_get g a.node ≡ Some x) × LeadsTo x b.node × CarriedBack s t x.label b.lock a.lock

-- a step and those after it: each links to the next, and the lock of the last is generated
abbrev pub AreLinked : SchemeView → ℕ → List Lock → List Node → Link → List Link → Type 0
AreLinked s t last g a [] = IsGeneratedAt s t last g a
AreLinked s t last g a (b ∷ links) = LinksTo s t g a b × AreLinked s t last g b links

-- the steps are a chain of the lock in a section of thread t with this graph, whose end generates those locks: they
-- begin at the entry with the lock
abbrev pub IsChain : SchemeView → ℕ → List Lock → List Node → Lock → List Link → Type 0
IsChain s t last g l [] = ⊥
IsChain s t last g l (a ∷ links) = (a ≡ link 0 l) × AreLinked s t last g a links
