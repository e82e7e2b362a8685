-- The search for what is needed at the nodes of a section's graph: what has been found, and which steps are kept.
use Rattle.std.specs.Prelude.{◌≡◌, ◌<◌, ◌+◌, ℕ, List, ◌++◌, map, Option, Some, None, length, slice_get}
use Rattle.std.specs.Prelude.{Bool}
use Rattle.sect_lemmas.specs.Lists.{Has}
use Rattle.sect_graph.specs.declared.flow.Node.{Node}
use Rattle.sect_names.specs.{declared.link.Link.{Link}, declared.lock.Lock.{Lock}, Schemes.{SchemeView}, Locks.{Covers}}
use Rattle.sect_names.specs.{Carrying.{Generated}, Chains.{link, IsGeneratedAt, LinksTo}}
use Rattle.sect_infer.specs.Numbers.{AreApart}
use Rattle.sect_infer.specs.Numberings.{NumberingView, IsNumbering, Extends, lock_at}
use Rattle.sect_chains.specs.{declared.keep.KeptLink.{KeptLink}, declared.work.Trail.{Trail}}
use Rattle.sect_chains.specs.steps.{Keeping.{KeptView, kept, IsMarkedAt}, Trails.{HasTrail, LeadOn}}

-- what a step stands for
abbrev pub link_of : List Lock → KeptLink → Link
link_of keys x = link x.node (lock_at keys x.number)

abbrev pub links_of : List Lock → List KeptLink → List Link
links_of keys steps = map (link_of keys) steps

-- the indices of the steps to which these link
abbrev pub nexts_of : List KeptLink → List (Option ℕ)
nexts_of steps = map (λ x. x.next) steps

-- the lock was found at the node
abbrev pub IsFoundAt : List Lock → List (List Bool) → Link → Type 0
IsFoundAt keys found a = (n : ℕ) × IsMarkedAt found a.node n × (slice_get keys n ≡ Some a.lock)

-- a step is kept at the node, with a lock that covers this one
abbrev pub IsCoveredAt : SchemeView → List Link → Link → Type 0
IsCoveredAt s links a = (big : Lock) × Has links (link a.node big) × Covers s big a.lock

-- from each lock that was found steps lead on; one that covers it is kept at its node; no step is kept twice
pub record IsKept (s : SchemeView) (t : ℕ) (last : List Lock) (g : List Node) (a : NumberingView)
    (w : KeptView) : Type 0
  where
    pub numbering : IsNumbering s a
    pub count : length w.found ≡ length g + 1
    pub numbers : (j n : ℕ) → IsMarkedAt w.found j n → n < length a.keys
    pub trails : (x : Link) → IsFoundAt a.keys w.found x → HasTrail s t last g x
    pub there : (x : KeptLink) → Has w.steps x → IsMarkedAt w.found x.node x.number
    pub leads : LeadOn s t last g (links_of a.keys w.steps) (nexts_of w.steps)
    pub covered : (x : Link) → IsFoundAt a.keys w.found x → IsCoveredAt s (links_of a.keys w.steps) x
    pub apart : AreApart (links_of a.keys w.steps)

-- why a step is kept: its lock is generated, or it links to the one at an index
abbrev pub IsReason : SchemeView → ℕ → List Lock → List Node → List Link → Link → Option ℕ → Type 0
IsReason s t last g links a None = IsGeneratedAt s t last g a
IsReason s t last g links a (Some j) = (b : Link) × (slice_get links j ≡ Some b) × LinksTo s t g a b

-- more was found and kept, and with it all that has this property
pub record Grows (s : SchemeView) (t : ℕ) (last : List Lock) (g : List Node) (a : NumberingView) (w : KeptView)
    (b : NumberingView) (v : KeptView) (P : Link → Type 0) : Type 0 where
  pub kept : IsKept s t last g b v
  pub longer : Extends a b
  pub found : (j n : ℕ) → IsMarkedAt w.found j n → IsMarkedAt v.found j n
  pub steps : (more : List KeptLink) × (v.steps ≡ w.steps ++ more)
  pub each : (x : Link) → P x → IsFoundAt b.keys v.found x

abbrev pub kept_of : Trail → KeptView
kept_of r = kept r.found.items r.steps.items

abbrev pub IsWork : SchemeView → ℕ → List Lock → List Node → Trail → Type 0
IsWork s t last g r = IsKept s t last g r.numbering (kept_of r)

abbrev pub GoesOn : SchemeView → ℕ → List Lock → List Node → Trail → Trail → (Link → Type 0) → Type 0
GoesOn s t last g r q P = Grows s t last g r.numbering (kept_of r) q.numbering (kept_of q) P

-- a node generates the step's lock
abbrev pub IsGeneratedThere : SchemeView → ℕ → List Node → Link → Type 0
IsGeneratedThere s t g a = (y : Node) × (slice_get g a.node ≡ Some y) × Generated s t y.label a.lock

-- node j does, or one below it
abbrev pub IsGeneratedBy : SchemeView → ℕ → List Node → ℕ → Link → Type 0
IsGeneratedBy s t g j a = (a.node ≡ j) × IsGeneratedThere s t g a

abbrev pub IsGeneratedBelow : SchemeView → ℕ → List Node → ℕ → Link → Type 0
IsGeneratedBelow s t g j a = (a.node < j) × IsGeneratedThere s t g a

-- what the nodes generate, and the section's end, was found
abbrev pub HasAllGenerated : SchemeView → ℕ → List Lock → List Node → Trail → Type 0
HasAllGenerated s t last g r = (a : Link) → IsGeneratedAt s t last g a → IsFoundAt r.numbering.keys r.found.items a
