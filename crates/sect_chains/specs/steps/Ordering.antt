-- The order in which steps are kept: each stands behind those that lead on from an earlier step.
use Rattle.std.specs.Prelude.{◌≡◌, ◌<◌, ◌⊎◌, ⊤, ℕ, List, Option, Some, None, slice_get}
use Rattle.sect_graph.specs.declared.flow.Node.{Node}
use Rattle.sect_names.specs.{declared.link.Link.{Link}, declared.lock.Lock.{Lock}, Schemes.{SchemeView}, Locks.{Covers}}
use Rattle.sect_names.specs.Chains.{IsGeneratedAt, LinksTo}
use Rattle.sect_chains.specs.{declared.work.Trail.{Trail}, Chains.{StepBefore}}
use Rattle.sect_chains.specs.steps.{Trails.{HasTrail}, Working.{links_of, nexts_of, IsCoveredAt, IsWork}}

-- the one step came before the other: it links to none or to an earlier step, or it links to the same and stands before
-- the other
abbrev pub CameBefore : Option ℕ → Link → Option ℕ → Link → Type 0
CameBefore None a None b = StepBefore a b
CameBefore None a (Some j) b = ⊤
CameBefore (Some i) a None b = ⊥
CameBefore (Some i) a (Some j) b = (i < j) ⊎ ((i ≡ j) × StepBefore a b)

-- each kept step came before those that are kept behind it
abbrev pub AreSorted : List Link → List (Option ℕ) → Type 0
AreSorted kept next =
    (i j : ℕ) (a b : Link) (o p : Option ℕ) → i < j → slice_get kept i ≡ Some a → slice_get kept j ≡ Some b
    → slice_get next i ≡ Some o → slice_get next j ≡ Some p → CameBefore o a p b

-- all kept steps came before this one
abbrev pub AllCameBefore : List Link → List (Option ℕ) → Option ℕ → Link → Type 0
AllCameBefore kept next o x =
    (i : ℕ) (a : Link) (p : Option ℕ) → slice_get kept i ≡ Some a → slice_get next i ≡ Some p → CameBefore p a o x

-- a step is kept at the node whose lock covers that of this one, and it came before this one or is this one
abbrev pub IsInTime : SchemeView → List Link → List (Option ℕ) → Option ℕ → Link → Type 0
IsInTime s kept next o x =
    (i : ℕ) × (a : Link) × (p : Option ℕ) × (slice_get kept i ≡ Some a) × (slice_get next i ≡ Some p)
    × (a.node ≡ x.node) × Covers s a.lock x.lock × (CameBefore p a o x ⊎ ((p ≡ o) × (a ≡ x)))

-- steps were added that link there and have the first property, so that all with the second are there in time
pub record Adds (s : SchemeView) (kept : List Link) (next : List (Option ℕ)) (more : List Link)
    (more_next : List (Option ℕ)) (o : Option ℕ) (Added Wanted : Link → Type 0) : Type 0
  where
    pub sorted : AreSorted more more_next
    pub still : (i : ℕ) (a : Link) (p : Option ℕ) → slice_get kept i ≡ Some a → slice_get next i ≡ Some p
        → (slice_get more i ≡ Some a) × (slice_get more_next i ≡ Some p)
    pub only : (i : ℕ) (a : Link) (p : Option ℕ) → slice_get more i ≡ Some a → slice_get more_next i ≡ Some p
        → ((slice_get kept i ≡ Some a) × (slice_get next i ≡ Some p)) ⊎ ((p ≡ o) × Added a)
    pub in_time : (x : Link) → Wanted x → IsInTime s more more_next o x

abbrev pub links_in : Trail → List Link
links_in r = links_of r.numbering.keys r.steps.items

abbrev pub nexts_in : Trail → List (Option ℕ)
nexts_in r = nexts_of r.steps.items

abbrev pub IsInOrder : Trail → Type 0
IsInOrder r = AreSorted (links_in r) (nexts_in r)

abbrev pub AllBefore : Trail → Option ℕ → Link → Type 0
AllBefore r o x = AllCameBefore (links_in r) (nexts_in r) o x

abbrev pub AddsTo : SchemeView → Trail → Trail → Option ℕ → (Link → Type 0) → (Link → Type 0) → Type 0
AddsTo s r q o Added Wanted = Adds s (links_in r) (nexts_in r) (links_in q) (nexts_in q) o Added Wanted

-- none, or a number below this one
abbrev pub IsBelow : Option ℕ → ℕ → Type 0
IsBelow None n = ⊤
IsBelow (Some j) n = j < n

-- no step links to this one or to a later one
abbrev pub LinkBelow : Trail → ℕ → Type 0
LinkBelow r n = (i : ℕ) (p : Option ℕ) → slice_get (nexts_in r) i ≡ Some p → IsBelow p n

-- what the nodes and the section's end generate is kept, and nothing else
pub record BeginsInOrder (s : SchemeView) (t : ℕ) (last : List Lock) (g : List Node) (r : Trail) : Type 0 where
  pub sorted : IsInOrder r
  pub only : (i : ℕ) (p : Option ℕ) → slice_get (nexts_in r) i ≡ Some p → p ≡ None
  pub in_time : (x : Link) → IsGeneratedAt s t last g x → IsInTime s (links_in r) (nexts_in r) None x

-- steps that lead on are kept, and at each node from which steps lead on from a lock one that covers it; each that is
-- generated or that links to a kept one is kept in time
pub record IsSearched (s : SchemeView) (t : ℕ) (last : List Lock) (g : List Node) (r : Trail) : Type 0 where
  pub work : IsWork s t last g r
  pub all : (a : Link) → HasTrail s t last g a → IsCoveredAt s (links_in r) a
  pub sorted : IsInOrder r
  pub generated : (x : Link) → IsGeneratedAt s t last g x → IsInTime s (links_in r) (nexts_in r) None x
  pub carried : (j : ℕ) (b x : Link) → slice_get (links_in r) j ≡ Some b → LinksTo s t g x b
      → IsInTime s (links_in r) (nexts_in r) (Some j) x
