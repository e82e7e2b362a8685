-- The steps of chains, one from another.
use Rattle.std.specs.Prelude.{◌≡◌, ◌<◌, ℕ, List, [], ◌∷◌, length, slice_get, Option, Some, None}
use Rattle.sect_lemmas.specs.Lists.{Has}
use Rattle.sect_graph.specs.declared.flow.Node.{Node}
use Rattle.sect_names.specs.{declared.link.Link.{Link}, declared.lock.Lock.{Lock}, Schemes.{SchemeView}, Locks.{Covers}}
use Rattle.sect_names.specs.{Laws.{RespectsCover}, Chains.{link, IsGeneratedAt, LinksTo, AreLinked}}

-- steps lead on from this one to where a lock is generated
abbrev pub HasTrail : SchemeView → ℕ → List Lock → List Node → Link → Type 0
HasTrail s t last g a = (links : List Link) × AreLinked s t last g a links

-- what is carried back of a lock that covers another covers what is carried back of that
abbrev pub RespectCover : SchemeView → ℕ → List Node → Type 0
RespectCover s t g = (j : ℕ) (y : Node) → slice_get g j ≡ Some y → RespectsCover s t y.label

-- steps lead on from each of these locks at the first node, and from no other lock there that covers it
pub record AreTops (s : SchemeView) (t : ℕ) (last : List Lock) (g : List Node) (locks : List Lock) : Type 0 where
  pub trails : (l : Lock) → Has locks l → HasTrail s t last g (link 0 l)
  pub alone : (l big : Lock) → Has locks l → HasTrail s t last g (link 0 big) → Covers s big l → big ≡ l

-- the lock of the step at an index is generated there, or the step links to an earlier one
abbrev pub LeadsOn : SchemeView → ℕ → List Lock → List Node → List Link → ℕ → Link → Option ℕ → Type 0
LeadsOn s t last g kept i a None = IsGeneratedAt s t last g a
LeadsOn s t last g kept i a (Some j) =
    (j < i) × ((b : Link) × (slice_get kept j ≡ Some b) × LinksTo s t g a b)

-- for each step, which one it links to, if its lock isn't generated there
pub record LeadOn (s : SchemeView) (t : ℕ) (last : List Lock) (g : List Node) (kept : List Link)
    (next : List (Option ℕ)) : Type 0 where
  pub count : length next ≡ length kept
  pub each : (i : ℕ) (a : Link) (o : Option ℕ) → slice_get kept i ≡ Some a → slice_get next i ≡ Some o
      → LeadsOn s t last g kept i a o

-- each step that links to one links to an earlier one
pub record GoBack (kept : List Link) (next : List (Option ℕ)) : Type 0 where
  pub count : length next ≡ length kept
  pub earlier : (i j : ℕ) → slice_get next i ≡ Some (Some j) → j < i

-- these are the steps behind the one at an index, each the one to which the step before it links
abbrev pub AreBehind : List Link → List (Option ℕ) → ℕ → List Link → Type 0
AreBehind kept next i [] = slice_get next i ≡ Some None
AreBehind kept next i (b ∷ links) =
    (j : ℕ) × (slice_get next i ≡ Some (Some j)) × (slice_get kept j ≡ Some b) × AreBehind kept next j links

-- these are the steps from the one at an index on
abbrev pub AreFrom : List Link → List (Option ℕ) → ℕ → List Link → Type 0
AreFrom kept next i [] = ⊥
AreFrom kept next i (a ∷ links) = (slice_get kept i ≡ Some a) × AreBehind kept next i links

-- these are the steps from the lock at the entry on
abbrev pub AreFromEntry : List Link → List (Option ℕ) → Lock → List Link → Type 0
AreFromEntry kept next l links = (i : ℕ) × (slice_get kept i ≡ Some (link 0 l)) × AreFrom kept next i links
