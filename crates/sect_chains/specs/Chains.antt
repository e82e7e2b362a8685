-- The chains of a section's locks. `chains` says so of what it gives.
use Rattle.std.specs.{Prelude.{◌≡◌, ◌<◌, ◌⊎◌, ⊤, ℕ, List, [], ◌∷◌}, List.{AllZip}}
use Rattle.sect_graph.specs.declared.flow.Node.{Node}
use Rattle.sect_names.specs.{declared.link.Link.{Link}, declared.lock.Lock.{Lock}, Schemes.{SchemeView}}
use Rattle.sect_names.specs.{Order.{LockBefore}, Chains.{IsChain}}

-- a step stands before another: by its node, and at one node by the canonical order of locks
abbrev pub StepBefore : Link → Link → Type 0
StepBefore a b = (a.node < b.node) ⊎ ((a.node ≡ b.node) × LockBefore a.lock b.lock)

-- steps stand before others: where they are fewer; and where they are as many, by the last place at which they differ
abbrev pub StepsBefore : List Link → List Link → Type 0
StepsBefore xs [] = ⊥
StepsBefore [] (b ∷ ys) = ⊤
StepsBefore (a ∷ xs) (b ∷ ys) = StepsBefore xs ys ⊎ ((xs ≡ ys) × StepBefore a b)

-- the first chain of a lock: each other one is longer, or as long and stands behind it
pub record IsFirstChain (s : SchemeView) (t : ℕ) (last : List Lock) (g : List Node) (l : Lock) (chain : List Link)
    : Type 0
  where
    pub is : IsChain s t last g l chain
    pub first : (other : List Link) → IsChain s t last g l other → (other ≡ chain) ⊎ StepsBefore chain other

-- for each of these locks its first chain, in order
abbrev pub AreChains : SchemeView → ℕ → List Lock → List Node → List Lock → List (List Link) → Type 0
AreChains s t last g locks chains = AllZip (IsFirstChain s t last g) locks chains
