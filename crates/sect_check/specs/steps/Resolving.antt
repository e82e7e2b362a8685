-- The search for what the names of a certificate stand for.
use Rattle.std.specs.Prelude.{◌≡◌, ℕ, ◌+◌, ⊤, List, take, Option, Some, None, Result, Ok, Err, slice_get}
use Rattle.std.specs.List.{AllZip}
use Rattle.sect_types.specs.Sections.{SectionView}
use Rattle.sect_graph.specs.declared.flow.Node.{Node}
use Rattle.sect_names.specs.Schemes.{SchemeView}
use Rattle.sect_cert.specs.declared.certificate.CertSection.{CertSection}
use Rattle.sect_check.specs.{declared.claims.Claims.{Claims}, declared.unresolved.Unresolved.{Unresolved}}
use Rattle.sect_check.specs.declared.unresolved.Unresolved.TheVariants.{Memory, Wrong}
use Rattle.sect_check.specs.Meaning.{IsSectionAt, DenotesSection}

-- an accepted program, and the thread whose names are looked up
pub record NamingView : Type 0 where
  pub scheme : SchemeView
  pub thread : ℕ

-- what is so related is given; or it is refused, and there is nothing of the kind
abbrev pub Resolves : {A : Type 0} → Result A Unresolved → (A → Type 0) → Type 0
Resolves (Ok x) R = R x
Resolves {A} (Err Wrong) R = (y : A) → R y → ⊥
Resolves (Err Memory) R = ⊤

-- each of so many elements has one that is so related to it, the last too; or it is refused, and there are none for all
abbrev pub Extends :
    {A B C : Type 0} → (A → B → Type 0) → List A → ℕ → List B → Result C Unresolved → Type 0
Extends R xs n ys (Ok x) = AllZip R (take (n + 1) xs) ys
Extends {B} R xs n ys (Err Wrong) = (zs : List B) → AllZip R xs zs → ⊥
Extends R xs n ys (Err Memory) = ⊤

-- the answer to a search among names: what is found, or that there is nothing
abbrev pub Finds : {A : Type 0} → Result A Unresolved → Option A → Type 0
Finds (Ok x) found = found ≡ Some x
Finds (Err Wrong) found = found ≡ None
Finds (Err Memory) found = ⊤

-- what a certificate says of the section of this number
abbrev pub DenotesAt : SchemeView → List CertSection → ℕ → Claims → Type 0
DenotesAt s sections i c =
    (of : SectionView) (g : List Node) (x : CertSection) → IsSectionAt s i of g → slice_get sections i ≡ Some x
    → DenotesSection s of.thread g x c
