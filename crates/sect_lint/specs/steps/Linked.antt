-- Calls between procedures by number, where these are the names by which procedures are declared.
use Rattle.std.specs.Prelude.{◌≡◌, ◌<◌, ℕ, true, List, Option, Some, slice_get}
use Rattle.sect_lemmas.specs.Lists.{Has}
use Rattle.sect_places.specs.{Declarations.{is_called, is_procedure}, declared.name_use.NameSpan.{NameSpan}}
use Rattle.sect_lint.specs.{Calls.{is_call_in}, declared.circle.Link.{Link}}

-- the call stands in the one procedure and calls the other
pub record IsLink (declared : List NameSpan) (l : Link) : Type 0 where
  pub caller : NameSpan
  pub from : slice_get declared l.from ≡ Some caller
  pub stands : is_call_in caller.used.item l.call ≡ true
  pub called : NameSpan
  pub to : slice_get declared l.to ≡ Some called
  pub named : is_called is_procedure l.call.used.name called ≡ true

-- each of these does, by one of these names
abbrev pub AreLinks : List NameSpan → List NameSpan → List Link → Type 0
AreLinks names declared links = (l : Link) → Has links l → Has names l.call × IsLink declared l

-- they are between so many procedures
abbrev pub AreBelow : ℕ → List Link → Type 0
AreBelow count links = (l : Link) → Has links l → (l.from < count) × (l.to < count)

-- for each procedure one of these calls that stands in it, where one is given
abbrev pub AreNext : List Link → List (Option Link) → Type 0
AreNext links next = (q : ℕ) (l : Link) → slice_get next q ≡ Some (Some l) → Has links l × (l.from ≡ q)
