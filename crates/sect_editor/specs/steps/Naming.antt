-- Names and spans that lie in a text.
use Rattle.std.specs.Prelude.{ℕ, List, All, Option, IfSome}
use Rattle.sect_front.specs.{FaultPlaces.{IsWithin}, declared.span.Span.{Span}}
use Rattle.sect_places.specs.declared.name_use.NameSpan.{NameSpan}

-- of so many bytes
abbrev pub IsNameWithin : ℕ → NameSpan → Type 0
IsNameWithin total n = IsWithin total n.span

abbrev pub AreNamesWithin : ℕ → List NameSpan → Type 0
AreNamesWithin total names = All (IsNameWithin total) names

abbrev pub AreSpansWithin : ℕ → List Span → Type 0
AreSpansWithin total spans = All (IsWithin total) spans

abbrev pub IsFoundWithin : ℕ → Option NameSpan → Type 0
IsFoundWithin total o = IfSome o (IsNameWithin total)
