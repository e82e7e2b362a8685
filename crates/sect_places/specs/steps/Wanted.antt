-- Names of a text that are wanted.
use Rattle.std.specs.Prelude.{◌≡◌, ℕ, List}
use Rattle.sect_front.specs.TreeView.{TreeView}
use Rattle.sect_places.specs.{declared.name_use.NameSpan.{NameSpan}, NameSpans.{AreNameSpans}}
use Rattle.sect_places.specs.{declared.wish.Wish.{Wish}, Mattering.{wanted}}

-- these are the names that are wanted of the tree that the text spells
abbrev pub AreWanted : List ℕ → TreeView → Wish → List NameSpan → Type 0
AreWanted bytes tree which some = (names : List NameSpan) × AreNameSpans bytes tree names × (some ≡ wanted which names)
