-- Where the names of a text stand.
use Rattle.std.specs.Prelude.{◌≡◌, ℕ, List, map, filter, length}
use Rattle.sect_front.specs.{TreeView.{TreeView}, TokenAt.{TokenAt}, Front.{IsSpelled}, FaultPlaces.{token_span}}
use Rattle.sect_front.specs.NameTokens.{is_name_token}
use Rattle.sect_places.specs.{declared.name_use.NameSpan.{NameSpan}, NameUses.{name_uses}, Spans.{AreProper}}
use Rattle.sect_front.specs.declared.token.Token.TheVariants as token

-- the names of a text, with their places
abbrev pub names_among : List TokenAt → List TokenAt
names_among places = filter (λ p. is_name_token p.token) places

-- the text spells the tree, and these are all its names, in text order
pub record AreNameSpans (bytes : List ℕ) (tree : TreeView) (names : List NameSpan) : Type 0 where
  pub spelled : IsSpelled bytes tree
  -- each has the bytes of the text's name of that number
  pub spans : map (λ n. n.span) names ≡ map token_span (names_among spelled.places)
  -- and is the name that is spelled there
  pub named : map (λ n. token.Name n.used.name) names ≡ map (λ p. p.token) (names_among spelled.places)
  -- it stands in that item, and does that there
  pub uses : map (λ n. n.used) names ≡ name_uses tree
  -- it has a byte at least, and lies in the text
  pub proper : AreProper (length bytes) (map (λ n. n.span) names)

-- these are the names of the tree that the text spells
abbrev pub HasNameSpans : List ℕ → List NameSpan → Type 0
HasNameSpans bytes names = (tree : TreeView) × AreNameSpans bytes tree names
