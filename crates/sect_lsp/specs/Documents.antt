-- The documents that are open.
use Rattle.std.specs.{Prelude.{ℕ, not, if◌then◌else◌, List, [], ◌∷◌, ◌++◌, filter, Option, Some, None}, Str.{bytes_eq}}

-- a document: its name and its text
pub record DocumentView : Type 0 where
  pub uri : List ℕ
  pub text : List ℕ

-- the text of the document of this name, if it is open
abbrev pub text_of : List ℕ → List DocumentView → Option (List ℕ)
text_of uri [] = None
text_of uri (d ∷ ds) = if bytes_eq d.uri uri then Some d.text else text_of uri ds

-- the others
abbrev pub closed : List ℕ → List DocumentView → List DocumentView
closed uri ds = filter (λ d. not (bytes_eq d.uri uri)) ds

-- with this text under this name
abbrev pub opened : List ℕ → List ℕ → List DocumentView → List DocumentView
opened uri text ds = closed uri ds ++ record { uri = uri; text = text } ∷ []
