-- Values of JSON, and the text of a document. Every document is defined by these words.
use Rattle.std.specs.Prelude.{◌≡◌, ℕ, ℤ, ◌+◌, List, [], ◌∷◌, ◌++◌, Some, codes, length, slice_get}
use Rattle.serde_json.specs.Data.{Data, number, array, object, unsigned, Members, no_members, member}
use Rattle.serde_json.specs.{Find.{of_integer}, View.{items_of}, Written.{compact_text}}

-- a number that counts something, or by which it is called
abbrev pub count : ℕ → Data
count n = number (unsigned n)

-- a number with its sign
abbrev pub integer : ℤ → Data
integer z = number (of_integer z)

abbrev pub list : List Data → Data
list values = array (items_of values)

-- the values of the elements, each by its place, where the first has place n
abbrev pub by_place : {A : Type 0} → (ℕ → A → Data) → ℕ → List A → List Data
by_place of n [] = []
by_place of n (x ∷ xs) = of n x ∷ by_place of (n + 1) xs

-- the same where each element has several
abbrev pub all_by_place : {A : Type 0} → (ℕ → A → List Data) → ℕ → List A → List Data
all_by_place of n [] = []
all_by_place of n (x ∷ xs) = of n x ++ all_by_place of (n + 1) xs

-- the members of these names, one behind the other
abbrev pub members : List (List ℕ × Data) → Members
members [] = no_members
members (m ∷ ms) = member m.0 m.1 (members ms)

-- an object of these members, which stand in the order of their names
abbrev pub record_of : List (List ℕ × Data) → Data
record_of ms = object (members ms)

-- a document is its value without blanks, and a line feed
abbrev pub document_text : Data → List ℕ
document_text value = compact_text value ++ codes "\n"

-- these are so many values, each told so by its number
pub record AreTold (IsSo : ℕ → Data → Type 0) (n : ℕ) (values : List Data) : Type 0 where
  pub many : length values ≡ n
  pub each : (i : ℕ) (value : Data) → slice_get values i ≡ Some value → IsSo i value
