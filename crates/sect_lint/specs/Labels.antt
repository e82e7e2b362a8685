-- What is said of types and numbers, with the text's own words.
use Rattle.std.specs.Prelude.{ℕ, ◌-◌, ◌==◌, ◌||◌, Bool, if◌then◌else◌, List, [], ◌∷◌, ◌++◌, take, drop, codes}
use Rattle.std.specs.Prelude.{length, nat_lt, ⊤}
use Rattle.std.specs.{List.{flat_map}, Fmt.{decimal}}
use Rattle.sect_front.specs.{FaultPlaces.{IsWithin}, declared.span.Span.{Span}}
use Rattle.sect_lint.specs.{Excerpts.{shown, dots, quotable}, declared.diagnostic.Shape.{Shape}}
use Rattle.sect_lint.specs.declared.diagnostic.Typed.{Typed}
use Rattle.sect_lint.specs.declared.diagnostic.Counts.{Counts}
use Rattle.sect_lint.specs.declared.diagnostic.Shape.TheVariants as shape

-- the bytes of a text that a span has
abbrev pub bytes_of : List ℕ → Span → List ℕ
bytes_of source span = take (span.end - span.start) (drop span.start source)

-- they are a part of a text of so many bytes
abbrev pub IsShapeWithin : ℕ → Shape → Type 0
IsShapeWithin total (shape.Reference span) = IsWithin total span
IsShapeWithin total _ = ⊤

abbrev pub IsTypedWithin : ℕ → Typed → Type 0
IsTypedWithin total t = IsWithin total t.span × IsShapeWithin total t.shape

-- of some bytes the first line, as far as it may be shown, and that more stand behind it
abbrev pub quote : List ℕ → List ℕ
quote bytes =
    codes "`" ++ flat_map shown (quotable bytes) ++ dots (nat_lt (length (quotable bytes)) (length bytes)) (codes "...")
    ++ codes "`"

abbrev pub quoted : List ℕ → Span → List ℕ
quoted source span = quote (bytes_of source span)

-- A, E, I, O, U, and these in small letters
abbrev pub is_vowel : ℕ → Bool
is_vowel b =
    b == 65 || (b == 69 || (b == 73 || (b == 79 || (b == 85 || (b == 97 || (b == 101 || (b == 105 || (b == 111
    || b == 117))))))))

-- before a vowel `an`
abbrev pub article : List ℕ → List ℕ
article [] = codes "a "
article (b ∷ bs) = if is_vowel b then codes "an " else codes "a "

abbrev pub reference_text : List ℕ → List ℕ
reference_text name = codes " refers to " ++ article name ++ flat_map shown name

abbrev pub shape_text : List ℕ → Shape → List ℕ
shape_text source shape.Int = codes " is an int"
shape_text source shape.Null = codes " is a reference"
shape_text source (shape.Reference span) = reference_text (bytes_of source span)
shape_text source shape.Global = codes " is a global"

-- a part of the text and what it is
abbrev pub typed_text : List ℕ → Typed → List ℕ
typed_text source t = quoted source t.span ++ shape_text source t.shape

abbrev pub types_text : List ℕ → Typed → Typed → List ℕ
types_text source a b = typed_text source a ++ codes ", " ++ typed_text source b

-- how many arguments a call gives, and how many the procedure takes
abbrev pub counts_text : List ℕ → Counts → List ℕ
counts_text source c =
    decimal c.arguments ++ codes " given, " ++ quoted source c.procedure ++ codes " takes " ++ decimal c.parameters
