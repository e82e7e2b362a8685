-- How a stretch of a text is painted: between two escape sequences, that of its style and that which ends all styles.
use Rattle.std.specs.Prelude.{◌≡◌, ℕ, List, [], ◌∷◌, ◌++◌, codes}
use Rattle.sect_paint.specs.declared.style.Style.{Style}
use Rattle.sect_paint.specs.declared.style.Style.TheVariants.{Plain, Heading, Error, Warning, Frame, Read, Write, Make}

-- the escape sequence of this number
abbrev pub sequence : List ℕ → List ℕ
sequence number = 27 ∷ codes "[" ++ number ++ codes "m"

-- bold; bold and red, yellow or blue; green, magenta or cyan
abbrev pub begun : Style → List ℕ
begun Plain = []
begun Heading = sequence (codes "1")
begun Error = sequence (codes "1;31")
begun Warning = sequence (codes "1;33")
begun Frame = sequence (codes "1;34")
begun Read = sequence (codes "32")
begun Write = sequence (codes "35")
begun Make = sequence (codes "36")

abbrev pub ended : Style → List ℕ
ended Plain = []
ended style = sequence (codes "0")

abbrev pub painted : Style → List ℕ → List ℕ
painted style stretch = begun style ++ stretch ++ ended style
