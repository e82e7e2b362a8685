-- A text that is painted. `painted` cites it.
use Rattle.std.specs.{Prelude.{◌≡◌, ℕ, ◌==◌, if◌then◌else◌, List, [], ◌∷◌, ◌++◌, take, drop}, List.{flat_map}}
use Rattle.sect_paint.specs.{declared.style.Style.{Style}, declared.style.Style.TheVariants.{Plain}}
use Rattle.sect_paint.specs.{declared.looks.Kind.{Kind}, declared.looks.Look.{Look}, Looks.{looks, tone}}
use Rattle.sect_paint.specs.Styles.{painted}

-- some bytes in one style
pub record Stretch : Type 0 where
  pub style : Style
  pub bytes : List ℕ

abbrev pub stretch : Style → List ℕ → Stretch
stretch style bytes = record { style = style; bytes = bytes }

abbrev pub bytes_of : Stretch → List ℕ
bytes_of s = s.bytes

abbrev pub painted_bytes : Stretch → List ℕ
painted_bytes s = painted s.style s.bytes

-- the stretches of a line that looks so
abbrev pub line_stretches : Look → List ℕ → List Stretch
line_stretches l line =
    let behind = drop l.margin line in
    let rest = drop l.gap behind in
    stretch l.frame (take l.margin line) ∷ stretch Plain (take l.gap behind) ∷ stretch l.style (take l.mark rest)
    ∷ stretch Plain (drop l.mark rest) ∷ []

-- the stretches of a text line by line, where these bytes of its first line stand before it
abbrev pub stretches : Kind → Style → List ℕ → List ℕ → List Stretch
stretches of tone line [] = line_stretches (looks of tone line) line
stretches of tone line (byte ∷ text) =
    if byte == 10 then line_stretches (looks of tone line) line ++ stretch Plain (byte ∷ []) ∷ stretches of tone [] text
    else stretches of tone (line ++ byte ∷ []) text

abbrev pub text_stretches : Kind → List ℕ → List Stretch
text_stretches of text = stretches of (tone text) [] text

-- a text of this kind, each of its stretches painted
abbrev pub painted_text : Kind → List ℕ → List ℕ
painted_text of text = flat_map painted_bytes (text_stretches of text)
