-- A text cut into stretches.
use Rattle.std.proofs.Common.{◌≡◌, ◌∙◌, ℕ, Bool, true, false, List, [], ◌∷◌, ◌++◌, take, drop, ap, sym, refl}
use Rattle.std.proofs.lemmas.List.{append_assoc, append-nil, take-append-drop}
use Rattle.std.proofs.lemmas.Grind.{flat_map-append}
use Rattle.std.specs.{Prelude.{◌==◌, if◌then◌else◌}, List.{flat_map}}
use Rattle.sect_paint.specs.{declared.style.Style.{Style}, declared.looks.Kind.{Kind}, declared.looks.Look.{Look}}
use Rattle.sect_paint.specs.Painting.{Stretch, bytes_of, line_stretches, stretch, stretches}
use Rattle.sect_paint.specs.{Looks.{looks}, declared.style.Style.TheVariants.{Plain}}

-- the stretches of a line are the line
pub line_whole : (l : Look) (line : List ℕ) → flat_map bytes_of (line_stretches l line) ≡ line
line_whole l line =
    let behind = drop l.margin line in
    let rest = drop l.gap behind in
    ap (λ r. take l.margin line ++ r)
    (ap (λ r. take l.gap behind ++ r)
    (ap (λ r. take l.mark rest ++ r) (append-nil (drop l.mark rest)) ∙ take-append-drop l.mark rest)
    ∙ take-append-drop l.gap behind)
    ∙ take-append-drop l.margin line

module _ (of : Kind) (tone : Style) where
  -- and those of a text are the line that has begun, and the text
  pub text_whole : (line text : List ℕ) → flat_map bytes_of (stretches of tone line text) ≡ line ++ text
  text_whole line [] = line_whole (looks of tone line) line ∙ sym (append-nil line)
  text_whole line (byte ∷ text) =
      go (byte == 10) (text_whole [] text) (text_whole (line ++ byte ∷ []) text)
    where
      ends : List Stretch
      ends = line_stretches (looks of tone line) line ++ stretch Plain (byte ∷ []) ∷ stretches of tone [] text

      go : (b : Bool) → flat_map bytes_of (stretches of tone [] text) ≡ text
          → flat_map bytes_of (stretches of tone (line ++ byte ∷ []) text) ≡ (line ++ byte ∷ []) ++ text
          → flat_map bytes_of (if b then ends else stretches of tone (line ++ byte ∷ []) text) ≡ line ++ byte ∷ text
      go true next more =
          flat_map-append bytes_of (line_stretches (looks of tone line) line)
          (stretch Plain (byte ∷ []) ∷ stretches of tone [] text)
          ∙ ap (λ r. r ++ byte ∷ flat_map bytes_of (stretches of tone [] text)) (line_whole (looks of tone line) line)
          ∙ ap (λ r. line ++ byte ∷ r) next
      go false next more = more ∙ append_assoc line (byte ∷ []) text
