-- Where the mistake of a source text stands. `put_mistake_place` cites it.
use Rattle.std.specs.Prelude.{◌≡◌, ◌<◌, ◌⊎◌, ◌++◌, ℕ, List, codes}
use Rattle.sect_names.specs.{Schemes.{SchemeView}, Sources.{IsAccepted}}
use Rattle.sect_lint.specs.{declared.diagnostic.Diagnostic.{Diagnostic}, Details.{place_text}, Reports.{IsRefusedFor}}

-- the line and the column of a place, each counted from 1
abbrev pub place_mark : List ℕ → ℕ → List ℕ
place_mark source at = codes ":" ++ place_text source at

-- the text is judged and found without a mistake, or no path may have so many fields
abbrev pub HasNoMistake : List ℕ → ℕ → Type 0
HasNoMistake source k = ((s : SchemeView) × IsAccepted source k s) ⊎ (3 < k)

-- the place of the mistake for which the text is refused is added to these bytes; where there is none, nothing is
abbrev pub AddsPlace : List ℕ → ℕ → List ℕ → List ℕ → Type 0
AddsPlace source k old new =
    ((d : Diagnostic) × IsRefusedFor source k d × (new ≡ old ++ place_mark source d.span.start))
    ⊎ ((new ≡ old) × HasNoMistake source k)
