-- Gaps of a text that are passed at once.
use Rattle.std.specs.Prelude.{◌≡◌, ◌≤◌, ℕ, List, All, length, drop}
use Rattle.sect_front.specs.{Gaps.{after_gap}, declared.span.Span.{Span}}

-- these are the text's last bytes
abbrev pub IsRestOf : List ℕ → List ℕ → Type 0
IsRestOf bytes here = (at : ℕ) × (drop at bytes ≡ here)

-- the blanks and comments from the first of these bytes on end behind the last one
abbrev pub IsGap : List ℕ → Span → Type 0
IsGap bytes gap =
    (gap.start ≤ gap.end) × (gap.end ≤ length bytes) × (after_gap (drop gap.start bytes) ≡ drop gap.end bytes)

-- each of these is a gap of the text; not every one of its gaps need be among them
abbrev pub AreGaps : List ℕ → List Span → Type 0
AreGaps bytes gaps = All (IsGap bytes) gaps
