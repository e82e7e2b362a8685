-- The bytes of tokens that follow one another.
use Rattle.std.specs.Prelude.{◌<◌, ◌≤◌, ℕ, ◌+◌, ◌-◌, List, [], ◌∷◌, get_or, ⊤}
use Rattle.sect_front.specs.declared.span.Span.{Span}
use Rattle.sect_places.specs.declared.range.TokenRange.{TokenRange}

-- each has a byte at least, all of them lie in a text of so many bytes, and each lies behind the one before it, the
-- first from this place on
abbrev pub AreInOrder : ℕ → ℕ → List Span → Type 0
AreInOrder from total [] = ⊤
AreInOrder from total (s ∷ ss) =
    (from ≤ s.start) × (s.start < s.end) × (s.end ≤ total) × AreInOrder s.end total ss

-- it has a byte at least, and lies in a text of so many
abbrev pub IsProper : ℕ → Span → Type 0
IsProper total s = (s.start < s.end) × (s.end ≤ total)

abbrev pub AreProper : ℕ → List Span → Type 0
AreProper total [] = ⊤
AreProper total (s ∷ ss) = IsProper total s × AreProper total ss

abbrev pub no_span : Span
no_span = record { start = 0; end = 0 }

-- from the first byte of a range's first token to the last byte of its last, where these are the bytes of all tokens
abbrev pub span_in : List Span → TokenRange → Span
span_in tokens r = record {
  start = (get_or tokens r.first no_span).start;
  end = (get_or tokens (r.first + r.count - 1) no_span).end;
}
