-- Tokens in a row, of which the first are kept and the others counted.
use Rattle.std.specs.Prelude.{◌≡◌, ℕ, ◌+◌, Bool, true, false, List, length, filter, take, drop, get_or}
use Rattle.sect_front.specs.{declared.span.Span.{Span}, declared.token.Token.{Token}}
use Rattle.sect_places.specs.Spans.{no_span}
use Rattle.sect_front.specs.declared.token.Token.TheVariants as token

-- a name, an integer or `null`
abbrev pub is_value : Token → Bool
is_value (token.Number v) = true
is_value token.Null = true
is_value (token.Name x) = true
is_value _ = false

-- the values among tokens
abbrev pub values_in : List Token → ℕ
values_in tokens = length (filter is_value tokens)

-- of these tokens, which have these bytes, the first four are kept with theirs, the values behind the first two are
-- counted, and of the last the bytes are told
pub record IsOpening (tokens : List Token) (spans : List Span) (kept : List Token) (bytes : List Span) (values : ℕ)
    (last : Span) : Type 0
  where
    pub many : length spans ≡ length tokens
    pub first : kept ≡ take 4 tokens
    pub places : bytes ≡ take 4 spans
    pub others : values ≡ values_in (drop 2 tokens)
    pub end : (k : ℕ) → k + 1 ≡ length spans → last ≡ get_or spans k no_span
