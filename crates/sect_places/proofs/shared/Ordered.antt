-- The bytes of tokens in a row lie in the text, and there are some.
use Rattle.std.proofs.Common.{ℕ, zero, suc, ◌+◌, ◌-◌, ◌<◌, ◌≤◌, List, [], ◌∷◌, length, map, get_or, arith, take, drop}
use Rattle.sect_front.specs.declared.span.Span.{Span}
use Rattle.sect_places.specs.{declared.range.TokenRange.{TokenRange}, Ranges.{AreAmong}}
use Rattle.sect_places.specs.Spans.{AreInOrder, IsProper, AreProper, span_in, no_span}

-- the first byte of a token, and the one behind its last
abbrev start_of : List Span → ℕ → ℕ
start_of ss i = (get_or ss i no_span).start

abbrev end_of : List Span → ℕ → ℕ
end_of ss i = (get_or ss i no_span).end

end_fits : (from total : ℕ) (ss : List Span) (j : ℕ) → AreInOrder from total ss → j < length ss
    → (from < end_of ss j) × (end_of ss j ≤ total)
end_fits from total [] j h lt = absurd (omega (arith, lt))
end_fits from total (s ∷ ss) zero h lt = (omega (arith, h.0, h.1), h.2)
end_fits from total (s ∷ ss) (suc j) h lt =
    let r = end_fits s.end total ss j h.3 (omega (arith, lt)) in
    (omega (arith, h.0, h.1, r.0), r.1)

start_first : (from total : ℕ) (ss : List Span) (i j : ℕ) → AreInOrder from total ss → i ≤ j → j < length ss
    → start_of ss i < end_of ss j
start_first from total [] i j h le lt = absurd (omega (arith, lt))
start_first from total (s ∷ ss) zero zero h le lt = omega (arith, h.1)
start_first from total (s ∷ ss) zero (suc j) h le lt =
    omega (arith, h.1, (end_fits s.end total ss j h.3 (omega (arith, lt))).0)
start_first from total (s ∷ ss) (suc i) zero h le lt = absurd (omega (arith, le))
start_first from total (s ∷ ss) (suc i) (suc j) h le lt =
    start_first s.end total ss i j h.3 (omega (arith, le)) (omega (arith, lt))

pub span_proper : (total : ℕ) (ss : List Span) (r : TokenRange) → AreInOrder 0 total ss → 0 < r.count
    → r.first + r.count ≤ length ss → IsProper total (span_in ss r)
span_proper total ss r h some within = (
  start_first 0 total ss r.first (r.first + r.count - 1) h (omega (arith, some)) (omega (arith, some, within)),
  (end_fits 0 total ss (r.first + r.count - 1) h (omega (arith, some, within))).1,
)

pub spans_proper : (total : ℕ) (ss : List Span) (rs : List TokenRange) → AreInOrder 0 total ss
    → AreAmong (length ss) rs → AreProper total (map (span_in ss) rs)
spans_proper total ss [] h k = tt
spans_proper total ss (r ∷ rs) h k = (span_proper total ss r h k.0 k.1, spans_proper total ss rs h k.2)

-- each of the ranges has a token, and all of them are among so many
pub range_among : (total : ℕ) (rs : List TokenRange) (i : ℕ) (d : TokenRange) → AreAmong total rs → i < length rs
    → (0 < (get_or rs i d).count) × ((get_or rs i d).first + (get_or rs i d).count ≤ total)
range_among total [] i d h lt = absurd (omega (arith, lt))
range_among total (r ∷ rs) zero d h lt = (h.0, h.1)
range_among total (r ∷ rs) (suc i) d h lt = range_among total rs i d h.2 (omega (arith, lt))

-- what stands in order from a place on stands in order from an earlier one on
pub lower : (low from total : ℕ) (ss : List Span) → low ≤ from → AreInOrder from total ss → AreInOrder low total ss
lower low from total [] le h = tt
lower low from total (s ∷ ss) le h = (omega (arith, le, h.0), h.1, h.2, h.3)

-- those of some of them, one after another, lie so too
order_first : (from total n : ℕ) (ss : List Span) → AreInOrder from total ss → AreInOrder from total (take n ss)
order_first from total zero ss h = tt
order_first from total (suc n) [] h = tt
order_first from total (suc n) (s ∷ ss) h = (h.0, h.1, h.2, order_first s.end total n ss h.3)

pub order_within : (from total n k : ℕ) (ss : List Span) → AreInOrder from total ss
    → AreInOrder 0 total (take n (drop k ss))
order_within from total n zero ss h = lower 0 from total (take n ss) (omega arith) (order_first from total n ss h)
order_within from total zero (suc k) [] h = tt
order_within from total (suc n) (suc k) [] h = tt
order_within from total n (suc k) (s ∷ ss) h = order_within s.end total n k ss h.3
