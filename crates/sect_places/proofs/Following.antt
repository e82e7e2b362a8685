-- The tokens of a text lie behind one another.
use Rattle.std.proofs.Common.{◌≡◌, ℕ, ◌+◌, ◌-◌, List, [], ◌∷◌, length, drop, map, sym, ◌∙◌, ap, arith, length-drop}
use Rattle.std.proofs.lemmas.List.{length-take-le}
use Rattle.sect_front.specs.{TokenAt.{TokenAt}, Gaps.{after_gap}, Lexing.{Reaches}, Spelling.{spelling_of}}
use Rattle.sect_front.specs.FaultPlaces.{token_span}
use Rattle.sect_front.proofs.shared.Lexings.{gap_fits}
use Rattle.sect_places.specs.Spans.{AreInOrder}

pub in_order : (total : ℕ) (bytes : List ℕ) (ps : List TokenAt) (rest : List ℕ) (from : ℕ)
    → Reaches total bytes ps rest → from + length bytes ≡ total → AreInOrder from total (map token_span ps)
in_order total bytes [] rest from h e = tt
in_order total bytes (p ∷ ps) rest from h e =
    let f = h.2 in
    let n : length (spelling_of p.token) ≡ h.0 =
    sym (ap length f.spells.is) ∙ length-take-le h.0 (after_gap bytes) f.within in
    let left : length (drop h.0 (after_gap bytes)) ≡ length (after_gap bytes) - h.0 =
    length-drop h.0 (after_gap bytes) in (
      omega (arith, h.1, e, gap_fits bytes),
      omega (arith, n, f.some),
      omega (arith, n, h.1, f.within),
      in_order total (drop h.0 (after_gap bytes)) ps rest (p.at + length (spelling_of p.token)) h.3
          (omega (arith, n, h.1, f.within, left)),
    )
