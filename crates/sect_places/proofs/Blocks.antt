-- A text in blocks: how many begin, and where.
use Rattle.std.proofs.Common.{◌≡◌, ◌≤◌, ◌<◌, ◌+◌, ◌*◌, ◌/◌, ◌∙◌, ℕ, List, map, length, get_or, ap, arith}
use Rattle.std.proofs.lemmas.{List.{length-map}, List.FromFn.{length-map-range_with_len, get_or-map-range_with_len}}
use Rattle.std.{proofs.lemmas.Simd.{map-map}, specs.List.{range_with_len}}
use Rattle.sect_places.specs.{Positions.{position}, declared.position.Position.{Position}}
use Rattle.sect_places.specs.steps.Blocks.{block_bytes, block_starts}

pub many : (text : List ℕ) (starts : List Position) → starts ≡ map (position text) (block_starts (length text))
    → length starts ≡ length text / block_bytes + 1
many text starts are =
    ap length are ∙ length-map (block_starts (length text)) (position text)
    ∙ length-map-range_with_len (λ i. i * block_bytes) 0 (length text / block_bytes + 1)

-- where the block of a place begins
pub begins : (text : List ℕ) (starts : List Position) (at : ℕ) (d : Position) → at ≤ length text
    → starts ≡ map (position text) (block_starts (length text))
    → get_or starts (at / block_bytes) d ≡ position text (at / block_bytes * block_bytes)
begins text starts at d within are =
    let blocks : ℕ = length text / block_bytes + 1 in
    let block : at / block_bytes < blocks = omega (arith, within) in
    ap (λ l. get_or l (at / block_bytes) d)
    (are ∙ map-map (position text) (λ i. i * block_bytes) (range_with_len 0 blocks))
    ∙ get_or-map-range_with_len (λ i. position text (i * block_bytes)) 0 blocks _ _ d block (omega arith)

-- each begins in the text, or right behind it
pub within : (text places : List ℕ) → places ≡ block_starts (length text) → (k d : ℕ) → k < length places
    → get_or places k d ≤ length text
within text places are k d below =
    let blocks : ℕ = length text / block_bytes + 1 in
    let all : length places ≡ blocks = ap length are ∙ length-map-range_with_len (λ i. i * block_bytes) 0 blocks in
    let block : k < blocks = omega (arith, below, all) in
    let there : get_or places k d ≡ k * block_bytes =
    ap (λ l. get_or l k d) are
    ∙ get_or-map-range_with_len (λ i. i * block_bytes) 0 blocks k k d block (omega arith) in
    omega (arith, there, block)
