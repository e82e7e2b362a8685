-- The column of a place, by the last line feed before it.
use Rattle.std.proofs.Common.{◌≡◌, ℕ, zero, suc, ◌+◌, ◌-◌, ◌<◌, List, [], ◌∷◌, length, fold, ◌==◌, ap, arith}
use Rattle.std.proofs.{Common.{if◌then◌else◌}, lemmas.Bool.{false_from_ne_true}}
use Rattle.memchr.specs.Find.{is_byte, Passes, Nowhere}
use Rattle.sect_front.specs.Gaps.{line_feed}
use Rattle.sect_places.specs.Positions.{next_column}

-- bytes without a line feed each move on by one
pub no_feed : (column : ℕ) (bytes : List ℕ) → Nowhere (Passes (is_byte line_feed) bytes) 0 (length bytes)
    → fold next_column column bytes ≡ column + length bytes
no_feed column [] none = omega arith
no_feed column (b ∷ bs) none =
    let one : next_column column b ≡ column + 1 =
    ap (λ is. if is then 1 else column + 1) (false_from_ne_true (b == line_feed)
    (none 0 (omega arith) (omega arith))) in
    let rest = no_feed (next_column column b) bs (λ k low high. none (suc k) (omega arith) (omega (arith, high))) in
    omega (arith, one, rest)

-- behind the last one they begin anew
pub last_feed : (column : ℕ) (bytes : List ℕ) (at : ℕ) → at < length bytes
    → Nowhere (Passes (is_byte line_feed) bytes) (at + 1) (length bytes) → Passes (is_byte line_feed) bytes at
    → fold next_column column bytes ≡ length bytes - at
last_feed column [] at within none here = absurd (omega (arith, within))
last_feed column (b ∷ bs) zero within none here =
    let first : next_column column b ≡ 1 = ap (λ is. if is then 1 else column + 1) here in
    let rest = no_feed (next_column column b) bs (λ k low high. none (suc k) (omega arith) (omega (arith, high))) in
    omega (arith, first, rest)
last_feed column (b ∷ bs) (suc at) within none here =
    let rest = last_feed (next_column column b) bs at (omega (arith, within))
    (λ k low high. none (suc k) (omega (arith, low)) (omega (arith, high))) here in
    omega (arith, rest)
