-- What follows a comment: all behind its first line feed.
use Rattle.std.proofs.Common.{◌≡◌, ℕ, zero, suc, ◌<◌, true, false, not, List, [], ◌∷◌, length, drop, ◌==◌, refl, sym}
use Rattle.std.proofs.{Common.{ap, ◌∙◌, arith}, lemmas.Bool.{false_from_ne_true}}
use Rattle.memchr.specs.Find.{is_byte, Passes, Nowhere}
use Rattle.sect_front.specs.Gaps.{skip, line_feed}

-- the first line feed is found
pub feed_found : (bytes : List ℕ) (at : ℕ) → at < length bytes → Nowhere (Passes (is_byte line_feed) bytes) 0 at
    → Passes (is_byte line_feed) bytes at → skip false (drop (suc at) bytes) ≡ skip true bytes
feed_found [] at within none here = absurd (omega (arith, within))
feed_found (b ∷ bytes) zero within none here = sym (ap (λ is. skip (not is) bytes) here)
feed_found (b ∷ bytes) (suc at) within none here =
    feed_found bytes at (omega (arith, within)) (λ k low high. none (suc k) (omega arith) (omega (arith, high))) here
    ∙ sym (ap (λ is. skip (not is) bytes) (false_from_ne_true (b == line_feed) (none 0 (omega arith) (omega arith))))

-- no line feed is found
pub feed_missing : (bytes : List ℕ) → Nowhere (Passes (is_byte line_feed) bytes) 0 (length bytes)
    → skip false [] ≡ skip true bytes
feed_missing [] none = refl
feed_missing (b ∷ bytes) none =
    feed_missing bytes (λ k low high. none (suc k) (omega arith) (omega (arith, high)))
    ∙ sym (ap (λ is. skip (not is) bytes) (false_from_ne_true (b == line_feed) (none 0 (omega arith) (omega arith))))
