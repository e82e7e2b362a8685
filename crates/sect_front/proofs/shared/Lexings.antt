-- A text is one list of tokens, or has one first bad lexeme.
use Rattle.std.proofs.Common.{◌≡◌, ℕ, suc, ◌≤◌, Bool, true, false, not, ◌&&◌, cond, eqb, List, [], ◌∷◌, Some, length}
use Rattle.std.proofs.Common.{drop, refl, sym, ◌∙◌, ap, subst, arith}
use Rattle.sect_front.specs.Gaps.{begins_with, after_gap, skip, is_blank}
use Rattle.sect_front.specs.{Lexing.{IsFirst, IsBad, Reaches, Spells, IsBadAt}, TokenAt.{TokenAt}}
use Rattle.sect_front.proofs.Lexemes.{lexeme_only, pair}
use Rattle.sect_lemmas.proofs.Options.{some_injective}

skip_fits : (c : Bool) (bytes : List ℕ) → length (skip c bytes) ≤ length bytes
skip_fits c [] = omega arith
skip_fits c (b ∷ bs) = go c (is_blank b) (eqb b 47 && begins_with 47 bs) (skip_fits (not (eqb b 10)) bs)
    (skip_fits false bs) (skip_fits true bs)
  where
    go : (c d e : Bool) → length (skip (not (eqb b 10)) bs) ≤ length bs → length (skip false bs) ≤ length bs
        → length (skip true bs) ≤ length bs →
        length (cond c (skip (not (eqb b 10)) bs) (cond d (skip false bs) (cond e (skip true bs) (b ∷ bs)))) ≤ suc
        (length bs)
    go true d e h k l = omega arith
    go false true e h k l = omega arith
    go false false true h k l = omega arith
    go false false false h k l = omega arith

pub gap_fits : (bytes : List ℕ) → length (after_gap bytes) ≤ length bytes
gap_fits bytes = skip_fits false bytes

-- one text is one list of tokens
same_reach : (total : ℕ) (bytes : List ℕ) (ps qs : List TokenAt) (r s : List ℕ) → Reaches total bytes ps r
    → Reaches total bytes qs s →
    IsBad (after_gap r) → IsBad (after_gap s) → (ps ≡ qs) × (r ≡ s)
same_reach total bytes [] [] r s h k x y = (refl, sym h ∙ k)
same_reach total bytes [] (q ∷ qs) r s h k x y =
    absurd (x q.token k.0 (subst (λ b. IsFirst q.token k.0 (after_gap b)) h k.2))
same_reach total bytes (p ∷ ps) [] r s h k x y =
    absurd (y p.token h.0 (subst (λ b. IsFirst p.token h.0 (after_gap b)) k h.2))
same_reach total bytes (p ∷ ps) (q ∷ qs) r s h k x y =
    let e : Some (pair p.token h.0) ≡ Some (pair q.token k.0) = sym (lexeme_only _ p.token h.0 h.2)
    ∙ lexeme_only _ q.token k.0 k.2 in
    let one : pair p.token h.0 ≡ pair q.token k.0 = some_injective (pair p.token h.0) (pair q.token k.0) e in
    let place : p.at ≡ q.at = omega (arith, h.1, k.1) in
    let len : k.0 ≡ h.0 = sym (ap (λ z. z.1) one) in
    let rest = same_reach total (drop h.0 (after_gap bytes)) ps qs r s h.3
    (subst (λ n. Reaches total (drop n (after_gap bytes)) qs s) len k.3) x y in
    (λ i. record { token = (one i).0; at = place i } ∷ rest.0 i, rest.1)

nothing_bad : (bytes : List ℕ) → bytes ≡ [] → IsBad bytes
nothing_bad bytes e t n f = omega (arith, f.within, f.some, ap length e)

pub one_lexing : (bytes : List ℕ) (ps qs : List TokenAt) → Spells bytes ps → Spells bytes qs → ps ≡ qs
one_lexing bytes ps qs h k = (same_reach (length bytes) bytes ps qs h.0 k.0 h.1 k.1 (nothing_bad _ h.2)
    (nothing_bad _ k.2)).0

pub bad_or_lexed : (bytes : List ℕ) (at : ℕ) (qs : List TokenAt) → IsBadAt bytes at → Spells bytes qs → ⊥
bad_or_lexed bytes at qs h k =
    let e = (same_reach (length bytes) bytes h.before qs h.rest k.0 h.reaches k.1 h.bad (nothing_bad _ k.2)).1 in
    h.some (ap after_gap e ∙ k.2)

-- a text has one first bad lexeme at most
pub one_bad : (bytes : List ℕ) (at at' : ℕ) → IsBadAt bytes at → IsBadAt bytes at' → at ≡ at'
one_bad bytes at at' h k =
    let e = (same_reach (length bytes) bytes h.before k.before h.rest k.rest h.reaches k.reaches h.bad k.bad).1 in
    omega (arith, h.place, k.place, ap (λ r. length (after_gap r)) e)
