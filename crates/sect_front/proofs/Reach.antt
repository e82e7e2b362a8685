-- How the tokens of a text follow one another.
use Rattle.std.proofs.Common.{◌≡◌, ◌≢◌, ℕ, ◌+◌, List, [], ◌∷◌, ◌++◌, Some, None, length, drop, refl, sym, ◌∙◌, ap}
use Rattle.std.proofs.Common.{subst, arith, length-drop}
use Rattle.sect_front.specs.{Gaps.{after_gap}, Lexing.{IsFirst, IsBad, Reaches, Spells, IsBadAt}, TokenAt.{TokenAt}}
use Rattle.sect_front.specs.LongGaps.{IsRestOf}
use Rattle.sect_front.specs.steps.{Lexeme.{lexeme_of}, Verdicts.{Reached}}
use Rattle.sect_front.proofs.Lexemes.{lexeme_first, lexeme_bad}
use Rattle.sect_front.proofs.shared.{Lexings.{gap_fits}, Rests.{rest_all, rest_more, rest_gap}}

pub reached_none : (bytes : List ℕ) → Reached bytes [] (after_gap bytes)
reached_none bytes = record { rest = bytes; reaches = refl; gap = refl; fits = gap_fits bytes }

reaches_more : (total : ℕ) (bytes : List ℕ) (ps : List TokenAt) (rest : List ℕ) (p : TokenAt) (n : ℕ)
    → Reaches total bytes ps rest →
    p.at + length (after_gap rest) ≡ total → IsFirst p.token n (after_gap rest)
    → Reaches total bytes (ps ++ p ∷ []) (drop n (after_gap rest))
reaches_more total bytes [] rest p n h at f =
    subst (λ x. Reaches total x (p ∷ []) (drop n (after_gap rest))) (sym h) (n, at, f, refl)
reaches_more total bytes (q ∷ ps) rest p n h at f =
    (h.0, h.1, h.2, reaches_more total (drop h.0 (after_gap bytes)) ps rest p n h.3 at f)

pub reached_more : (bytes : List ℕ) (ps : List TokenAt) (here : List ℕ) (p : TokenAt) (n : ℕ) → Reached bytes ps here →
    p.at + length here ≡ length bytes → lexeme_of here ≡ Some (p.token, n)
    → Reached bytes (ps ++ p ∷ []) (after_gap (drop n here))
reached_more bytes ps here p n r at f = record {
  rest = drop n here;
  reaches = subst (λ x. Reaches (length bytes) bytes (ps ++ p ∷ []) (drop n x)) r.gap
      (reaches_more (length bytes) bytes ps r.rest p n r.reaches (ap (λ x. p.at + length x) r.gap ∙ at)
      (subst (λ x. IsFirst p.token n x) (sym r.gap) (lexeme_first here p.token n f)));
  gap = refl;
  fits = omega (arith, gap_fits (drop n here), length-drop n here, r.fits);
}

pub lexed : (bytes : List ℕ) (ps : List TokenAt) (here : List ℕ) → Reached bytes ps here → here ≡ [] → Spells bytes ps
lexed bytes ps here r e = (r.rest, r.reaches, r.gap ∙ e)

pub bad_at : (bytes : List ℕ) (ps : List TokenAt) (here : List ℕ) (at : ℕ) → Reached bytes ps here → here ≢ []
    → lexeme_of here ≡ None → at + length here ≡ length bytes → IsBadAt bytes at
bad_at bytes ps here at r some none place = record {
  before = ps;
  rest = r.rest;
  reaches = r.reaches;
  some = λ e. some (sym r.gap ∙ e);
  bad = subst IsBad (sym r.gap) (lexeme_bad here none);
  place = ap (λ x. at + length x) r.gap ∙ place;
}

reaches_rest : (total : ℕ) (bytes here : List ℕ) (ps : List TokenAt) (rest : List ℕ) → IsRestOf bytes here
    → Reaches total here ps rest → IsRestOf bytes rest
reaches_rest total bytes here [] rest h r = subst (IsRestOf bytes) r h
reaches_rest total bytes here (p ∷ ps) rest h r =
    reaches_rest total bytes (drop r.0 (after_gap here)) ps rest
    (rest_more bytes (after_gap here) r.0 (rest_gap bytes here h)) r.3

-- what has not been read are the text's last bytes
pub reached_rest : (bytes : List ℕ) (ps : List TokenAt) (here : List ℕ) → Reached bytes ps here → IsRestOf bytes here
reached_rest bytes ps here r =
    subst (IsRestOf bytes) r.gap
    (rest_gap bytes r.rest (reaches_rest (length bytes) bytes bytes ps r.rest (rest_all bytes) r.reaches))
