-- Which braces are open behind the tokens that have been read.
use Rattle.std.proofs.Common.{◌≡◌, ℕ, ◌-◌, ◌<◌, List, [], ◌∷◌, ◌++◌, Some, length, drop, refl, sym, ◌∙◌, ap, subst}
use Rattle.std.proofs.{Common.{arith}, lemmas.List.Elements.{All-nil, All-get_or}, lemmas.List.Sums.{fold-append}}
use Rattle.std.proofs.{lemmas.Option.{slice_get-get_or}, lemmas.List.{nil_from_length}}
use Rattle.std.specs.Prelude.{slice_get, IfSome}
use Rattle.sect_front.specs.{TokenAt.{TokenAt}, Gaps.{after_gap}, Lexing.{Spells}}
use Rattle.sect_front.specs.{FaultPlaces.{open_behind, open_braces}, declared.token.Token.{Token}}
use Rattle.sect_front.specs.steps.{Below.{AreBelow}, Lexeme.{lexeme_of}, Verdicts.{Reached}}
use Rattle.sect_front.proofs.{Reach.{reached_none, reached_more, lexed}, Texts.{token_here}}
use Rattle.sect_front.proofs.shared.Lexings.{one_lexing}

-- so far the text has been read, and these braces are open
pub record OpenHere (bytes here braces : List ℕ) : Type 0 where
  pub places : List TokenAt
  pub reached : Reached bytes places here
  pub are : braces ≡ open_braces places
  pub below : AreBelow (length bytes) braces

pub open_first : (bytes : List ℕ) → OpenHere bytes (after_gap bytes) []
open_first bytes =
    record { places = []; reached = reached_none bytes; are = refl; below = All-nil (λ n. n < length bytes) }

pub open_next : (bytes here braces new : List ℕ) (t : Token) (n : ℕ) → OpenHere bytes here braces
    → lexeme_of here ≡ Some (t, n) → new ≡ open_behind (length bytes - length here) braces t
    → AreBelow (length bytes) new → OpenHere bytes (after_gap (drop n here)) new
open_next bytes here braces new t n h e is below =
    let p : TokenAt = token_here bytes here t in
    record {
      places = h.places ++ p ∷ [];
      reached = reached_more bytes h.places here p n h.reached (omega (arith, h.reached.fits)) e;
      are = is ∙ (ap (λ b. open_behind p.at b t) h.are
          ∙ sym (fold-append (λ (b : List ℕ) (q : TokenAt). open_behind q.at b q.token) [] h.places (p ∷ [])));
      below = below;
    }

-- at the end these are the open braces of all tokens
pub open_last : (bytes here braces : List ℕ) → OpenHere bytes here braces → length here ≡ 0 → (places : List TokenAt)
    → Spells bytes places → braces ≡ open_braces places
open_last bytes here braces h none places s =
    h.are ∙ ap open_braces (one_lexing bytes h.places places
    (lexed bytes h.places here h.reached (nil_from_length here none)) s)

-- the last of some numbers below another
pub last_below : (total : ℕ) (list : List ℕ) → AreBelow total list
    → IfSome (slice_get list (length list - 1)) (λ n. n < total)
last_below total [] h = tt
last_below total (n ∷ list) h =
    subst (λ o. IfSome o (λ k. k < total)) (sym (slice_get-get_or (n ∷ list) (length (n ∷ list) - 1) 0 (omega arith)))
    (All-get_or (λ k. k < total) (n ∷ list) (length (n ∷ list) - 1) 0 (omega arith) h)
