-- A text has one fault at most.
use Rattle.std.proofs.Common.{◌≡◌, ◌≢◌, ℕ, zero, suc, ◌+◌, ◌-◌, ◌<◌, ◌≤◌, Bool, true, false, List, ◌++◌, Some}
use Rattle.std.proofs.Common.{Result, Ok, Err, length, take, drop, refl, sym, ◌∙◌, ap, subst, arith, append_assoc, ◌⊎◌}
use Rattle.std.proofs.{Common.{inl, inr}, lemmas.List.{take-append-drop, take-take, length-take-le}}
use Rattle.std.specs.Prelude.{unwrap_or, slice_get, option_map}
use Rattle.sect_front.specs.{Limits.{most_bytes}, TreeView.{TreeView}, Words.{is_letter, is_digit, begins}}
use Rattle.sect_front.specs.{Braces.{open_after, IsShallow}, Lexing.{Spells, IsBadAt}}
use Rattle.sect_front.specs.Faults.{IsViable, tokens_in, IsUnexpectedAt, IsTooDeepAt, IsUnfinished}
use Rattle.sect_front.specs.{Front.{IsBadOn, IsFault, Judges, Refuses, line_of}, declared.token.Token.{Token}}
use Rattle.sect_front.specs.{TokenAt.{TokenAt}, declared.parsing.FrontFault.{FrontFault}}
use Rattle.sect_front.proofs.TokenFaults.{TokenFault, IsTokenFault}
use Rattle.sect_front.proofs.shared.{Lexings.{one_lexing, one_bad, bad_or_lexed}, Only.{only}}
use Rattle.sect_front.specs.declared.parsing.FrontFault.TheVariants as fault
use Rattle.sect_front.proofs.TokenFaults as token_fault

-- what begins a viable list is viable
viable_front : (i : ℕ) (list : List Token) → IsViable list → IsViable (take i list)
viable_front i list v = (
  v.0,
  drop i list ++ v.1,
  v.2 ∙ (ap (λ x. x ++ v.1) (sym (take-append-drop i list))
      ∙ append_assoc (take i list) (drop i list) v.1),
)

viable_take : (i j : ℕ) (list : List Token) → i ≤ j → IsViable (take j list) → IsViable (take i list)
viable_take i j list h v = subst IsViable (take-take i j list h) (viable_front i (take j list) v)

-- no token of a shallow beginning opens the 33rd brace
not_deep : (i j : ℕ) (list : List Token) → i < j → j ≤ length list → IsShallow (take j list)
    → open_after 0 (take (i + 1) list) ≡ 33 → ⊥
not_deep i j list h fits shallow deep =
    omega (
      arith,
      shallow (i + 1) (omega (arith, length-take-le j list fits)),
      ap (open_after 0) (take-take (i + 1) j list (omega arith)),
      deep,
    )

-- one of two numbers is less, or they are the same
compare : (i j : ℕ) → (i < j) ⊎ ((j < i) ⊎ (i ≡ j))
compare zero zero = inr (inr refl)
compare zero (suc j) = inl (omega arith)
compare (suc i) zero = inr (inl (omega arith))
compare (suc i) (suc j) = go (compare i j)
  where
    go : (i < j) ⊎ ((j < i) ⊎ (i ≡ j)) → (suc i < suc j) ⊎ ((suc j < suc i) ⊎ (suc i ≡ suc j))
    go (inl h) = inl (omega arith)
    go (inr (inl h)) = inr (inl (omega arith))
    go (inr (inr h)) = inr (inr (ap suc h))

same_unexpected : (list : List Token) (i j : ℕ) → IsUnexpectedAt list i → IsUnexpectedAt list j → i ≡ j
same_unexpected list i j h k = go (compare i j)
  where
    go : (i < j) ⊎ ((j < i) ⊎ (i ≡ j)) → i ≡ j
    go (inl lt) = absurd (h.here (viable_take (i + 1) j list (omega arith) k.before))
    go (inr (inl lt)) = absurd (k.here (viable_take (j + 1) i list (omega arith) h.before))
    go (inr (inr e)) = e

same_deep : (list : List Token) (i j : ℕ) → IsTooDeepAt list i → IsTooDeepAt list j → i ≡ j
same_deep list i j h k = go (compare i j)
  where
    go : (i < j) ⊎ ((j < i) ⊎ (i ≡ j)) → i ≡ j
    go (inl lt) = absurd (not_deep i j list lt (omega (arith, k.within)) k.shallow h.deep)
    go (inr (inl lt)) = absurd (not_deep j i list lt (omega (arith, h.within)) h.shallow k.deep)
    go (inr (inr e)) = e

not_both : (list : List Token) (i j : ℕ) → IsUnexpectedAt list i → IsTooDeepAt list j → ⊥
not_both list i j h k = go (compare j i)
  where
    go : (j < i) ⊎ ((i < j) ⊎ (j ≡ i)) → ⊥
    go (inl lt) = not_deep j i list lt (omega (arith, h.within)) h.shallow k.deep
    go (inr (inl lt)) = h.here (viable_take (i + 1) (j + 1) list (omega arith) k.here)
    go (inr (inr e)) = h.here (viable_take (i + 1) (j + 1) list (omega (arith, e)) k.here)

deep_ends : (list : List Token) (i : ℕ) → IsTooDeepAt list i → IsUnfinished list → ⊥
deep_ends list i h k =
    omega (arith, k.shallow (i + 1) (omega (arith, h.within)), h.deep)

same_token : (list : List Token) (f g : TokenFault) → IsTokenFault list f → IsTokenFault list g → f ≡ g
same_token list (token_fault.Unexpected i) (token_fault.Unexpected j) h k =
    ap token_fault.Unexpected (same_unexpected list i j h k)
same_token list (token_fault.Unexpected i) (token_fault.TooDeep j) h k = absurd (not_both list i j h k)
same_token list (token_fault.Unexpected i) token_fault.Unfinished h k =
    absurd (h.here (viable_front (i + 1) list k.viable))
same_token list (token_fault.TooDeep i) (token_fault.Unexpected j) h k = absurd (not_both list j i k h)
same_token list (token_fault.TooDeep i) (token_fault.TooDeep j) h k = ap token_fault.TooDeep (same_deep list i j h k)
same_token list (token_fault.TooDeep i) token_fault.Unfinished h k = absurd (deep_ends list i h k)
same_token list token_fault.Unfinished (token_fault.Unexpected j) h k =
    absurd (k.here (viable_front (j + 1) list h.viable))
same_token list token_fault.Unfinished (token_fault.TooDeep j) h k = absurd (deep_ends list j k h)
same_token list token_fault.Unfinished token_fault.Unfinished h k = refl

-- the place of a token by its number
abbrev place_at : List TokenAt → ℕ → ℕ
place_at ps i = unwrap_or (option_map (λ p. p.at) (slice_get ps i)) 0

-- the answer for a fault of tokens, and for a bad lexeme by its first byte
abbrev token_answer : List ℕ → List TokenAt → TokenFault → FrontFault
token_answer bytes ps (token_fault.Unexpected i) = fault.Unexpected (line_of bytes (place_at ps i))
token_answer bytes ps (token_fault.TooDeep i) = fault.TooDeep (line_of bytes (place_at ps i))
token_answer bytes ps token_fault.Unfinished = fault.UnexpectedEnd (line_of bytes (length bytes - 1))

abbrev bad_answer : Bool → Bool → ℕ → FrontFault
bad_answer true digit line = fault.LongName line
bad_answer false true line = fault.BadNumber line
bad_answer false false line = fault.BadByte line

abbrev bad_at : List ℕ → ℕ → FrontFault
bad_at bytes at = bad_answer (begins is_letter (drop at bytes)) (begins is_digit (drop at bytes)) (line_of bytes at)

-- which kind of fault it is
data Kind (bytes : List ℕ) (e : FrontFault) : Type 0 where
  Large : most_bytes < length bytes → e ≡ fault.TooLarge → Kind bytes e
  Bad : length bytes ≤ most_bytes → (at : ℕ) → IsBadAt bytes at → e ≡ bad_at bytes at → Kind bytes e
  Tokens : length bytes ≤ most_bytes → (ps : List TokenAt) → Spells bytes ps → (t : TokenFault)
      → IsTokenFault (tokens_in ps) t → e ≡ token_answer bytes ps t → Kind bytes e

bad_kind : (bytes : List ℕ) (line : ℕ) (l d : Bool) → IsBadOn bytes line l d → Kind bytes (bad_answer l d line)
bad_kind bytes line l d h =
    Bad h.fits h.at h.bad (ap (bad_answer l d) h.place
    ∙ (ap (λ x. bad_answer x d (line_of bytes h.at)) (sym h.letter_first)
    ∙ ap (λ x. bad_answer (begins is_letter (drop h.at bytes)) x (line_of bytes h.at)) (sym h.digit_first)))

-- where a token is found is its place
found_place : (ps : List TokenAt) (i : ℕ) (p : TokenAt) → slice_get ps i ≡ Some p → p.at ≡ place_at ps i
found_place ps i p e = ap (λ o. unwrap_or (option_map (λ q. q.at) o) 0) (sym e)

kind_of : (bytes : List ℕ) (e : FrontFault) → e ≢ fault.Memory → IsFault bytes e → Kind bytes e
kind_of bytes fault.Memory ne h = absurd (ne refl)
kind_of bytes fault.TooLarge ne h = Large h refl
kind_of bytes (fault.BadByte line) ne h = bad_kind bytes line false false h
kind_of bytes (fault.BadNumber line) ne h = bad_kind bytes line false true h
kind_of bytes (fault.LongName line) ne h = bad_kind bytes line true false h
kind_of bytes (fault.Unexpected line) ne h =
    Tokens h.fits h.places h.spells (token_fault.Unexpected h.index) h.fault
    (ap fault.Unexpected (h.place ∙ ap (line_of bytes) (found_place h.places h.index h.token h.found)))
kind_of bytes (fault.TooDeep line) ne h =
    Tokens h.fits h.places h.spells (token_fault.TooDeep h.index) h.fault
    (ap fault.TooDeep (h.place ∙ ap (line_of bytes) (found_place h.places h.index h.token h.found)))
kind_of bytes (fault.UnexpectedEnd line) ne h =
    Tokens h.fits h.places h.spells token_fault.Unfinished h.fault (ap fault.UnexpectedEnd h.place)

same_kind : (bytes : List ℕ) (e f : FrontFault) → Kind bytes e → Kind bytes f → e ≡ f
same_kind bytes e f (Large h p) (Large k q) = p ∙ sym q
same_kind bytes e f (Large h p) (Bad fits at k q) = absurd (omega arith)
same_kind bytes e f (Large h p) (Tokens fits ps s t k q) = absurd (omega arith)
same_kind bytes e f (Bad fits at h p) (Large k q) = absurd (omega arith)
same_kind bytes e f (Bad fits at h p) (Bad fits' at' k q) = p ∙ (ap (bad_at bytes) (one_bad bytes at at' h k) ∙ sym q)
same_kind bytes e f (Bad fits at h p) (Tokens fits' ps s t k q) = absurd (bad_or_lexed bytes at ps h s)
same_kind bytes e f (Tokens fits ps s t h p) (Large k q) = absurd (omega arith)
same_kind bytes e f (Tokens fits ps s t h p) (Bad fits' at k q) = absurd (bad_or_lexed bytes at ps k s)
same_kind bytes e f (Tokens fits ps s t h p) (Tokens fits' qs s' u k q) =
    let same : ps ≡ qs = one_lexing bytes ps qs s s' in
    let one : t ≡ u = same_token (tokens_in qs) t u (subst (λ x. IsTokenFault (tokens_in x) t) same h) k in
    p ∙ (ap (λ x. token_answer bytes x t) same ∙ (ap (token_answer bytes qs) one ∙ sym q))

-- a text with a fault is refused with it
pub refuses : (bytes : List ℕ) (e : FrontFault) → e ≢ fault.Memory → IsFault bytes e → (r : Result TreeView FrontFault)
    → Judges bytes r → Refuses e r
refuses bytes e ne h (Ok tree) s = spelled_fault e ne h
  where
    spelled_fault : (e : FrontFault) → e ≢ fault.Memory → IsFault bytes e → ⊥
    spelled_fault fault.Memory ne h = ne refl
    spelled_fault fault.TooLarge ne h = only bytes tree s (Err fault.TooLarge) h
    spelled_fault (fault.BadByte line) ne h = only bytes tree s (Err (fault.BadByte line)) h
    spelled_fault (fault.BadNumber line) ne h = only bytes tree s (Err (fault.BadNumber line)) h
    spelled_fault (fault.LongName line) ne h = only bytes tree s (Err (fault.LongName line)) h
    spelled_fault (fault.Unexpected line) ne h = only bytes tree s (Err (fault.Unexpected line)) h
    spelled_fault (fault.TooDeep line) ne h = only bytes tree s (Err (fault.TooDeep line)) h
    spelled_fault (fault.UnexpectedEnd line) ne h = only bytes tree s (Err (fault.UnexpectedEnd line)) h
refuses bytes e ne h (Err fault.Memory) s = tt
refuses bytes e ne h (Err fault.TooLarge) s =
    same_kind bytes fault.TooLarge e (kind_of bytes fault.TooLarge (λ x. cc) s) (kind_of bytes e ne h)
refuses bytes e ne h (Err (fault.BadByte line)) s =
    same_kind bytes (fault.BadByte line) e (kind_of bytes (fault.BadByte line) (λ x. cc) s) (kind_of bytes e ne h)
refuses bytes e ne h (Err (fault.BadNumber line)) s =
    same_kind bytes (fault.BadNumber line) e (kind_of bytes (fault.BadNumber line) (λ x. cc) s) (kind_of bytes e ne h)
refuses bytes e ne h (Err (fault.LongName line)) s =
    same_kind bytes (fault.LongName line) e (kind_of bytes (fault.LongName line) (λ x. cc) s) (kind_of bytes e ne h)
refuses bytes e ne h (Err (fault.Unexpected line)) s =
    same_kind bytes (fault.Unexpected line) e (kind_of bytes (fault.Unexpected line) (λ x. cc) s) (kind_of bytes e ne h)
refuses bytes e ne h (Err (fault.TooDeep line)) s =
    same_kind bytes (fault.TooDeep line) e (kind_of bytes (fault.TooDeep line) (λ x. cc) s) (kind_of bytes e ne h)
refuses bytes e ne h (Err (fault.UnexpectedEnd line)) s =
    same_kind bytes (fault.UnexpectedEnd line) e (kind_of bytes (fault.UnexpectedEnd line) (λ x. cc) s)
    (kind_of bytes e ne h)
