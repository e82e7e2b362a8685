-- How far a text has been read, and what its end or a fault says of it.
use Rattle.std.proofs.Common.{◌≡◌, ℕ, suc, ◌+◌, ◌-◌, ◌<◌, ◌≤◌, false, true, List, [], ◌∷◌, ◌++◌, Some, length, take}
use Rattle.std.proofs.Common.{drop}
use Rattle.std.proofs.Common.{refl, sym, ◌∙◌, ap, subst, arith, append_assoc, append-nil, length-drop}
use Rattle.std.proofs.lemmas.List.{length-take-le}
use Rattle.std.specs.List.{slice_get}
use Rattle.sect_front.specs.{TreeView.{TreeView}, TokenAt.{TokenAt}, Braces.{brace, open_after}, Gaps.{after_gap}}
use Rattle.sect_front.specs.{Lexing.{Spells}, Limits.{most_depth}, Tokens.{source_tokens}}
use Rattle.sect_front.specs.{Spelling.{spelling_of}, FaultPlaces.{span_from, token_span}}
use Rattle.sect_front.specs.Faults.{tokens_in, IsUnexpectedAt, IsTooDeepAt, IsUnfinished}
use Rattle.sect_front.specs.declared.token.Token.{Token}
use Rattle.sect_front.specs.{Faults.{IsTree}, declared.expected.Expected.{Expected}}
use Rattle.sect_front.specs.steps.{Lexeme.{lexeme_of}, Places.{takes, after}, Verdicts.{Reached, Spelling, SpellingAt}}
use Rattle.sect_front.specs.steps.Passing.{CursorView, Passes, ArePassed, text_start}
use Rattle.sect_front.proofs.{Reach.{reached_none, reached_more, lexed}, Lexemes.{lexeme_first}}
use Rattle.sect_front.proofs.Verdict.{start, unexpected, too_deep, unfinished, is_tree}
use Rattle.sect_front.proofs.Peaks.{peak, peak_append, peak_cons}
use Rattle.sect_front.proofs.shared.Lexings.{gap_fits}

-- the token at the front of what is left of a text
abbrev pub token_here : List ℕ → List ℕ → Token → TokenAt
token_here bytes here t = record { token = t; at = length bytes - length here }

-- the bytes of the token at the front, and that they are the text's
pub span_here : (bytes here : List ℕ) (t : Token) (n : ℕ) → lexeme_of here ≡ Some (t, n) → length here ≤ length bytes
    → (span_from (length bytes - length here) n ≡ token_span (token_here bytes here t))
    × ((token_span (token_here bytes here t)).end ≤ length bytes)
span_here bytes here t n e fits =
    let f = lexeme_first here t n e in
    let same : n ≡ length (spelling_of t) = sym (length-take-le n here f.within) ∙ ap length f.spells.is in
    (ap (span_from (length bytes - length here)) same, omega (arith, f.within, fits, same))

-- whatever tokens come before the one place, more of them lead to the other
pub record Leads (bytes from to : List ℕ) : Type 0 where
  pub fits : length to ≤ length bytes
  pub leads : (before : List TokenAt) → Reached bytes before from
      → (behind : List TokenAt) × Reached bytes (before ++ behind) to

pub leads_nowhere : (bytes here : List ℕ) → length here ≤ length bytes → Leads bytes here here
leads_nowhere bytes here fits = record {
  fits = fits;
  leads = λ before h. ([], subst (λ ps. Reached bytes ps here) (sym (append-nil before)) h);
}

-- what follows a token and the gap behind it is shorter than what begins with it
pub shorter : (here : List ℕ) (t : Token) (n : ℕ) → lexeme_of here ≡ Some (t, n)
    → length (after_gap (drop n here)) < length here
shorter here t n e =
    let f = lexeme_first here t n e in
    omega (arith, f.within, f.some, gap_fits (drop n here), length-drop n here)

pub leads_more : (bytes from to : List ℕ) (t : Token) (n : ℕ) → Leads bytes from to → lexeme_of to ≡ Some (t, n)
    → Leads bytes from (after_gap (drop n to))
leads_more bytes from to t n h e = record {
  fits = omega (arith, h.fits, shorter to t n e);
  leads = λ before r. go before (h.leads before r);
}
  where
    p : TokenAt
    p = token_here bytes to t

    go : (before : List TokenAt) → (behind : List TokenAt) × Reached bytes (before ++ behind) to
        → (behind : List TokenAt) × Reached bytes (before ++ behind) (after_gap (drop n to))
    go before (behind, r) = (
      behind ++ p ∷ [],
      subst (λ ps. Reached bytes ps (after_gap (drop n to))) (append_assoc before behind (p ∷ []))
          (reached_more bytes (before ++ behind) to p n r (omega (arith, h.fits)) e),
    )

-- the next token, without its place
tokens_push : (ps : List TokenAt) (p : TokenAt) → tokens_in (ps ++ p ∷ []) ≡ tokens_in ps ++ p.token ∷ []
tokens_push [] p = refl
tokens_push (q ∷ ps) p = ap (λ w. q.token ∷ w) (tokens_push ps p)

-- these tokens of the text have been read
pub record ReadTo (bytes : List ℕ) (here : CursorView) (front : List Token) : Type 0 where
  pub places : List TokenAt
  pub reached : Reached bytes places here.here
  pub same : tokens_in places ≡ front
  pub level : here.braces ≡ open_after 0 front
  pub low : here.braces ≤ most_depth
  pub shallow : peak 0 front ≤ 32

read_none : (bytes : List ℕ) → ReadTo bytes (text_start bytes) []
read_none bytes = record {
  places = [];
  reached = reached_none bytes;
  same = refl;
  level = refl;
  low = omega arith;
  shallow = omega arith;
}

open_append : (k : ℕ) (v : List Token) (t : Token) → open_after k (v ++ t ∷ []) ≡ brace (open_after k v) t
open_append k [] t = refl
open_append k (u ∷ v) t = open_append (brace k u) v t

read_more : (bytes : List ℕ) (here there : CursorView) (front : List Token) (t : Token) → ReadTo bytes here front
    → Passes here t there → ReadTo bytes there (front ++ t ∷ [])
read_more bytes here there front t h p = record {
  places = h.places ++ token_here bytes here.here t ∷ [];
  reached = subst (Reached bytes (h.places ++ token_here bytes here.here t ∷ [])) (sym p.stands.behind)
      (reached_more bytes h.places here.here (token_here bytes here.here t) p.stands.count h.reached
      (omega (arith, h.reached.fits)) p.stands.lexed);
  same = tokens_push h.places (token_here bytes here.here t) ∙ ap (λ w. w ++ t ∷ []) h.same;
  level = p.braces ∙ (ap (λ k. brace k t) h.level ∙ sym (open_append 0 front t));
  low = p.low h.low;
  shallow = omega (
    arith,
    h.shallow,
    h.low,
    p.low h.low,
    peak_append 0 front (t ∷ []),
    ap (λ j. peak j (t ∷ [])) (sym h.level),
    peak_cons t here.braces [],
    p.braces,
  );
}

read_all : (bytes : List ℕ) (here there : CursorView) (front ts : List Token) → ReadTo bytes here front
    → ArePassed here ts there → ReadTo bytes there (front ++ ts)
read_all bytes here there front [] h k =
    subst (λ w. ReadTo bytes there w) (sym (append-nil front)) (subst (λ c. ReadTo bytes c front) k h)
read_all bytes here there front (t ∷ ts) h (next, p, k) =
    subst (ReadTo bytes there) (append_assoc front (t ∷ []) ts)
    (read_all bytes next there (front ++ t ∷ []) ts (read_more bytes here next front t h p) k)

-- what is passed from the text's start on has been read
pub read_so : (bytes : List ℕ) (there : CursorView) (ts : List Token) → ArePassed (text_start bytes) ts there
    → ReadTo bytes there ts
read_so bytes there ts h = read_all bytes (text_start bytes) there [] ts (read_none bytes) h

-- the token behind these has their number
record Numbered (ps : List TokenAt) (p : TokenAt) (all : List TokenAt) : Type 0 where
  front : take (length ps) (tokens_in all) ≡ tokens_in ps
  more : take (suc (length ps)) (tokens_in all) ≡ tokens_in ps ++ p.token ∷ []
  within : length ps < length (tokens_in all)
  found : slice_get all (length ps) ≡ Some p

numbered : (ps : List TokenAt) (p : TokenAt) (qs : List TokenAt) → Numbered ps p ((ps ++ p ∷ []) ++ qs)
numbered [] p qs = record { front = refl; more = refl; within = omega arith; found = refl }
numbered (q ∷ ps) p qs = let n = numbered ps p qs in record {
  front = ap (λ w. q.token ∷ w) n.front;
  more = ap (λ w. q.token ∷ w) n.more;
  within = omega (arith, n.within);
  found = n.found;
}

-- no tree goes on with this token
pub unexpected_at : (bytes : List ℕ) (here : CursorView) (front : List Token) (e : Expected) (ps : List Expected)
    (p : TokenAt) (h : ReadTo bytes here front) → after start front ≡ Some (e ∷ ps) → takes e p.token ≡ false
    → (token_span p).end ≤ length bytes → (behind : List TokenAt)
    → Spells bytes ((h.places ++ p ∷ []) ++ behind) → SpellingAt bytes (token_span p) IsUnexpectedAt
unexpected_at bytes here front e ps p h leads none within behind spells =
    let all = (h.places ++ p ∷ []) ++ behind in
    let n = numbered h.places p behind in
    let first : take (length h.places) (tokens_in all) ≡ front = n.front ∙ h.same in
    let next : suc (length h.places) ≡ length h.places + 1 = omega arith in
    record {
      places = all;
      spells = spells;
      index = length h.places;
      token = p;
      found = n.found;
      is = unexpected (tokens_in all) (length h.places) e ps p.token
          (ap (after start) first ∙ leads) (subst (λ w. peak 0 w ≤ 32) (sym first) h.shallow) n.within
          (subst (λ j. take j (tokens_in all) ≡ take (length h.places) (tokens_in all) ++ p.token ∷ []) next
          (n.more ∙ ap (λ w. w ++ p.token ∷ []) (sym n.front))) none;
      place = refl;
      within = within;
    }

-- this token opens a brace too many
pub too_deep_at : (bytes : List ℕ) (here : CursorView) (front : List Token) (e : Expected) (ps : List Expected)
    (p : TokenAt) (h : ReadTo bytes here front) → after start front ≡ Some (e ∷ ps) → takes e p.token ≡ true
    → brace here.braces p.token ≡ 33 → (token_span p).end ≤ length bytes → (behind : List TokenAt)
    → Spells bytes ((h.places ++ p ∷ []) ++ behind) → SpellingAt bytes (token_span p) IsTooDeepAt
too_deep_at bytes here front e ps p h leads some deep within behind spells =
    let all = (h.places ++ p ∷ []) ++ behind in
    let n = numbered h.places p behind in
    let first : take (length h.places) (tokens_in all) ≡ front = n.front ∙ h.same in
    let next : suc (length h.places) ≡ length h.places + 1 = omega arith in
    record {
      places = all;
      spells = spells;
      index = length h.places;
      token = p;
      found = n.found;
      is = too_deep (tokens_in all) (length h.places) e ps p.token
          (ap (after start) first ∙ leads) (subst (λ w. peak 0 w ≤ 32) (sym first) h.shallow) n.within
          (subst (λ j. take j (tokens_in all) ≡ take (length h.places) (tokens_in all) ++ p.token ∷ []) next
          (n.more ∙ ap (λ w. w ++ p.token ∷ []) (sym n.front))) some
          (ap (λ w. brace (open_after 0 w) p.token) first ∙ (ap (λ k. brace k p.token) (sym h.level) ∙ deep));
      place = refl;
      within = within;
    }

-- the text ends where more would have to stand
pub unfinished_at : (bytes : List ℕ) (here : CursorView) (front : List Token) (e d : Expected) (ps : List Expected)
    → ReadTo bytes here front → after start front ≡ Some (e ∷ (ps ++ d ∷ [])) → here.here ≡ []
    → Spelling bytes IsUnfinished
unfinished_at bytes here front e d ps h leads none = record {
  places = h.places;
  spells = lexed bytes h.places here.here h.reached none;
  is = unfinished (tokens_in h.places) e d ps (ap (after start) h.same ∙ leads)
      (subst (λ w. peak 0 w ≤ 32) (sym h.same) h.shallow);
}

-- the text ends behind the tokens of a tree
pub tree_at : (bytes : List ℕ) (here : CursorView) (tree : TreeView) → ReadTo bytes here (source_tokens tree [])
    → here.here ≡ [] → Spelling bytes (λ list. IsTree list tree)
tree_at bytes here tree h none = record {
  places = h.places;
  spells = lexed bytes h.places here.here h.reached none;
  is = is_tree (tokens_in h.places) tree h.same (subst (λ w. peak 0 w ≤ 32) (sym h.same) h.shallow);
}
