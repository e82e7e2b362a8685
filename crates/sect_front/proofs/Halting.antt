-- Where the reading of a text stops.
use Rattle.std.proofs.Common.{◌≡◌, ◌≢◌, ℕ, ◌+◌, ◌-◌, true, List, [], ◌∷◌, ◌++◌, Some, None, length}
use Rattle.std.proofs.Common.{drop}
use Rattle.std.proofs.Common.{refl, sym, ◌∙◌, ap, subst, arith, append-nil, option_and_then}
use Rattle.std.specs.Prelude.{filter}
use Rattle.sect_front.specs.{Lexing.{Spells, IsBadAt}, TokenAt.{TokenAt}, Gaps.{after_gap}, Expected.{all_kinds}}
use Rattle.sect_front.specs.{TreeView.{TreeView}, Tokens.{source_tokens}, Faults.{IsTree}}
use Rattle.sect_front.specs.{Faults.{IsUnexpectedAt, IsTooDeepAt, IsUnfinished}, FaultPlaces.{span_from}}
use Rattle.sect_front.specs.Expected.{AreExpectedAt}
use Rattle.sect_front.specs.{Braces.{brace}, declared.token.Token.{Token}, declared.expected.Expected.{Expected}}
use Rattle.sect_front.specs.{declared.cursor.Stop.{Stop}, declared.token_kind.TokenKind.{TokenKind}}
use Rattle.sect_front.specs.steps.{Lexeme.{lexeme_of}, Places.{follows, takes, after}, Kinds.{takes_kind}}
use Rattle.sect_front.specs.steps.Passing.{CursorView, ArePassed, IsRefused, IsDeep, StopsIn, text_start}
use Rattle.sect_front.specs.steps.Declaring.{Halts, Starved, Before, Within, StopsText}
use Rattle.sect_front.specs.steps.Verdicts.{Reached, Spelling, SpellingAt}
use Rattle.sect_front.proofs.{Verdict.{start}, Leading.{after_then, after_more}, Reach.{reached_more, bad_at}}
use Rattle.sect_front.proofs.Texts.{ReadTo, read_so, token_here, span_here, unfinished_at, unexpected_at, too_deep_at}
use Rattle.sect_front.proofs.Texts.{tree_at}
use Rattle.sect_front.proofs.ExpectedKinds.{kinds_expected}
use Rattle.sect_front.proofs.Stopping.{stops_after, stops_here, stops_more, same_token}
use Rattle.sect_front.proofs.Stopping.{passed_append}
use Rattle.sect_front.specs.declared.token.Token.TheVariants as token
use Rattle.sect_front.specs.declared.cursor.Stop.TheVariants as stop

-- one token from a place on
one_after : (e : Expected) (t : Token) (ps : List Expected) (ts : List Token) → follows e t ≡ Some ps
    → after (e ∷ []) (t ∷ ts) ≡ after ps ts
one_after e t ps ts k =
    ap (option_and_then (λ list. after (list ++ []) ts)) k ∙ ap (λ list. after list ts) (append-nil ps)

stops_part : (s : Stop) (part : Expected) (here there : CursorView) → Halts s part here there
    → StopsIn s (part ∷ []) here there
stops_part s part here there (Starved is) = subst (λ x. StopsIn x (part ∷ []) here there) (sym is) tt
stops_part s part here there (Before is same refused) = stops_here s part [] here there (is, same, refused)
stops_part s part here there (Within t next ps e p k r) =
    stops_after s (part ∷ []) (ps ++ e ∷ []) (t ∷ []) here next there (next, p, refl)
    (one_after part t (ps ++ e ∷ []) [] k) (stops_more s ps (e ∷ []) next there r)

-- these tokens of the text have been read, and this place is next
pub record Stopped (bytes : List ℕ) (here : CursorView) (e : Expected) : Type 0 where
  pub front : List Token
  pub rest : List Expected
  pub read : ReadTo bytes here front
  pub leads : after start front ≡ Some (e ∷ rest)

stops_start : (s : Stop) (here there : CursorView) → StopsText s here there → StopsIn s start here there
stops_start s here there h =
    stops_after s start (h.part ∷ []) h.tokens here h.mid there h.are h.next (stops_part s h.part h.mid there h.halts)

pub stopped_at : (bytes : List ℕ) (e : Expected) (there : CursorView) → StopsText (stop.At e) (text_start bytes) there
    → Stopped bytes there e × IsRefused e there
stopped_at bytes e there h = let r = stops_start (stop.At e) (text_start bytes) there h in (
  record { front = r.0.passed; rest = r.0.rest; read = read_so bytes there r.0.passed r.0.are; leads = r.0.next },
  r.1,
)

pub stopped_deep : (bytes : List ℕ) (there : CursorView) → StopsText stop.TooDeep (text_start bytes) there
    → (e : Expected) × Stopped bytes there e × IsDeep e there
stopped_deep bytes there h = let r = stops_start stop.TooDeep (text_start bytes) there h in (
  r.0,
  record { front = r.1.passed; rest = r.1.rest; read = read_so bytes there r.1.passed r.1.are; leads = r.1.next },
  r.2,
)

-- at the end of the text a declaration is begun
pub unfinished_text : (bytes : List ℕ) (e : Expected) (there : CursorView)
    → StopsText (stop.At e) (text_start bytes) there → there.here ≡ [] → Spelling bytes IsUnfinished
unfinished_text bytes e there h none = go h.halts
  where
    go : Halts (stop.At e) h.part h.mid there → Spelling bytes IsUnfinished
    go (Starved is) = absurd cc
    go (Before is same refused) = absurd (h.more (sym (ap (λ c. c.here) same) ∙ none))
    go (Within t next ps d p k r) =
        let front = h.tokens ++ t ∷ r.0.passed in
        let leads : after start front ≡ Some (e ∷ (r.0.rest ++ d ∷ [])) =
        after_then start (h.part ∷ []) h.tokens (t ∷ r.0.passed) h.next
        ∙ (one_after h.part t (ps ++ d ∷ []) r.0.passed k
        ∙ after_more ps (d ∷ []) r.0.passed (e ∷ r.0.rest) r.0.next) in
        unfinished_at bytes there front e d r.0.rest (read_so bytes there front (passed (next, p, r.0.are))) leads none
      where
        passed : ArePassed h.mid (t ∷ r.0.passed) there → ArePassed (text_start bytes) (h.tokens ++ t ∷ r.0.passed)
            there
        passed are = passed_append (text_start bytes) h.tokens (t ∷ r.0.passed) h.mid there h.are are

-- no token stands where the reading stopped
pub bad_text : (bytes : List ℕ) (e : Expected) (there : CursorView) (at : ℕ) → Stopped bytes there e → there.here ≢ []
    → lexeme_of there.here ≡ None → at + length there.here ≡ length bytes → IsBadAt bytes at
bad_text bytes e there at h some none place = bad_at bytes h.read.places there.here at h.read.reached some none place

-- the token at the front has been read too
pub reached_too : (bytes : List ℕ) (e : Expected) (there : CursorView) (t : Token) (n : ℕ) → (h : Stopped bytes there e)
    → lexeme_of there.here ≡ Some (t, n)
    → Reached bytes (h.read.places ++ token_here bytes there.here t ∷ []) (after_gap (drop n there.here))
reached_too bytes e there t n h lexed =
    reached_more bytes h.read.places there.here (token_here bytes there.here t) n h.read.reached
    (omega (arith, h.read.reached.fits)) lexed

pub unexpected_text : (bytes : List ℕ) (e : Expected) (there : CursorView) (t : Token) (n : ℕ) (kinds : List TokenKind)
    → (h : Stopped bytes there e) → IsRefused e there → (lexed : lexeme_of there.here ≡ Some (t, n))
    → kinds ≡ filter (takes_kind e) all_kinds → (behind : List TokenAt)
    → Spells bytes ((h.read.places ++ token_here bytes there.here t ∷ []) ++ behind)
    → SpellingAt bytes (span_from (length bytes - length there.here) n) IsUnexpectedAt
    × AreExpectedAt bytes (length bytes - length there.here) kinds
unexpected_text bytes e there t n kinds h refused lexed are behind spells =
    let span = span_here bytes there.here t n lexed h.read.reached.fits in (
      subst (λ s. SpellingAt bytes s IsUnexpectedAt) (sym span.0)
          (unexpected_at bytes there h.front e h.rest (token_here bytes there.here t) h.read h.leads
          (refused t (after_gap (drop n there.here)) (record { count = n; lexed = lexed; behind = refl })) span.1
          behind spells),
      kinds_expected bytes there h.front e h.rest kinds h.read h.leads are,
    )

pub too_deep_text : (bytes : List ℕ) (e : Expected) (there : CursorView) (t : Token) (n : ℕ)
    → (h : Stopped bytes there e) → IsDeep e there → (lexed : lexeme_of there.here ≡ Some (t, n))
    → (behind : List TokenAt) → Spells bytes ((h.read.places ++ token_here bytes there.here t ∷ []) ++ behind)
    → SpellingAt bytes (span_from (length bytes - length there.here) n) IsTooDeepAt
too_deep_text bytes e there t n h deep lexed behind spells =
    let span = span_here bytes there.here t n lexed h.read.reached.fits in
    let same : token.OpenBrace ≡ t = same_token there.here deep.rest (after_gap (drop n there.here)) token.OpenBrace t
    deep.brace (record { count = n; lexed = lexed; behind = refl }) in
    let more : brace there.braces token.OpenBrace ≡ 33 = omega (arith, deep.most, h.read.low) in
    subst (λ s. SpellingAt bytes s IsTooDeepAt) (sym span.0)
    (too_deep_at bytes there h.front e h.rest (token_here bytes there.here t) h.read h.leads
    (subst (λ u. takes e u ≡ true) same deep.may) (subst (λ u. brace there.braces u ≡ 33) same more) span.1 behind
    spells)

-- the text is read to its end
pub tree_text : (bytes : List ℕ) (there : CursorView) (tree : TreeView)
    → ArePassed (text_start bytes) (source_tokens tree []) there → there.here ≡ []
    → Spelling bytes (λ list. IsTree list tree)
tree_text bytes there tree are none =
    tree_at bytes there tree (read_so bytes there (source_tokens tree []) are) none

-- the cursor of a text begins behind its first gap
abbrev pub begun : List ℕ → CursorView
begun here = record { here = here; braces = 0; last = 0; end = 0 }

pub text_rest : (s : Stop) (bytes rest : List ℕ) (there : CursorView) → StopsText s (text_start bytes) there
    → rest ≡ there.here → StopsText s (text_start bytes)
    (record { here = rest; braces = there.braces; last = there.last; end = there.end })
text_rest s bytes rest there h e = subst (λ x. StopsText s (text_start bytes)
    (record { here = x; braces = there.braces; last = there.last; end = there.end })) (sym e) h
