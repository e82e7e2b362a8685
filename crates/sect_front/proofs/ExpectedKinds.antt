-- Which kinds may stand at a place.
use Rattle.std.proofs.Common.{◌≡◌, ℕ, ◌+◌, ◌-◌, ◌<◌, ◌≤◌, Bool, true, false, List, [], ◌∷◌, ◌++◌, Some, suc, length}
use Rattle.std.proofs.Common.{take}
use Rattle.std.proofs.Common.{drop, refl, sym, ◌∙◌, ap, subst, arith, length-drop, append-nil}
use Rattle.std.proofs.{lemmas.List.Elements.{filter-append}, lemmas.Bool.Decides.{nat_tests}, Math.Seq.{take-suc}}
use Rattle.std.proofs.lemmas.Bool.{lt-ltb}
use Rattle.std.specs.{Prelude.{⊤, get_or, filter, nat_lt, take_while, cond, codes}, List.{prefix_len}}
use Rattle.sect_front.specs.{Gaps.{after_gap}, Lexing.{Reaches}, TokenAt.{TokenAt}, Faults.{tokens_in, IsViable}}
use Rattle.sect_front.specs.Expected.{kind_of, all_kinds, AreExpected, AreExpectedAt, tokens_before}
use Rattle.sect_front.specs.{Samples.{sample_of}, declared.token.Token.{Token}, declared.expected.Expected.{Expected}}
use Rattle.sect_front.specs.declared.token_kind.TokenKind.{TokenKind}
use Rattle.sect_front.specs.steps.{Places.{takes, after}, Kinds.{takes_kind}}
use Rattle.sect_front.specs.steps.Passing.{CursorView}
use Rattle.sect_front.proofs.{Lexemes.{lexeme_only, pair}, Texts.{ReadTo}, Verdict.{start, viable_with, not_viable}}
use Rattle.sect_front.proofs.shared.Lexings.{gap_fits}
use Rattle.sect_lemmas.proofs.Options.{some_injective}
use Rattle.sect_front.specs.declared.token.Token.TheVariants as token
use Rattle.sect_front.specs.declared.expected.Expected.TheVariants as expected
use Rattle.sect_front.specs.declared.token_kind.TokenKind.TheVariants as of_token

-- all names may stand where one may, and all integers where one may
name_alike : (e : Expected) (n m : List ℕ) → takes e (token.Name n) ≡ takes e (token.Name m)
name_alike expected.Name n m = refl
name_alike _ n m = refl

number_alike : (e : Expected) (n m : ℕ) → takes e (token.Number n) ≡ takes e (token.Number m)
number_alike expected.Name n m = refl
number_alike _ n m = refl

sampled : (e : Expected) (t : Token) → takes_kind e (kind_of t) ≡ takes e t
sampled e (token.Name n) = name_alike e (codes "x") n
sampled e (token.Number n) = number_alike e 0 n
sampled e _ = refl

kind_of_sample : (k : TokenKind) → kind_of (sample_of k) ≡ k
kind_of_sample of_token.Name = refl
kind_of_sample of_token.Record = refl
kind_of_sample of_token.ProtectedBy = refl
kind_of_sample of_token.Global = refl
kind_of_sample of_token.Proc = refl
kind_of_sample of_token.Thread = refl
kind_of_sample of_token.Int = refl
kind_of_sample of_token.Null = refl
kind_of_sample of_token.New = refl
kind_of_sample of_token.Print = refl
kind_of_sample of_token.If = refl
kind_of_sample of_token.Else = refl
kind_of_sample of_token.While = refl
kind_of_sample of_token.Atomic = refl
kind_of_sample of_token.All = refl
kind_of_sample of_token.Call = refl
kind_of_sample of_token.Class = refl
kind_of_sample of_token.Number = refl
kind_of_sample of_token.OpenBrace = refl
kind_of_sample of_token.CloseBrace = refl
kind_of_sample of_token.OpenParen = refl
kind_of_sample of_token.CloseParen = refl
kind_of_sample of_token.Semicolon = refl
kind_of_sample of_token.Comma = refl
kind_of_sample of_token.Dot = refl
kind_of_sample of_token.Equal = refl
kind_of_sample of_token.Plus = refl
kind_of_sample of_token.Minus = refl
kind_of_sample of_token.Star = refl
kind_of_sample (of_token.Comparison c) = refl

-- the kinds that may follow are those of which a token may stand there
kinds_follow : (front : List Token) (e : Expected) (ps : List Expected) (kinds : List TokenKind)
    → after start front ≡ Some (e ∷ ps) → kinds ≡ filter (takes_kind e) all_kinds → AreExpected front kinds
kinds_follow front e ps kinds h is = (
  takes_kind e,
  λ k. (
    λ some. (sample_of k, kind_of_sample k, viable_with front e ps (sample_of k) h some),
    λ may. subst (λ x. takes_kind e x ≡ true) may.1 (sampled e may.0 ∙ taken may.0 may.2),
  ),
  is,
)
  where
    taken : (t : Token) → IsViable (front ++ t ∷ []) → takes e t ≡ true
    taken t v = go (takes e t) refl
      where
        go : (b : Bool) → takes e t ≡ b → takes e t ≡ true
        go true same = same
        go false same = absurd (not_viable front e ps t h same v)

-- these begin before a place
abbrev AreBefore : ℕ → List TokenAt → Type 0
AreBefore at [] = ⊤
AreBefore at (p ∷ ps) = (nat_lt p.at at ≡ true) × AreBefore at ps

-- what is left is no longer than the text
left_fits : (total : ℕ) (bytes : List ℕ) (ps : List TokenAt) (rest : List ℕ) → Reaches total bytes ps rest
    → length rest ≤ length bytes
left_fits total bytes [] rest h = omega (arith, ap length h)
left_fits total bytes (p ∷ ps) rest h = omega (
  arith,
  left_fits total (drop h.0 (after_gap bytes)) ps rest h.3,
  gap_fits bytes,
  length-drop h.0 (after_gap bytes),
)

-- the tokens that have been read begin before what is left
read_before : (total : ℕ) (bytes : List ℕ) (ps : List TokenAt) (rest : List ℕ) → Reaches total bytes ps rest
    → AreBefore (total - length (after_gap rest)) ps
read_before total bytes [] rest h = tt
read_before total bytes (p ∷ ps) rest h =
    let behind : List ℕ = drop h.0 (after_gap bytes) in (
      lt-ltb p.at (total - length (after_gap rest)) (omega (
        arith,
        h.1,
        h.2.within,
        h.2.some,
        length-drop h.0 (after_gap bytes),
        left_fits total behind ps rest h.3,
        gap_fits rest,
      )),
      read_before total behind ps rest h.3,
    )

-- a text that spells tokens goes on behind those that have been read
goes_behind : (total : ℕ) (bytes : List ℕ) (ps : List TokenAt) (rest : List ℕ) (qs : List TokenAt) (end : List ℕ)
    → Reaches total bytes ps rest → Reaches total bytes qs end → after_gap end ≡ []
    → (behind : List TokenAt) × (qs ≡ ps ++ behind) × Reaches total rest behind end
goes_behind total bytes [] rest qs end h k e = (qs, refl, subst (λ b. Reaches total b qs end) h k)
goes_behind total bytes (p ∷ ps) rest [] end h k e =
    absurd (omega (arith, h.2.within, h.2.some, ap length (ap after_gap k ∙ e)))
goes_behind total bytes (p ∷ ps) rest (q ∷ qs) end h k e =
    let same : Some (pair p.token h.0) ≡ Some (pair q.token k.0) = sym (lexeme_only _ p.token h.0 h.2)
    ∙ lexeme_only _ q.token k.0 k.2 in
    let one : pair p.token h.0 ≡ pair q.token k.0 = some_injective (pair p.token h.0) (pair q.token k.0) same in
    let place : p.at ≡ q.at = omega (arith, h.1, k.1) in
    let token_same : q ≡ p = λ i. record { token = (sym one i).0; at = sym place i } in
    let more = goes_behind total (drop h.0 (after_gap bytes)) ps rest qs end h.3
    (subst (λ n. Reaches total (drop n (after_gap bytes)) qs end) (sym (ap (λ z. z.1) one)) k.3) e in
    (more.0, ap (λ x. x ∷ qs) token_same ∙ ap (λ xs. p ∷ xs) more.1, more.2)

while_yes : {X : Type 0} (test : X → Bool) (x : X) (xs : List X) → test x ≡ true
    → take_while test (x ∷ xs) ≡ x ∷ take_while test xs
while_yes test x xs e =
    let one : 1 + prefix_len test xs ≡ suc (prefix_len test xs) = omega arith in
    ap (λ b. take (cond b (1 + prefix_len test xs) 0) (x ∷ xs)) e ∙ ap (λ n. take n (x ∷ xs)) one

while_no : {X : Type 0} (test : X → Bool) (x : X) (xs : List X) → test x ≡ false → take_while test (x ∷ xs) ≡ []
while_no test x xs e = ap (λ b. take (cond b (1 + prefix_len test xs) 0) (x ∷ xs)) e

-- the tokens before a place are those that have been read, and what begins before it behind them
before_joined : (at : ℕ) (ps qs : List TokenAt) → AreBefore at ps
    → tokens_before at (ps ++ qs) ≡ tokens_in ps ++ tokens_before at qs
before_joined at [] qs h = refl
before_joined at (p ∷ ps) qs h =
    ap tokens_in (while_yes (λ q. nat_lt q.at at) p (ps ++ qs) h.0)
    ∙ ap (λ w. p.token ∷ w) (before_joined at ps qs h.1)

-- nothing that follows begins before what is left
none_before : (total : ℕ) (rest : List ℕ) (behind : List TokenAt) (end : List ℕ) → Reaches total rest behind end
    → tokens_before (total - length (after_gap rest)) behind ≡ []
none_before total rest [] end k = refl
none_before total rest (q ∷ behind) end k =
    let at : ℕ = total - length (after_gap rest) in
    let later : nat_lt q.at at ≡ false = grind (arith, nat_tests) in
    ap tokens_in (while_no (λ p. nat_lt p.at at) q behind later)

-- what may stand behind the tokens that have been read
pub kinds_expected : (bytes : List ℕ) (here : CursorView) (front : List Token) (e : Expected) (es : List Expected)
    (kinds : List TokenKind) → ReadTo bytes here front → after start front ≡ Some (e ∷ es)
    → kinds ≡ filter (takes_kind e) all_kinds → AreExpectedAt bytes (length bytes - length here.here) kinds
kinds_expected bytes here front e es kinds h leads is = λ places spells.
    let at : ℕ = length bytes - length (after_gap h.reached.rest) in
    let ps : List TokenAt = h.places in
    let split = goes_behind (length bytes) bytes ps h.reached.rest places spells.0 h.reached.reaches spells.1
    spells.2 in
    let all : tokens_before at places ≡ tokens_in ps =
    ap (tokens_before at) split.1
    ∙ (before_joined at ps split.0 (read_before (length bytes) bytes ps h.reached.rest h.reached.reaches)
    ∙ (ap (λ w. tokens_in ps ++ w) (none_before (length bytes) h.reached.rest split.0 spells.0 split.2)
    ∙ append-nil (tokens_in ps))) in
    subst (λ xs. AreExpected (tokens_before (length bytes - length xs) places) kinds) h.reached.gap
    (subst (λ w. AreExpected w kinds) (sym (all ∙ h.same)) (kinds_follow front e es kinds leads is))

-- one more element that passes a test, and one that doesn't
filtered_next : {X : Type 0} (p : X → Bool) (xs : List X) (i : ℕ) (d : X) → i < length xs
    → filter p (take (i + 1) xs) ≡ filter p (take i xs) ++ filter p (get_or xs i d ∷ [])
filtered_next p xs i d h =
    let e : i + 1 ≡ suc i = omega arith in
    ap (filter p) (ap (λ n. take n xs) e ∙ take-suc xs i d h) ∙ filter-append p (take i xs) (get_or xs i d ∷ [])

pub filtered_kept : {X : Type 0} (p : X → Bool) (xs : List X) (i : ℕ) (d : X) (kept new : List X) → i < length xs
    → p (get_or xs i d) ≡ true → kept ≡ filter p (take i xs) → new ≡ kept ++ get_or xs i d ∷ []
    → new ≡ filter p (take (i + 1) xs)
filtered_kept p xs i d kept new h passes is more =
    let x = get_or xs i d in
    more ∙ (ap (λ w. w ++ x ∷ []) is ∙ sym (filtered_next p xs i d h
    ∙ ap (λ b. filter p (take i xs) ++ cond b (x ∷ []) []) passes))

pub filtered_left : {X : Type 0} (p : X → Bool) (xs : List X) (i : ℕ) (d : X) (kept : List X) → i < length xs
    → p (get_or xs i d) ≡ false → kept ≡ filter p (take i xs) → kept ≡ filter p (take (i + 1) xs)
filtered_left p xs i d kept h fails is =
    let x = get_or xs i d in
    is ∙ (sym (append-nil (filter p (take i xs))) ∙ sym (filtered_next p xs i d h
    ∙ ap (λ b. filter p (take i xs) ++ cond b (x ∷ []) []) fails))
