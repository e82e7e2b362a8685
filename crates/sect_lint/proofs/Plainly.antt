-- What is said where names don't matter: a limit, by what is declared and by the first tokens, and the number of
-- arguments.
use Rattle.std.proofs.Common.{◌≡◌, ℕ, List, [], ◌∷◌, Option, Some, None, map, slice_get, refl, sym, ◌∙◌, ap, ◌+◌, suc}
use Rattle.std.proofs.Common.{cond, nat_lt, not, take, drop, Bool, true, false, true≢false, arith}
use Rattle.std.proofs.{lemmas.Bool.Decides.{nat_tests}, lemmas.List.{length-map}, lemmas.Option.{slice_get-map}}
use Rattle.std.specs.{List.{prefix_len}, Prelude.{position, option_map, filter, length, nat_eq, ◌&&◌}}
use Rattle.sect_lemmas.proofs.Options.{some_injective}
use Rattle.sect_front.specs.{declared.span.Span.{Span}, declared.token.Token.{Token}}
use Rattle.sect_front.specs.declared.tree.Procedure.{Procedure}
use Rattle.sect_types.specs.declared.rules.rule.TypeFault.{TypeFault}
use Rattle.sect_places.specs.{Openings.{values_in}, declared.range.TokenRange.{TokenRange}}
use Rattle.sect_places.specs.{declared.name_use.Role.{Role}, declared.name_use.NameUse.{NameUse}}
use Rattle.sect_places.specs.{declared.name_use.NameSpan.{NameSpan}, Declarations.{is_declaration}}
use Rattle.sect_lint.specs.{Naming.{found, declared_at, is_declared_in}, Limits.{item_limit, limit_by, form_limit}}
use Rattle.sect_lint.specs.Forms.{form_of, first_form, named_form, after_name, assigned_form}
use Rattle.sect_lint.specs.{Counting.{counts_detail}, Places.{marked}, Mistakes.{of_types as mistake_by}}
use Rattle.sect_lint.specs.declared.mistake.Mistake.{Mistake}
use Rattle.sect_lint.specs.steps.Plain.{is_declared_there, by_use, use_limit, is_plain, opened_counts}
use Rattle.sect_front.specs.declared.token.Token.TheVariants as token
use Rattle.sect_types.specs.declared.rules.rule.TypeFault.TheVariants as types
use Rattle.sect_places.specs.declared.name_use.Role.TheVariants as role
use Rattle.sect_lint.specs.declared.mistake.Mistake.TheVariants as mistake

abbrev used_of : NameSpan → NameUse
used_of n = n.used

same_prefix : (item : ℕ) (names : List NameSpan)
    → prefix_len (λ u. not (is_declared_there item u)) (map used_of names)
    ≡ prefix_len (λ n. not (is_declared_in item n)) names
same_prefix item [] = refl
same_prefix item (n ∷ names) = ap (λ k. cond (not (is_declared_in item n)) (1 + k) 0) (same_prefix item names)

same_place : (item : ℕ) (names : List NameSpan)
    → position (is_declared_there item) (map used_of names) ≡ declared_at names item
same_place item names =
    let front = same_prefix item names in
    let many = length-map names used_of in
    λ j. cond (nat_lt (front j) (many j)) (Some (front j)) None

by_found : (o : Option NameSpan) (tokens : List Token) → by_use (option_map used_of o) tokens ≡ item_limit o tokens
by_found None tokens = refl
by_found (Some n) tokens = refl

by_number : (names : List NameSpan) (o : Option ℕ) (tokens : List Token)
    → use_limit (map used_of names) o tokens ≡ item_limit (found names o) tokens
by_number names None tokens = refl
by_number names (Some k) tokens =
    ap (λ (o : Option NameUse). by_use o tokens) (slice_get-map used_of names k) ∙ by_found (slice_get names k) tokens

pub same_limit : (names : List NameSpan) (uses : List NameUse) (item : ℕ) (tokens : List Token)
    → map (λ (n : NameSpan). n.used) names ≡ uses
    → use_limit uses (position (is_declared_there item) uses) tokens
    ≡ item_limit (found names (declared_at names item)) tokens
same_limit names uses item tokens e =
    ap (λ us. use_limit us (position (is_declared_there item) us) tokens) (sym e)
    ∙ ap (λ o. use_limit (map used_of names) o tokens) (same_place item names)
    ∙ by_number names (declared_at names item) tokens

-- the first name that passes a test
abbrev first_of : (NameUse → Bool) → List NameUse → Option NameUse
first_of q [] = None
first_of q (u ∷ us) = cond (q u) (Some u) (first_of q us)

-- a test of two numbers, of which each is one more
next_test : (n m : ℕ) (b : Bool) → nat_lt n m ≡ b → nat_lt (1 + n) (m + 1) ≡ b
next_test n m true e = grind (arith, nat_tests)
next_test n m false e = grind (arith, nat_tests)

some_test : (n : ℕ) → nat_lt 0 (suc n) ≡ true
some_test n = grind (arith, nat_tests)

limit_behind : (u : NameUse) (us : List NameUse) (k : ℕ) (tokens : List Token) (b : Bool)
    → use_limit (u ∷ us) (cond b (Some (1 + k)) None) tokens ≡ use_limit us (cond b (Some k) None) tokens
limit_behind u us k tokens true =
    let next : 1 + k ≡ suc k = omega arith in
    ap (λ n. by_use (slice_get (u ∷ us) n) tokens) next
limit_behind u us k tokens false = refl

-- the limit is by the first one
limit_first : (q : NameUse → Bool) (uses : List NameUse) (tokens : List Token)
    → use_limit uses (position q uses) tokens ≡ by_use (first_of q uses) tokens
limit_first q [] tokens = refl
limit_first q (u ∷ us) tokens = go (q u) (limit_first q us tokens)
  where
    front : ℕ
    front = prefix_len (λ x. not (q x)) us

    go : (b : Bool) → use_limit us (position q us) tokens ≡ by_use (first_of q us) tokens
        → use_limit (u ∷ us) (cond (nat_lt (cond (not b) (1 + front) 0) (length (u ∷ us)))
        (Some (cond (not b) (1 + front) 0)) None) tokens ≡ by_use (cond b (Some u) (first_of q us)) tokens
    go true rest = ap (λ b. use_limit (u ∷ us) (cond b (Some 0) None) tokens) (some_test (length us))
    go false rest =
        let many : length (u ∷ us) ≡ length us + 1 = omega arith in
        let within : nat_lt (1 + front) (length (u ∷ us)) ≡ nat_lt front (length us) =
        ap (nat_lt (1 + front)) many ∙ next_test front (length us) (nat_lt front (length us)) refl in
        ap (λ b. use_limit (u ∷ us) (cond b (Some (1 + front)) None) tokens) within
        ∙ limit_behind u us front tokens (nat_lt front (length us)) ∙ rest

-- that is declared in an item is the first of the item's own names that is
first_own : (item : ℕ) (uses : List NameUse)
    → first_of (is_declared_there item) (filter (λ u. nat_eq u.item item) uses)
    ≡ first_of (is_declared_there item) uses
first_own item [] = refl
first_own item (u ∷ us) = go (nat_eq u.item item) refl (first_own item us)
  where
    own : List NameUse
    own = filter (λ x. nat_eq x.item item) us

    go : (b : Bool) → nat_eq u.item item ≡ b
        → first_of (is_declared_there item) own ≡ first_of (is_declared_there item) us
        → first_of (is_declared_there item) (cond b (u ∷ own) own)
        ≡ cond (b && is_declaration u.role) (Some u) (first_of (is_declared_there item) us)
    go true e rest = ap (λ t. cond (t && is_declaration u.role) (Some u) (first_of (is_declared_there item) own)) e
        ∙ ap (λ o. cond (is_declaration u.role) (Some u) o) rest
    go false e rest = rest

-- so the item's own names tell its limit
pub own_limit : (item : ℕ) (uses : List NameUse) (tokens : List Token)
    → use_limit (filter (λ u. nat_eq u.item item) uses)
    (position (is_declared_there item) (filter (λ u. nat_eq u.item item) uses)) tokens
    ≡ use_limit uses (position (is_declared_there item) uses) tokens
own_limit item uses tokens =
    limit_first (is_declared_there item) (filter (λ u. nat_eq u.item item) uses) tokens
    ∙ ap (λ o. by_use o tokens) (first_own item uses) ∙ sym (limit_first (is_declared_there item) uses tokens)

-- the form of an item is that of its first tokens
after_same : (t : Token) (some all : List Token) → assigned_form some ≡ assigned_form all
    → after_name t some ≡ after_name t all
after_same token.Equal some all e = e
after_same _ some all e = refl

first_same : (t : Token) (some all : List Token) → named_form some ≡ named_form all
    → first_form t some ≡ first_form t all
first_same (token.Name x) some all e = e
first_same _ some all e = refl

same_form : (tokens : List Token) → form_of (take 4 tokens) ≡ form_of tokens
same_form [] = refl
same_form (a ∷ []) = refl
same_form (a ∷ b ∷ []) = refl
same_form (a ∷ b ∷ c ∷ []) = refl
same_form (a ∷ b ∷ c ∷ d ∷ tokens) =
    first_same a (b ∷ c ∷ d ∷ []) (b ∷ c ∷ d ∷ tokens) (after_same b (c ∷ d ∷ []) (c ∷ d ∷ tokens) refl)

by_form : (r : Role) (some all : List Token) → form_of some ≡ form_of all → limit_by r some ≡ limit_by r all
by_form (role.Declared what) some all e = refl
by_form _ some all e = ap form_limit e

-- and so is its limit
pub limit_opened : (o : Option NameSpan) (tokens : List Token) → item_limit o (take 4 tokens) ≡ item_limit o tokens
limit_opened None tokens = ap form_limit (same_form tokens)
limit_opened (Some n) tokens = by_form n.used.role (take 4 tokens) tokens (same_form tokens)

-- what is told of a call by its first tokens
pub counts_opened : (ps : List Procedure) (tokens : List Token) (spans : List Span)
    → opened_counts ps (take 4 tokens) (take 4 spans) (values_in (drop 2 tokens)) ≡ counts_detail ps tokens spans
counts_opened ps [] spans = refl
counts_opened ps (a ∷ []) spans = refl
counts_opened ps (a ∷ b ∷ tokens) [] = by_token b
  where
    by_token : (t : Token) → opened_counts ps (a ∷ t ∷ take 2 tokens) [] (values_in tokens)
        ≡ counts_detail ps (a ∷ t ∷ tokens) []
    by_token (token.Name f) = refl
    by_token _ = refl
counts_opened ps (a ∷ b ∷ tokens) (s ∷ []) = by_token b
  where
    by_token : (t : Token) → opened_counts ps (a ∷ t ∷ take 2 tokens) (s ∷ []) (values_in tokens)
        ≡ counts_detail ps (a ∷ t ∷ tokens) (s ∷ [])
    by_token (token.Name f) = refl
    by_token _ = refl
counts_opened ps (a ∷ b ∷ tokens) (s ∷ u ∷ spans) = by_token b
  where
    by_token : (t : Token) → opened_counts ps (a ∷ t ∷ take 2 tokens) (s ∷ u ∷ take 2 spans) (values_in tokens)
        ≡ counts_detail ps (a ∷ t ∷ tokens) (s ∷ u ∷ spans)
    by_token (token.Name f) = refl
    by_token _ = refl

-- an item that breaks such a rule is marked whole
pub marked_whole : (fault : TypeFault) (m : Mistake) → mistake_by fault ≡ Some m → is_plain fault ≡ true
    → (r : TokenRange) → marked m r ≡ r
marked_whole (types.TooMany i) m is plain r = ap (λ n. marked n r) (sym (some_injective mistake.TooMany m is))
marked_whole (types.Arguments i) m is plain r = ap (λ n. marked n r) (sym (some_injective mistake.Arguments m is))
marked_whole (types.SharedOutside i) m is plain r =
    ap (λ n. marked n r) (sym (some_injective mistake.SharedOutside m is))
marked_whole (types.Nested i) m is plain r = ap (λ n. marked n r) (sym (some_injective mistake.Nested m is))
marked_whole _ m is plain r = absurd (true≢false (sym plain))
