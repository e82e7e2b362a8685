-- The tokens that are recognised are those that the bytes spell.
use Rattle.std.proofs.Common.{◌≡◌, ℕ, ◌<◌, Bool, true, false, ◌&&◌, cond, eqb, nat_lt, List, [], ◌∷◌, Option, Some}
use Rattle.std.proofs.Common.{None, length, refl, sym, ◌∙◌, ap, subst, arith, not}
use Rattle.std.proofs.lemmas.Bool.Decides.{nat_tests}
use Rattle.std.proofs.lemmas.Bool.{lt-ltb, ltb-true, eqb-true, and_parts}
use Rattle.std.specs.{Prelude.{is_some, is_none}, List.{list_all}, Str.{bytes_eq}, Fmt.{decimal}}
use Rattle.std.specs.Cmp.Lexicographic.{same_text}
use Rattle.sect_front.specs.{Words.{is_letter, is_digit, is_name_byte, is_name, begins}, NameTokens.{is_name_token}}
use Rattle.sect_front.specs.{Spelling.{spelling_of, is_proper, IsSpelling}, declared.token.Token.{Token}}
use Rattle.sect_front.specs.Limits.{most_name_bytes}
use Rattle.sect_front.specs.steps.Recognition.{keyword_of, keyword_table, token_beside, or_name, word_token, number_of}
use Rattle.sect_front.specs.steps.Recognition.{as_number, single_sign, double_sign, sign_token, spelled}
use Rattle.sect_front.proofs.{Choices.{chosen, if_some_so}, NamesLemmas.{named, is_named, keyword_known, keyword_free}}
use Rattle.sect_front.proofs.Numbers.{number_decimal, number_back, decimal_digits, decimal_some}
use Rattle.sect_lemmas.proofs.Options.{some_injective, none_or_some, not_some}
use Rattle.sect_front.specs.declared.tree.Comparison.TheVariants as comparison
use Rattle.sect_front.specs.declared.token.Token.TheVariants as token

-- a digit is no letter
no_letter : (d : ℕ) → is_digit d ≡ true → is_letter d ≡ false
no_letter d h = grind (arith, nat_tests)

name_spelled : (n : List ℕ) → is_name n ≡ true → spelled n ≡ Some (token.Name n)
name_spelled [] h = cc
name_spelled (b ∷ bs) h =
    let m = named (b ∷ bs) h in
    let all = and_parts (is_name_byte b) (list_all is_name_byte bs) m.all in
    let none : keyword_of (b ∷ bs) ≡ None = not_some (keyword_of (b ∷ bs)) (keyword_known (b ∷ bs) ∙ m.free) in
    let short = lt-ltb (length bs) most_name_bytes (omega (arith, m.fits)) in
    rw (m.letter, all.1, short) (ap (λ o. Some (or_name o (b ∷ bs))) none)

digits_spelled : (ds : List ℕ) (n : ℕ) → list_all is_digit ds ≡ true → 0 < length ds → number_of ds ≡ Some n
    → spelled ds ≡ Some (token.Number n)
digits_spelled [] n h some e = absurd (omega arith)
digits_spelled (d ∷ ds) n h some e =
    let digit = and_parts (is_digit d) (list_all is_digit ds) h in
    go (is_letter d) (is_digit d) (no_letter d digit.0) digit.0
  where
    go : (l g : Bool) → l ≡ false → g ≡ true →
        cond l (cond (list_all is_name_byte ds && nat_lt (length ds) most_name_bytes) (Some (word_token (d ∷ ds))) None)
        (cond g (as_number (number_of (d ∷ ds))) (sign_token d ds)) ≡ Some (token.Number n)
    go false true p q = ap as_number e
    go true g p q = cc
    go false false p q = cc

-- the spelling of each token is recognised as it
pub spelled_proper : (t : Token) → is_proper t ≡ true → spelled (spelling_of t) ≡ Some t
spelled_proper (token.Name n) h = name_spelled n h
spelled_proper (token.Number n) h =
    let low = ltb-true n 9223372036854775808 h in
    digits_spelled (decimal n) n (decimal_digits n low) (decimal_some n low) (number_decimal n low)
spelled_proper token.Record h = refl
spelled_proper token.ProtectedBy h = refl
spelled_proper token.Global h = refl
spelled_proper token.Proc h = refl
spelled_proper token.Thread h = refl
spelled_proper token.Int h = refl
spelled_proper token.New h = refl
spelled_proper token.Null h = refl
spelled_proper token.Print h = refl
spelled_proper token.If h = refl
spelled_proper token.Else h = refl
spelled_proper token.While h = refl
spelled_proper token.Atomic h = refl
spelled_proper token.All h = refl
spelled_proper token.Call h = refl
spelled_proper token.Class h = refl
spelled_proper token.OpenBrace h = refl
spelled_proper token.CloseBrace h = refl
spelled_proper token.OpenParen h = refl
spelled_proper token.CloseParen h = refl
spelled_proper token.Semicolon h = refl
spelled_proper token.Comma h = refl
spelled_proper token.Dot h = refl
spelled_proper token.Equal h = refl
spelled_proper token.Plus h = refl
spelled_proper token.Minus h = refl
spelled_proper token.Star h = refl
spelled_proper (token.Comparison comparison.Equal) h = refl
spelled_proper (token.Comparison comparison.NotEqual) h = refl
spelled_proper (token.Comparison comparison.Less) h = refl
spelled_proper (token.Comparison comparison.LessOrEqual) h = refl

-- the spelling of a token begins with a letter and is no keyword
abbrev begins_free : List ℕ → Bool
begins_free bytes = begins is_letter bytes && is_none (keyword_of bytes)

digits_begin : (ds : List ℕ) → list_all is_digit ds ≡ true → begins_free ds ≡ false
digits_begin [] h = refl
digits_begin (d ∷ ds) h =
    ap (λ b. b && is_none (keyword_of (d ∷ ds)))
    (no_letter d (and_parts (is_digit d) (list_all is_digit ds) h).0)

-- so are the names alone
free_names : (t : Token) → is_proper t ≡ true → begins_free (spelling_of t) ≡ is_name_token t
free_names (token.Name n) h =
    let m = named n h in
    (λ j. m.letter j && keyword_free n j) ∙ ap not m.free
free_names (token.Number n) h = digits_begin (decimal n) (decimal_digits n (ltb-true n 9223372036854775808 h))
free_names token.Record h = refl
free_names token.ProtectedBy h = refl
free_names token.Global h = refl
free_names token.Proc h = refl
free_names token.Thread h = refl
free_names token.Int h = refl
free_names token.New h = refl
free_names token.Null h = refl
free_names token.Print h = refl
free_names token.If h = refl
free_names token.Else h = refl
free_names token.While h = refl
free_names token.Atomic h = refl
free_names token.All h = refl
free_names token.Call h = refl
free_names token.Class h = refl
free_names token.OpenBrace h = refl
free_names token.CloseBrace h = refl
free_names token.OpenParen h = refl
free_names token.CloseParen h = refl
free_names token.Semicolon h = refl
free_names token.Comma h = refl
free_names token.Dot h = refl
free_names token.Equal h = refl
free_names token.Plus h = refl
free_names token.Minus h = refl
free_names token.Star h = refl
free_names (token.Comparison comparison.Equal) h = refl
free_names (token.Comparison comparison.NotEqual) h = refl
free_names (token.Comparison comparison.Less) h = refl
free_names (token.Comparison comparison.LessOrEqual) h = refl

pub named_spelling : (bytes : List ℕ) (t : Token) → IsSpelling t bytes
    → (begins is_letter bytes && is_none (keyword_of bytes)) ≡ is_name_token t
named_spelling bytes t s = ap begins_free s.is ∙ free_names t s.proper

-- a fact of each token of a table, where the bytes are those beside it
abbrev EachSo : (Token → Type 0) → List ℕ → List (List ℕ × Token) → Type 0
EachSo P w [] = Unit {0}
EachSo P w (row ∷ rows) = (w ≡ row.0 → P row.1) × EachSo P w rows

beside_so : (P : Token → Type 0) (w : List ℕ) (rows : List (List ℕ × Token)) → EachSo P w rows → (t : Token)
    → token_beside w rows ≡ Some t → P t
beside_so P w [] h t e = absurd (none_or_some t e)
beside_so P w (row ∷ rows) h t e =
    if_some_so P (bytes_eq w row.0) row.1 (token_beside w rows) (λ same. h.0 (same_text w row.0 (sym same)))
    (beside_so P w rows h.1) t e

keyword_back : (w : List ℕ) (t : Token) → keyword_of w ≡ Some t → IsSpelling t w
keyword_back w =
    beside_so (λ t. IsSpelling t w) w keyword_table (
      λ e. record { is = e; proper = refl },
      (
        λ e. record { is = e; proper = refl },
        (
          λ e. record { is = e; proper = refl },
          (
            λ e. record { is = e; proper = refl },
            (
              λ e. record { is = e; proper = refl },
              (
                λ e. record { is = e; proper = refl },
                (
                  λ e. record { is = e; proper = refl },
                  (
                    λ e. record { is = e; proper = refl },
                    (
                      λ e. record { is = e; proper = refl },
                      (
                        λ e. record { is = e; proper = refl },
                        (
                          λ e. record { is = e; proper = refl },
                          (
                            λ e. record { is = e; proper = refl },
                            (
                              λ e. record { is = e; proper = refl },
                              (
                                λ e. record { is = e; proper = refl },
                                (λ e. record { is = e; proper = refl }, (λ e. record { is = e; proper = refl }, tt)),
                              ),
                            ),
                          ),
                        ),
                      ),
                    ),
                  ),
                ),
              ),
            ),
          ),
        ),
      ),
    )

-- a word that is no keyword is a name
word_back : (w : List ℕ) (o : Option Token) → keyword_of w ≡ o → (o ≡ None → is_name w ≡ true)
    → IsSpelling (or_name o w) w
word_back w None e h = record { is = refl; proper = h refl }
word_back w (Some t) e h = keyword_back w t e

letter_back : (b : ℕ) (bs : List ℕ) → is_letter b ≡ true → list_all is_name_byte bs ≡ true → length bs < most_name_bytes
    → IsSpelling (word_token (b ∷ bs)) (b ∷ bs)
letter_back b bs letter all fits =
    word_back (b ∷ bs) (keyword_of (b ∷ bs)) refl (λ none. is_named (b ∷ bs) (record {
      letter = letter;
      all = rw (letter, all) refl;
      fits = omega arith;
      free = sym (keyword_known (b ∷ bs)) ∙ ap is_some none;
    }))

number_spelling : (ds : List ℕ) (o : Option ℕ) → number_of ds ≡ o → (t : Token) → as_number o ≡ Some t → IsSpelling t ds
number_spelling ds None e t h = absurd (none_or_some t h)
number_spelling ds (Some n) e t h =
    let back = number_back ds n e in
    subst (λ u. IsSpelling u ds) (some_injective (token.Number n) t h)
    (record { is = back.0; proper = lt-ltb n 9223372036854775808 back.1 })

single_back : (b : ℕ) (t : Token) → single_sign b ≡ Some t → IsSpelling t (b ∷ [])
single_back b =
    let P : Token → Type 0 = λ u. IsSpelling u (b ∷ []) in
    if_some_so P (eqb b 123) token.OpenBrace _ (λ e. record { is = ap (λ x. x ∷ []) (eqb-true b 123 e); proper = refl })
    (
    if_some_so P (eqb b 125) token.CloseBrace _
    (λ e. record { is = ap (λ x. x ∷ []) (eqb-true b 125 e); proper = refl }) (
    if_some_so P (eqb b 40) token.OpenParen _ (λ e. record { is = ap (λ x. x ∷ []) (eqb-true b 40 e); proper = refl }) (
    if_some_so P (eqb b 41) token.CloseParen _ (λ e. record { is = ap (λ x. x ∷ []) (eqb-true b 41 e); proper = refl })
    (
    if_some_so P (eqb b 59) token.Semicolon _ (λ e. record { is = ap (λ x. x ∷ []) (eqb-true b 59 e); proper = refl }) (
    if_some_so P (eqb b 44) token.Comma _ (λ e. record { is = ap (λ x. x ∷ []) (eqb-true b 44 e); proper = refl }) (
    if_some_so P (eqb b 46) token.Dot _ (λ e. record { is = ap (λ x. x ∷ []) (eqb-true b 46 e); proper = refl }) (
    if_some_so P (eqb b 61) token.Equal _ (λ e. record { is = ap (λ x. x ∷ []) (eqb-true b 61 e); proper = refl }) (
    if_some_so P (eqb b 43) token.Plus _ (λ e. record { is = ap (λ x. x ∷ []) (eqb-true b 43 e); proper = refl }) (
    if_some_so P (eqb b 45) token.Minus _ (λ e. record { is = ap (λ x. x ∷ []) (eqb-true b 45 e); proper = refl }) (
    if_some_so P (eqb b 42) token.Star _ (λ e. record { is = ap (λ x. x ∷ []) (eqb-true b 42 e); proper = refl }) (
    if_some_so P (eqb b 60) (token.Comparison comparison.Less) _
    (λ e. record { is = ap (λ x. x ∷ []) (eqb-true b 60 e); proper = refl }) (
    λ t e. absurd (none_or_some t e)))))))))))))

double_back : (b : ℕ) (t : Token) → double_sign b ≡ Some t → IsSpelling t (b ∷ 61 ∷ [])
double_back b =
    let P : Token → Type 0 = λ u. IsSpelling u (b ∷ 61 ∷ []) in
    if_some_so P (eqb b 61) (token.Comparison comparison.Equal) _
    (λ e. record { is = ap (λ x. x ∷ 61 ∷ []) (eqb-true b 61 e); proper = refl }) (
    if_some_so P (eqb b 33) (token.Comparison comparison.NotEqual) _
    (λ e. record { is = ap (λ x. x ∷ 61 ∷ []) (eqb-true b 33 e); proper = refl }) (
    if_some_so P (eqb b 60) (token.Comparison comparison.LessOrEqual) _
    (λ e. record { is = ap (λ x. x ∷ 61 ∷ []) (eqb-true b 60 e); proper = refl }) (
    λ t e. absurd (none_or_some t e))))

sign_back : (b : ℕ) (bs : List ℕ) (t : Token) → sign_token b bs ≡ Some t → IsSpelling t (b ∷ bs)
sign_back b [] t h = single_back b t h
sign_back b (c ∷ []) t h =
    let e = chosen (eqb c 61) (double_sign b) t h in
    subst (λ x. IsSpelling t (b ∷ x ∷ [])) (sym (eqb-true c 61 e.0)) (double_back b t e.1)
sign_back b (c ∷ d ∷ cs) t h = absurd (none_or_some t h)

-- what is recognised is spelled so
pub spelling_back : (bytes : List ℕ) (t : Token) → spelled bytes ≡ Some t → IsSpelling t bytes
spelling_back [] t h = absurd (none_or_some t h)
spelling_back (b ∷ bs) t h = go (is_letter b) (is_digit b) refl h
  where
    go : (l d : Bool) → is_letter b ≡ l →
        cond l (cond (list_all is_name_byte bs && nat_lt (length bs) most_name_bytes) (Some (word_token (b ∷ bs))) None)
        (cond d (as_number (number_of (b ∷ bs))) (sign_token b bs)) ≡ Some t → IsSpelling t (b ∷ bs)
    go true d letter e =
        let short = nat_lt (length bs) most_name_bytes in
        let c = chosen (list_all is_name_byte bs && short) (Some (word_token (b ∷ bs))) t e in
        let f = and_parts (list_all is_name_byte bs) short c.0 in
        subst (λ u. IsSpelling u (b ∷ bs)) (some_injective (word_token (b ∷ bs)) t c.1)
        (letter_back b bs letter f.0 (ltb-true (length bs) most_name_bytes f.1))
    go false true letter e = number_spelling (b ∷ bs) (number_of (b ∷ bs)) refl t e
    go false false letter e = sign_back b bs t e
