-- Which token stands at the front of a text.
use Rattle.std.proofs.Common.{◌≡◌, ℕ, zero, suc, ◌+◌, ◌-◌, ◌*◌, ◌<◌, ◌≤◌, Bool, true, false, not, ◌||◌, ◌&&◌, cond, eqb}
use Rattle.std.proofs.Common.{nat_lt, List, [], ◌∷◌, Option, Some, None, length, take, drop, refl, sym, ◌∙◌, ap, subst}
use Rattle.std.proofs.{Common.{arith, IfSome}, lemmas.Bool.{eqb-true, and_parts, not-true, or_right, or_parts}}
use Rattle.std.proofs.{lemmas.List.Folds.{length-prefix_len}, lemmas.List.Sums.{prefix_len-le-length}}
use Rattle.std.specs.{List.{list_all, take_while, prefix_len}, Str.{bytes_eq}}
use Rattle.sect_front.specs.{Words.{is_letter, is_digit, is_name_byte}, Gaps.{begins_with}}
use Rattle.sect_front.specs.{Lexing.{stands, IsFirst, IsBad}, declared.token.Token.{Token}, Limits.{most_name_bytes}}
use Rattle.sect_front.specs.steps.Recognition.{keyword_of, keyword_table, token_beside, or_name, word_token}
use Rattle.sect_front.specs.steps.Recognition.{decimal_from, number_of, as_number, single_sign, double_sign, sign_token}
use Rattle.sect_front.specs.steps.Recognition.{spelled}
use Rattle.sect_front.specs.steps.Lexeme.{with_length, longest, sign_at, lexeme_of, begins_name}
use Rattle.sect_front.proofs.{Spellings.{spelling_back, spelled_proper}, Choices.{chosen, refused, if_some, if_some_so}}
use Rattle.sect_lemmas.proofs.Options.{some_injective, none_or_some}
use Rattle.sect_front.specs.declared.tree.Comparison.TheVariants as comparison
use Rattle.sect_front.specs.declared.token.Token.TheVariants as token

-- the token is recognised at the front, in the first n bytes
pub record IsFront (t : Token) (n : ℕ) (bytes : List ℕ) : Type 0 where
  pub within : n ≤ length bytes
  pub some : 0 < n
  pub spells : spelled (take n bytes) ≡ Some t
  pub free : stands t (drop n bytes) ≡ true

-- a fact of each token of a table
abbrev EachToken : (Token → Type 0) → List (List ℕ × Token) → Type 0
EachToken P [] = Unit {0}
EachToken P (row ∷ rows) = P row.1 × EachToken P rows

beside_holds : (P : Token → Type 0) (w : List ℕ) (rows : List (List ℕ × Token)) → EachToken P rows → (t : Token)
    → token_beside w rows ≡ Some t → P t
beside_holds P w [] h t e = absurd (none_or_some t e)
beside_holds P w (row ∷ rows) h t e =
    if_some P (bytes_eq w row.0) row.1 (token_beside w rows) h.0 (beside_holds P w rows h.1) t e

-- keywords and names stand where no name byte follows
stands_word : (w rest : List ℕ) → stands (word_token w) rest ≡ not (begins_name rest)
stands_word w rest = go (keyword_of w) (beside_holds P w keyword_table (
  refl,
  (
    refl,
    (
      refl,
      (refl, (refl, (refl, (refl, (refl, (refl, (refl, (refl, (refl, (refl, (refl, (refl, (refl, tt))))))))))))),
    ),
  ),
))
  where
    P : Token → Type 0
    P t = stands t rest ≡ not (begins_name rest)

    go : (o : Option Token) → ((t : Token) → o ≡ Some t → stands t rest ≡ not (begins_name rest))
        → stands (or_name o w) rest ≡ not (begins_name rest)
    go None h = refl
    go (Some t) h = h t refl

digits_are_names : (n : ℕ) (ds : List ℕ) (k : ℕ) → decimal_from n ds ≡ Some k → list_all is_name_byte ds ≡ true
digits_are_names n [] k h = refl
digits_are_names n (d ∷ ds) k h =
    let c = chosen _ _ _ h in
    let e = and_parts _ _ c.0 in
    rw (or_right (is_letter d) (is_digit d) e.0) (digits_are_names (n * 10 + (d - 48)) ds k c.1)

numbers_are_names : (ds : List ℕ) (t : Token) → as_number (number_of ds) ≡ Some t → (k : ℕ) × (number_of ds ≡ Some k)
    × (t ≡ token.Number k)
numbers_are_names ds t h = go (number_of ds) h
  where
    go : (o : Option ℕ) → as_number o ≡ Some t → (k : ℕ) × (o ≡ Some k) × (t ≡ token.Number k)
    go None e = cc
    go (Some k) e = (k, refl, cc)

-- what is known of a token that begins with a byte of a name
record IsWord (bytes : List ℕ) (t : Token) : Type 0 where
  names : list_all is_name_byte bytes ≡ true
  stands_so : (rest : List ℕ) → stands t rest ≡ not (begins_name rest)

letter_word : (b : ℕ) (bs : List ℕ) (t : Token) → is_letter b ≡ true
    → cond (list_all is_name_byte bs && nat_lt (length bs) most_name_bytes) (Some (word_token (b ∷ bs))) None ≡ Some t
    → IsWord (b ∷ bs) t
letter_word b bs t l h =
    let c = chosen (list_all is_name_byte bs && nat_lt (length bs) most_name_bytes) (Some (word_token (b ∷ bs))) t h in
    let e = and_parts (list_all is_name_byte bs) (nat_lt (length bs) most_name_bytes) c.0 in
    let same : word_token (b ∷ bs) ≡ t = some_injective (word_token (b ∷ bs)) t c.1 in
    record {
      names = rw (l, e.0) refl;
      stands_so =
          λ rest. subst (λ u. stands u rest ≡ not (begins_name rest)) same (stands_word (b ∷ bs) rest);
    }

digit_word : (b : ℕ) (bs : List ℕ) (t : Token) → as_number (number_of (b ∷ bs)) ≡ Some t → IsWord (b ∷ bs) t
digit_word b bs t h =
    let n = numbers_are_names (b ∷ bs) t h in
    let c = refused _ _ _ n.1 in
    record { names = digits_are_names 0 (b ∷ bs) n.0 c.1; stands_so = λ rest. ap (λ u. stands u rest) n.2 }

is_word : (b : ℕ) (bs : List ℕ) (t : Token) → is_name_byte b ≡ true → spelled (b ∷ bs) ≡ Some t → IsWord (b ∷ bs) t
is_word b bs t h e = go (is_letter b) (is_digit b) refl refl h e
  where
    go : (l d : Bool) → is_letter b ≡ l → is_digit b ≡ d → (l || d) ≡ true →
        cond l (cond (list_all is_name_byte bs && nat_lt (length bs) most_name_bytes) (Some (word_token (b ∷ bs))) None)
        (cond d (as_number (number_of (b ∷ bs))) (sign_token b bs)) ≡ Some t → IsWord (b ∷ bs) t
    go true d p q h e = letter_word b bs t p e
    go false true p q h e = digit_word b bs t e
    go false false p q h e = cc

abbrev pub pair : Token → ℕ → Token × ℕ
pair t n = (t, n)

-- names end where no byte of a name follows
word_end : (bytes : List ℕ) (m : ℕ) → m ≤ length bytes → list_all is_name_byte (take m bytes) ≡ true
    → begins_name (drop m bytes) ≡ false → prefix_len is_name_byte bytes ≡ m
word_end [] zero h all ends = refl
word_end [] (suc m) h all ends = absurd (omega arith)
word_end (b ∷ bs) zero h all ends = rw ends refl
word_end (b ∷ bs) (suc m) h all ends =
    let e = and_parts (is_name_byte b) (list_all is_name_byte (take m bs)) all in
    rw e.0 (omega (arith, word_end bs m (omega arith) e.1 ends))

word_names : (bytes : List ℕ) → begins_name (drop (prefix_len is_name_byte bytes) bytes) ≡ false
word_names [] = refl
word_names (b ∷ bs) = go (is_name_byte b) refl (word_names bs)
  where
    go : (c : Bool) → is_name_byte b ≡ c → begins_name (drop (prefix_len is_name_byte bs) bs) ≡ false
        → begins_name (drop (cond c (1 + prefix_len is_name_byte bs) 0) (b ∷ bs)) ≡ false
    go true e h = let one : 1 + prefix_len is_name_byte bs ≡ suc (prefix_len is_name_byte bs) = omega arith in rw one h
    go false e h = e

-- a token that stands at the front and begins as a word is that word
first_word : (b : ℕ) (bs : List ℕ) (t : Token) (m : ℕ) → is_name_byte b ≡ true → IsFront t m (b ∷ bs)
    → prefix_len is_name_byte (b ∷ bs) ≡ m
first_word b bs t zero h f = absurd (omega (arith, f.some))
first_word b bs t (suc m) h f =
    let w = is_word b (take m bs) t h f.spells in
    word_end (b ∷ bs) (suc m) f.within w.names
    (not-true (begins_name (drop m bs)) (sym (w.stands_so (drop m bs)) ∙ f.free))

-- the word at the front stands there, where it is a token
pub word_first : (b : ℕ) (bs : List ℕ) (t : Token) → is_name_byte b ≡ true
    → spelled (take_while is_name_byte (b ∷ bs)) ≡ Some t →
    IsFront t (length (take_while is_name_byte (b ∷ bs))) (b ∷ bs)
word_first b bs t h e =
    let n : length (take_while is_name_byte (b ∷ bs)) ≡ prefix_len is_name_byte (b ∷ bs) =
    length-prefix_len is_name_byte (b ∷ bs) in
    let one : prefix_len is_name_byte (b ∷ bs) ≡ suc (prefix_len is_name_byte bs) = rw h (omega arith) in
    let w = is_word b (take (prefix_len is_name_byte bs) bs) t h (ap (λ k. spelled (take k (b ∷ bs))) (sym one) ∙ e) in
    rw n (record {
      within = prefix_len-le-length is_name_byte (b ∷ bs);
      some = omega (arith, one);
      spells = e;
      free = w.stands_so (drop (prefix_len is_name_byte (b ∷ bs)) (b ∷ bs)) ∙ ap not (word_names (b ∷ bs));
    })

-- no other token stands there
word_only : (b : ℕ) (bs : List ℕ) (t : Token) (m : ℕ) → is_name_byte b ≡ true → IsFront t m (b ∷ bs) →
    with_length (length (take_while is_name_byte (b ∷ bs))) (spelled (take_while is_name_byte (b ∷ bs))) ≡ Some (t, m)
word_only b bs t m h f =
    let n : length (take_while is_name_byte (b ∷ bs)) ≡ m = length-prefix_len is_name_byte (b ∷ bs)
    ∙ first_word b bs t m h f in
    let same : spelled (take_while is_name_byte (b ∷ bs)) ≡ Some t =
    ap (λ k. spelled (take k (b ∷ bs))) (first_word b bs t m h f) ∙ f.spells in
    ap (with_length (length (take_while is_name_byte (b ∷ bs)))) same ∙ ap (λ k. Some (pair t k)) n

-- where a sign of one byte may stand
single_stands : (b : ℕ) (rest : List ℕ) → (eqb b 61 ≡ true → not (begins_with 61 rest) ≡ true)
    → (eqb b 60 ≡ true → not (begins_with 61 rest) ≡ true) → (t : Token) → single_sign b ≡ Some t → stands t rest ≡ true
single_stands b rest equal less =
    let P : Token → Type 0 = λ u. stands u rest ≡ true in
    if_some P (eqb b 123) token.OpenBrace _ refl
    (if_some P (eqb b 125) token.CloseBrace _ refl
    (if_some P (eqb b 40) token.OpenParen _ refl (if_some P (eqb b 41) token.CloseParen _ refl (
    if_some P (eqb b 59) token.Semicolon _ refl (if_some P (eqb b 44) token.Comma _ refl (
    if_some P (eqb b 46) token.Dot _ refl (if_some_so P (eqb b 61) token.Equal _ equal (
    if_some P (eqb b 43) token.Plus _ refl (
    if_some P (eqb b 45) token.Minus _ refl (if_some P (eqb b 42) token.Star _ refl (
    if_some_so P (eqb b 60) (token.Comparison comparison.Less) _ less (λ u f. absurd (none_or_some u f)))))))))))))

double_stands : (b : ℕ) (rest : List ℕ) (t : Token) → double_sign b ≡ Some t → stands t rest ≡ true
double_stands b rest =
    let P : Token → Type 0 = λ u. stands u rest ≡ true in
    if_some P (eqb b 61) (token.Comparison comparison.Equal) _ refl
    (if_some P (eqb b 33) (token.Comparison comparison.NotEqual) _ refl
    (if_some P (eqb b 60) (token.Comparison comparison.LessOrEqual) _ refl (λ u f. absurd (none_or_some u f))))

-- a sign of one byte that may stand before `=` makes no other sign with it
no_double : (b : ℕ) (rest : List ℕ) (t : Token) → single_sign b ≡ Some t → stands t rest ≡ true
    → begins_with 61 rest ≡ true → double_sign b ≡ None
no_double b rest t e free next = go (eqb b 61) (eqb b 33) (eqb b 60) refl refl refl
  where
    clash : (u : Token) → single_sign b ≡ Some u → stands u rest ≡ not (begins_with 61 rest) → ⊥
    clash u f g =
        let same : t ≡ u = some_injective t u (sym e ∙ f) in
        let yes : not (begins_with 61 rest) ≡ true = sym g ∙ (subst (λ x. stands x rest ≡ true) same free) in
        let no : not (begins_with 61 rest) ≡ false = ap not next in cc

    go : (p q r : Bool) → eqb b 61 ≡ p → eqb b 33 ≡ q → eqb b 60 ≡ r
        → cond p (Some (token.Comparison comparison.Equal))
        (cond q (Some (token.Comparison comparison.NotEqual))
        (cond r (Some (token.Comparison comparison.LessOrEqual)) None)) ≡ None
    go true q r f g h = absurd (clash token.Equal (ap single_sign (eqb-true b 61 f)) refl)
    go false true r f g h = absurd (none_or_some t (sym (ap single_sign (eqb-true b 33 g)) ∙ e))
    go false false true f g h = absurd (clash (token.Comparison comparison.Less)
        (ap single_sign (eqb-true b 60 h)) refl)
    go false false false f g h = refl

-- what a sign at the front spells
sign_spelled : (b : ℕ) (bs : List ℕ) → is_name_byte b ≡ false → spelled (b ∷ bs) ≡ sign_token b bs
sign_spelled b bs h = let n = or_parts (is_letter b) (is_digit b) h in rw (n.0, n.1) refl

sign_first : (b : ℕ) (bs : List ℕ) (t : Token) (n : ℕ) → is_name_byte b ≡ false → sign_at b bs ≡ Some (t, n)
    → IsFront t n (b ∷ bs)
sign_first b bs t n h e = go (begins_with 61 bs) refl (double_sign b) refl (single_sign b) refl e
  where
    is : (u : Token) (k : ℕ) → Some (pair u k) ≡ Some (t, n) → IsFront u k (b ∷ bs) → IsFront t n (b ∷ bs)
    is u k e f = subst (λ y. IsFront y.0 y.1 (b ∷ bs)) (some_injective (pair u k) (t, n) e) f

    two : (u : Token) (cs : List ℕ) → begins_with 61 cs ≡ true → double_sign b ≡ Some u → IsFront u 2 (b ∷ cs)
    two u [] p q = cc
    two u (c ∷ cs) p q =
        record {
          within = omega arith;
          some = omega arith;
          spells = sign_spelled b (c ∷ []) h ∙ rw p q;
          free =
              double_stands b cs u q;
        }

    one : (u : Token) → single_sign b ≡ Some u → (eqb b 61 ≡ true → not (begins_with 61 bs) ≡ true)
        → (eqb b 60 ≡ true → not (begins_with 61 bs) ≡ true) → IsFront u 1 (b ∷ bs)
    one u q k l = record {
      within = omega arith;
      some = omega arith;
      spells = sign_spelled b [] h ∙ q;
      free =
          single_stands b bs k l u q;
    }

    not_double : double_sign b ≡ None → (k : ℕ) → (u : Token) → double_sign k ≡ Some u → eqb b k ≡ true → ⊥
    not_double none k u some same = none_or_some u (sym none ∙ (ap double_sign (eqb-true b k same) ∙ some))

    go : (c : Bool) → begins_with 61 bs ≡ c → (o : Option Token) → double_sign b ≡ o → (u : Option Token)
        → single_sign b ≡ u → longest (cond c o None) u ≡ Some (t, n) → IsFront t n (b ∷ bs)
    go true p (Some x) q u r e = is x 2 e (two x bs p q)
    go true p None q None r e = absurd (none_or_some (t, n) e)
    go true p None q (Some x) r e =
        is x 1 e (one x r (λ k. absurd (not_double q 61 (token.Comparison comparison.Equal) refl k))
        (λ k. absurd (not_double q 60 (token.Comparison comparison.LessOrEqual) refl k)))
    go false p o q None r e = absurd (none_or_some (t, n) e)
    go false p o q (Some x) r e = is x 1 e (one x r (λ k. ap not p) (λ k. ap not p))

sign_only : (b : ℕ) (bs : List ℕ) (t : Token) (n : ℕ) → is_name_byte b ≡ false → IsFront t n (b ∷ bs)
    → sign_at b bs ≡ Some (t, n)
sign_only b bs t zero h f = absurd (omega (arith, f.some))
sign_only b bs t (suc zero) h f =
    let e : single_sign b ≡ Some t = sym (sign_spelled b [] h) ∙ f.spells in
    go (begins_with 61 bs) (λ p. no_double b bs t e f.free p) e
  where
    go : (c : Bool) → (c ≡ true → double_sign b ≡ None) → single_sign b ≡ Some t
        → longest (cond c (double_sign b) None) (single_sign b) ≡ Some (t, 1)
    go true k e = rw (k refl, e) refl
    go false k e = rw e refl
sign_only b [] t (suc (suc n)) h f = absurd (omega (arith, f.within))
sign_only b (c ∷ cs) t (suc (suc zero)) h f =
    let e = chosen (eqb c 61) (double_sign b) t (sym (sign_spelled b (c ∷ []) h) ∙ f.spells) in
    rw (e.0, e.1) refl
sign_only b (c ∷ []) t (suc (suc (suc n))) h f = absurd (omega (arith, f.within))
sign_only b (c ∷ d ∷ cs) t (suc (suc (suc n))) h f =
    absurd (none_or_some t (sym (sign_spelled b (c ∷ d ∷ take n cs) h) ∙ f.spells))

-- how many bytes are told of a token, where 0 tells that there is none
pub told_count : (o : Option (Token × ℕ)) (t u : Token) (m n : ℕ) → (0 < m → o ≡ Some (pair u m)) → (m ≡ 0 → o ≡ None)
    → o ≡ Some (pair t n) → m ≡ n
told_count o t u zero n some none e = absurd (none_or_some (pair t n) (sym (none refl) ∙ e))
told_count o t u (suc m) n some none e =
    ap (λ z. z.1) (some_injective (pair u (suc m)) (pair t n) (sym (some (omega arith)) ∙ e))

pub names_pass : (bytes : List ℕ) → list_all is_name_byte (take_while is_name_byte bytes) ≡ true
names_pass [] = refl
names_pass (b ∷ bs) = go (is_name_byte b) refl (names_pass bs)
  where
    go : (c : Bool) → is_name_byte b ≡ c → list_all is_name_byte (take (prefix_len is_name_byte bs) bs) ≡ true
        → list_all is_name_byte (take (cond c (1 + prefix_len is_name_byte bs) 0) (b ∷ bs)) ≡ true
    go true e h = let one : 1 + prefix_len is_name_byte bs ≡ suc (prefix_len is_name_byte bs) = omega arith in
        rw one (rw e h)
    go false e h = refl

-- what lexeme_of gives stands at the front, and where it gives nothing, nothing does
lexeme_front : (bytes : List ℕ) (t : Token) (n : ℕ) → lexeme_of bytes ≡ Some (t, n) → IsFront t n bytes
lexeme_front [] t n e = absurd (none_or_some (t, n) e)
lexeme_front (b ∷ bs) t n e = go (is_name_byte b) refl (spelled (take_while is_name_byte (b ∷ bs))) refl e
  where
    go : (c : Bool) → is_name_byte b ≡ c → (o : Option Token) → spelled (take_while is_name_byte (b ∷ bs)) ≡ o →
        cond c (with_length (length (take_while is_name_byte (b ∷ bs))) o) (sign_at b bs) ≡ Some (t, n)
        → IsFront t n (b ∷ bs)
    go true p None q e = absurd (none_or_some (t, n) e)
    go true p (Some u) q e =
        subst (λ y. IsFront y.0 y.1 (b ∷ bs)) (some_injective (u, length (take_while is_name_byte (b ∷ bs))) (t, n) e)
        (word_first b bs u p q)
    go false p o q e = sign_first b bs t n p e

-- what stands at the front is what lexeme_of gives
lexeme_same : (bytes : List ℕ) (t : Token) (n : ℕ) → IsFront t n bytes → lexeme_of bytes ≡ Some (t, n)
lexeme_same [] t n f = absurd (omega (arith, f.within, f.some))
lexeme_same (b ∷ bs) t n f = go (is_name_byte b) refl
  where
    go : (c : Bool) → is_name_byte b ≡ c
        → cond c (with_length (length (take_while is_name_byte (b ∷ bs))) (spelled (take_while is_name_byte (b ∷ bs))))
        (sign_at b bs) ≡ Some (t, n)
    go true p = word_only b bs t n p f
    go false p = sign_only b bs t n p f

pub lexeme_first : (bytes : List ℕ) (t : Token) (n : ℕ) → lexeme_of bytes ≡ Some (t, n) → IsFirst t n bytes
lexeme_first bytes t n e =
    let f = lexeme_front bytes t n e in
    record { within = f.within; some = f.some; spells = spelling_back (take n bytes) t f.spells; free = f.free }

pub given_first : (bytes : List ℕ) (o : Option (Token × ℕ)) → o ≡ lexeme_of bytes
    → IfSome o (λ r. IsFirst r.0 r.1 bytes)
given_first bytes None e = tt
given_first bytes (Some (t, n)) e = lexeme_first bytes t n (sym e)

pub lexeme_only : (bytes : List ℕ) (t : Token) (n : ℕ) → IsFirst t n bytes → lexeme_of bytes ≡ Some (t, n)
lexeme_only bytes t n f =
    lexeme_same bytes t n (record {
      within = f.within;
      some = f.some;
      spells = ap spelled f.spells.is
          ∙ spelled_proper t f.spells.proper;
      free = f.free;
    })

with_count : (n m : ℕ) (o : Option Token) (t : Token) → with_length n o ≡ Some (t, m) → n ≡ m
with_count n m None t e = absurd (none_or_some (pair t m) e)
with_count n m (Some u) t e = ap (λ z. z.1) (some_injective (pair u n) (pair t m) e)

-- where a word stands at the front the token has all its bytes, and else it is a sign
module _ (b : ℕ) (bs : List ℕ) (t : Token) (n : ℕ) (f : IsFirst t n (b ∷ bs)) where
  abbrev front : List ℕ
  front = take_while is_name_byte (b ∷ bs)

  pub word_count : is_name_byte b ≡ true → length front ≡ n
  word_count p = with_count (length front) n (spelled front) t
      (ap (λ c. cond c (with_length (length front) (spelled front)) (sign_at b bs)) (sym p)
      ∙ lexeme_only (b ∷ bs) t n f)

  pub sign_there : is_name_byte b ≡ false → sign_at b bs ≡ Some (pair t n)
  sign_there p =
      ap (λ c. cond c (with_length (length front) (spelled front)) (sign_at b bs)) (sym p) ∙ lexeme_only (b ∷ bs) t n f

pub lexeme_bad : (bytes : List ℕ) → lexeme_of bytes ≡ None → IsBad bytes
lexeme_bad bytes e t n f = none_or_some (pair t n) (sym e ∙ lexeme_only bytes t n f)
