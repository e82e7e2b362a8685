-- Lemmas on names.
use Rattle.std.proofs.Common.{◌≡◌, ℕ, suc, ◌+◌, ◌<◌, ◌≤◌, get_or, eqb, Bool, true, false, not, ◌||◌, ◌&&◌, cond, List}
use Rattle.std.proofs.Common.{[], ◌∷◌, ◌++◌, map, Option, Some, None, length, replicate, refl, sym, ◌∙◌, ap, arith}
use Rattle.std.proofs.Common.{length-append, length-drop, true≢false, take, inl, inr, ◌↔◌}
use Rattle.std.proofs.{lemmas.Bool.{leb-true, le-leb, eq-eqb, and_parts, not-true}, lemmas.Bool.Decides.{nat_tests}}
use Rattle.std.proofs.lemmas.{Bool.{cases_Bool, cases_lt, and_from, false_from_ne_true}, Nat.{le_or_l, le_or_r}}
use Rattle.std.proofs.lemmas.List.{take_more, take_all, take-take, get_or-take, get_or_past}
use Rattle.std.proofs.lemmas.Slice.Eq.{slice_eq-Decides}
use Rattle.std.proofs.{lemmas.List.Folds.{length-prefix_len, list_all_at}, Math.Dec.{leb}, Math.Bool.{and-false}}
use Rattle.std.proofs.Math.Seq.{take-append_seam}
use Rattle.std.specs.{Cmp.{unsigned_Decides}, List.{list_all, list_any, take_while, prefix_len, filter}, Str.{bytes_eq}}
use Rattle.std.specs.Prelude.{IsAscii, is_some, is_none, nat_eq, codes, bit_or, bit_xor, Decides}
use Rattle.std.specs.Cmp.Lexicographic.{pointwise}
use Rattle.sect_front.specs.{declared.token.Token.{Token}, Names.{IsPadded, zeros_from, length_back, bytes_back}}
use Rattle.sect_front.specs.{Words.{is_name, is_letter, is_name_byte, is_keyword, begins}, Limits.{most_name_bytes}}
use Rattle.sect_front.specs.steps.Recognition.{keyword_of, keyword_table, keywords_of, token_beside}
use Rattle.sect_front.specs.declared.token.Token.TheVariants as token
use lib.Bits.{xor_self, xor_assoc, xor_zero_l, xor_zero_r}

-- what a name is
pub record IsNamed (bytes : List ℕ) : Type 0 where
  pub letter : begins is_letter bytes ≡ true
  pub all : list_all is_name_byte bytes ≡ true
  pub fits : length bytes ≤ most_name_bytes
  pub free : is_keyword bytes ≡ false

pub named : (bytes : List ℕ) → is_name bytes ≡ true → IsNamed bytes
named bytes h =
    let letter : Bool = begins is_letter bytes in
    let all : Bool = list_all is_name_byte bytes in
    let fits : Bool = leb (length bytes) most_name_bytes in
    let a = and_parts (letter && all && fits) (not (is_keyword bytes)) h in
    let b = and_parts (letter && all) fits a.0 in
    let c = and_parts letter all b.0 in
    record {
      letter = c.0;
      all = c.1;
      fits = leb-true (length bytes) most_name_bytes b.1;
      free = not-true (is_keyword bytes) a.1;
    }

pub is_named : (bytes : List ℕ) → IsNamed bytes → is_name bytes ≡ true
is_named bytes n = rw (n.letter, n.all, le-leb (length bytes) most_name_bytes n.fits, n.free) refl

pub padded_name : (b : List ℕ) (len : ℕ) → length b ≡ len → is_name b ≡ true → IsPadded (b ++ zeros_from len) len
padded_name b len e h =
    let front = take-append_seam b (zeros_from (length b)) in
    record {
      fits = omega (arith, (named b h).fits);
      room = omega (
        arith,
        (named b h).fits,
        length-append b (zeros_from len),
        length-drop {A = ℕ} len (replicate most_name_bytes 0),
      );
      padded = rw (← e) (ap (λ x. x ++ zeros_from (length b)) (sym front));
      name = rw (← e) (ap is_name front ∙ h);
    }

-- a table has a word exactly where one of its spellings is the word
beside_known : (w : List ℕ) (rows : List (List ℕ × Token))
    → is_some (token_beside w rows) ≡ list_any (bytes_eq w) (map (λ r. r.0) rows)
beside_known w [] = refl
beside_known w (row ∷ rows) = go (bytes_eq w row.0) (beside_known w rows)
  where
    go : (b : Bool) → is_some (token_beside w rows) ≡ list_any (bytes_eq w) (map (λ r. r.0) rows) →
        is_some (cond b (Some row.1) (token_beside w rows)) ≡ (b || list_any (bytes_eq w) (map (λ r. r.0) rows))
    go true h = refl
    go false h = h

-- the words that are looked for are the keywords
pub keyword_known : (w : List ℕ) → is_some (keyword_of w) ≡ is_keyword w
keyword_known w = beside_known w keyword_table

pub keyword_free : (w : List ℕ) → is_none (keyword_of w) ≡ not (is_keyword w)
keyword_free w = go (keyword_of w) (is_keyword w) (keyword_known w)
  where
    go : (o : Option Token) (k : Bool) → is_some o ≡ k → is_none o ≡ not k
    go None k h = rw (← h) refl
    go (Some t) k h = rw (← h) refl

-- bytes of different length differ
differ : (w key : List ℕ) → (length w ≡ length key → ⊥) → bytes_eq w key ≡ false
differ [] [] h = absurd (h refl)
differ [] (k ∷ key) h = refl
differ (b ∷ w) [] h = refl
differ (b ∷ w) (k ∷ key) h = rw (differ w key (λ e. h (ap (λ n. suc n) e))) (and-false (nat_eq b k))

-- a word is looked for among the rows whose spellings are as long
beside_length : (w : List ℕ) (n : ℕ) → length w ≡ n → (rows : List (List ℕ × Token))
    → token_beside w rows ≡ token_beside w (filter (λ row. nat_eq (length row.0) n) rows)
beside_length w n e [] = refl
beside_length w n e (row ∷ rows) =
    go (nat_eq (length row.0) n) refl (filter (λ r. nat_eq (length r.0) n) rows) (beside_length w n e rows)
  where
    go : (b : Bool) → nat_eq (length row.0) n ≡ b → (kept : List (List ℕ × Token))
        → token_beside w rows ≡ token_beside w kept
        → cond (bytes_eq w row.0) (Some row.1) (token_beside w rows) ≡ token_beside w (cond b (row ∷ kept) kept)
    go true long kept h = ap (cond (bytes_eq w row.0) (Some row.1)) h
    go false long kept h =
        rw (differ w row.0
        (λ same. true≢false (sym ((unsigned_Decides (length row.0) n).1 (sym same ∙ e)) ∙ long))) h

pub by_length : (w : List ℕ) (n : ℕ) → length w ≡ n → keyword_of w ≡ token_beside w (keywords_of n)
by_length w n e = beside_length w n e keyword_table

-- one keyword has more than six bytes
pub long_keyword : (w : List ℕ) → 6 < length w
    → keyword_of w ≡ cond (bytes_eq w (codes "protected_by")) (Some token.ProtectedBy) None
long_keyword w long = rw (
  differ w (codes "record") (λ e. omega (arith, e, long)),
  differ w (codes "global") (λ e. omega (arith, e, long)),
  differ w (codes "proc") (λ e. omega (arith, e, long)),
  differ w (codes "thread") (λ e. omega (arith, e, long)),
  differ w (codes "int") (λ e. omega (arith, e, long)),
  differ w (codes "null") (λ e. omega (arith, e, long)),
  differ w (codes "new") (λ e. omega (arith, e, long)),
  differ w (codes "print") (λ e. omega (arith, e, long)),
  differ w (codes "if") (λ e. omega (arith, e, long)),
  differ w (codes "else") (λ e. omega (arith, e, long)),
  differ w (codes "while") (λ e. omega (arith, e, long)),
  differ w (codes "atomic") (λ e. omega (arith, e, long)),
  differ w (codes "all") (λ e. omega (arith, e, long)),
  differ w (codes "call") (λ e. omega (arith, e, long)),
  differ w (codes "class") (λ e. omega (arith, e, long)),
) refl

-- a short word that is no keyword is a name
pub short_name : (w : List ℕ) → (begins is_letter w && list_all is_name_byte w) ≡ true → length w ≤ most_name_bytes
    → is_none (keyword_of w) ≡ is_name w
short_name w h fits = rw (h, le-leb (length w) most_name_bytes fits) (keyword_free w)

all_length : (xs : List ℕ) → list_all is_name_byte xs ≡ true → prefix_len is_name_byte xs ≡ length xs
all_length [] h = refl
all_length (x ∷ xs) h =
    let e = and_parts (is_name_byte x) (list_all is_name_byte xs) h in rw e.0 (omega (arith, all_length xs e.1))

some_length : (xs : List ℕ) → list_all is_name_byte xs ≡ false → prefix_len is_name_byte xs < length xs
some_length [] h = cc
some_length (x ∷ xs) h = go (is_name_byte x) h (λ e. some_length xs e)
  where
    go : (b : Bool) → (b && list_all is_name_byte xs) ≡ false
        → (list_all is_name_byte xs ≡ false → prefix_len is_name_byte xs < length xs)
        → cond b (1 + prefix_len is_name_byte xs) 0 < suc (length xs)
    go true h k = omega (arith, k h)
    go false h k = omega arith

-- the word at the front is all of the bytes exactly where each may stand in a name
pub whole_word : (xs : List ℕ) → eqb (length (take_while is_name_byte xs)) (length xs) ≡ list_all is_name_byte xs
whole_word xs = go (list_all is_name_byte xs) refl
  where
    same : length (take_while is_name_byte xs) ≡ prefix_len is_name_byte xs
    same = length-prefix_len is_name_byte xs

    go : (b : Bool) → list_all is_name_byte xs ≡ b → eqb (length (take_while is_name_byte xs)) (length xs) ≡ b
    go true h = eq-eqb (length (take_while is_name_byte xs)) (length xs) (same ∙ all_length xs h)
    go false h = let less : length (take_while is_name_byte xs) < length xs = omega (arith, same, some_length xs h) in
        grind (arith, nat_tests)

small_letter : (b : ℕ) → is_name_byte b ≡ true → b < 128
small_letter b h = grind (arith, nat_tests)

-- a name is ASCII
name_small : (bytes : List ℕ) → is_name bytes ≡ true → (i : ℕ) → i < length bytes → get_or bytes i 0 < 128
name_small bytes h i lt = go (is_name_byte (get_or bytes i 0)) refl
  where
    go : (b : Bool) → is_name_byte (get_or bytes i 0) ≡ b → get_or bytes i 0 < 128
    go true e = small_letter (get_or bytes i 0) e
    go false e = let none = list_all_at is_name_byte bytes i 0 lt e in let all = (named bytes h).all in absurd cc

pub name_ascii : (bytes : List ℕ) → is_name bytes ≡ true → IsAscii bytes
name_ascii bytes h i = elim (cases_lt i (length bytes)) [
  | inl lt ↦ omega (arith, name_small bytes h i lt)
  | inr past ↦ omega (arith, get_or_past bytes i 0 past)
]

decided : (xs ys : List ℕ) → Decides (pointwise nat_eq xs ys) (xs ≡ ys)
decided xs ys = slice_eq-Decides unsigned_Decides xs ys (pointwise nat_eq xs ys) refl

apart_zero : (x y : ℕ) → bit_xor x y ≡ 0 → x ≡ y
apart_zero x y e =
    sym (xor_zero_r x) ∙ (ap (bit_xor x) (sym (xor_self y)) ∙ (sym (xor_assoc x y y)
    ∙ (ap (λ w. bit_xor w y) e ∙ xor_zero_l y)))

-- the first bytes are the same exactly where nothing is apart, and so with one byte more
pub apart_more : (i apart : ℕ) (one other : List ℕ) → i < length one → i < length other
    → ((apart ≡ 0) ↔ (take i one ≡ take i other))
    → ((bit_or apart (bit_xor (get_or one i 0) (get_or other i 0)) ≡ 0) ↔ (take (i + 1) one ≡ take (i + 1) other))
apart_more i apart one other lt less h =
    let x = get_or one i 0 in
    let y = get_or other i 0 in (
      λ e.
          let none : apart ≡ 0 = omega (arith, e, le_or_l apart (bit_xor x y)) in
          let same : bit_xor x y ≡ 0 = omega (arith, e, le_or_r apart (bit_xor x y)) in
          take_more one i 0 lt ∙ (ap (λ v. v ++ x ∷ []) (h.0 none)
          ∙ (ap (λ z. take i other ++ z ∷ []) (apart_zero x y same) ∙ sym (take_more other i 0 less))),
      λ e.
          let fronts : take i one ≡ take i other = front one ∙ (ap (take i) e ∙ sym (front other)) in
          let same : x ≡ y = last one ∙ (ap (λ v. get_or v i 0) e ∙ sym (last other)) in
          rw (h.1 fronts, same, xor_self y) refl,
    )
  where
    front : (v : List ℕ) → take i v ≡ take i (take (i + 1) v)
    front v = sym (take-take i (i + 1) v (omega arith))

    last : (v : List ℕ) → get_or v i 0 ≡ get_or (take (i + 1) v) i 0
    last v = sym (get_or-take (i + 1) v i 0 (omega arith))

pub none_apart : (n apart : ℕ) (one other : List ℕ) → length one ≤ n → length other ≤ n
    → ((apart ≡ 0) ↔ (take n one ≡ take n other)) → nat_eq apart 0 ≡ pointwise nat_eq one other
none_apart n apart one other le less h = elim (cases_Bool (pointwise nat_eq one other)) [
  | inl same ↦ (unsigned_Decides apart 0).1 (h.1 (ap (take n) ((decided one other).0 same))) ∙ sym same
  | inr differ ↦
      false_from_ne_true (nat_eq apart 0) (λ zero.
      let whole : one ≡ other =
      sym (take_all n one le) ∙ (h.0 ((unsigned_Decides apart 0).0 zero) ∙ take_all n other less) in
      true≢false (sym ((decided one other).1 whole) ∙ differ))
      ∙ sym differ
]

-- names are the same exactly where their fields are
pub same_fields : (a b : List ℕ) (n m : ℕ) → IsPadded a n → IsPadded b m
    → (nat_eq n m && pointwise nat_eq a b) ≡ pointwise nat_eq (take n a) (take m b)
same_fields a b n m ha hb = elim (cases_Bool (pointwise nat_eq (take n a) (take m b))) [
  | inl same ↦
      let names : take n a ≡ take m b = (decided (take n a) (take m b)).0 same in
      let lengths : n ≡ m = sym (length_back a n ha) ∙ (ap (λ v. length v) names ∙ length_back b m hb) in
      let fields : a ≡ b =
      sym (bytes_back a n ha) ∙ (ap (λ v. v ++ zeros_from (length v)) names ∙ bytes_back b m hb) in
      and_from (nat_eq n m) (pointwise nat_eq a b) ((unsigned_Decides n m).1 lengths) ((decided a b).1 fields)
      ∙ sym same
  | inr apart ↦
      false_from_ne_true (nat_eq n m && pointwise nat_eq a b) (λ both.
      let parts = and_parts (nat_eq n m) (pointwise nat_eq a b) both in
      let names : take n a ≡ take m b =
      ap (λ k. take k a) ((unsigned_Decides n m).0 parts.0) ∙ ap (λ v. take m v) ((decided a b).0 parts.1) in
      true≢false (sym ((decided (take n a) (take m b)).1 names) ∙ apart))
      ∙ sym apart
]

-- where the lengths differ nothing else is looked at
pub other_length : (a b : List ℕ) (n m : ℕ) → (n ≡ m → ⊥) → nat_eq n m ≡ (nat_eq n m && pointwise nat_eq a b)
other_length a b n m apart =
    let none = false_from_ne_true (nat_eq n m) (λ same. apart ((unsigned_Decides n m).0 same)) in rw none refl

pub one_length : (a b : List ℕ) (n m : ℕ) → n ≡ m → pointwise nat_eq a b ≡ (nat_eq n m && pointwise nat_eq a b)
one_length a b n m same = rw (eq-eqb n m same) refl
