-- What is shown of a line stands before the marked place, at it or shortly behind it. So of the bytes behind the
-- place a few tell what is shown.
use Rattle.std.proofs.Common.{◌≡◌, ◌≤◌, ◌⊎◌, ◌+◌, ◌-◌, ◌∙◌, ℕ, zero, suc, List, [], ◌∷◌, ◌++◌, Bool, true, false}
use Rattle.std.proofs.Common.{length, take, drop, fold, cond, ◌==◌, inl, inr, refl, sym, ap, subst, arith}
use Rattle.std.proofs.lemmas.List.{take-append-drop, drop-take, take-take, take_all, length-take-le, drop-drop}
use Rattle.std.proofs.lemmas.{List.{length-drop}, List.Sums.{take_while-cons}, Bool.{cases_lt, lt-ltb}}
use Rattle.std.proofs.Math.{Seq.{take-add, take-append-add}, Nat.{min-eq_left}}
use Rattle.std.specs.{Prelude.{if◌then◌else◌, take_while, not, nat_lt, codes}, List.{flat_map}}
use Rattle.sect_front.specs.Gaps.{line_feed}
use Rattle.sect_places.{specs.Positions.{next_column, column_of}, proofs.shared.Bounds.{column_least, column_most}}
use Rattle.sect_lint.specs.Excerpts.{in_line, line_text, most_shown, left_out, shown_line, marked_line, excerpt_of}
use Rattle.sect_lint.specs.Excerpts.{dots, blanks_under, shown_part, under, carets}

-- no line feed among these bytes: a line goes on behind them
abbrev GoesOn : List ℕ → Type 0
GoesOn xs = (rest : List ℕ) → take_while in_line (xs ++ rest) ≡ xs ++ take_while in_line rest

-- behind the last line feed there is none; the first byte stands in column c
abbrev IsLastLine : List ℕ → ℕ → Type 0
IsLastLine xs c = ((fold next_column c xs ≡ c + length xs) × GoesOn xs)
    ⊎ ((fold next_column c xs ≤ length xs) × GoesOn (drop (length xs + 1 - fold next_column c xs) xs))

-- one byte before others
one_more : (x : ℕ) (xs : List ℕ) (c : ℕ) → IsLastLine xs (next_column c x) → (b : Bool) → (x == line_feed) ≡ b
    → IsLastLine (x ∷ xs) c
one_more x xs c told b is = elim told [
  | inl h ↦ all b is h.0 h.1
  | inr h ↦ inr (omega (arith, h.0), later (length xs + 1 - fold next_column c (x ∷ xs)) (omega (arith, h.0)) h.1)
]
  where
    later : (m : ℕ) → length (x ∷ xs) + 1 - fold next_column c (x ∷ xs) ≡ suc m → GoesOn (drop m xs)
        → GoesOn (drop (length (x ∷ xs) + 1 - fold next_column c (x ∷ xs)) (x ∷ xs))
    later m is on = subst (λ k. GoesOn (drop k (x ∷ xs))) (sym is) on

    all : (b : Bool) → (x == line_feed) ≡ b → fold next_column c (x ∷ xs) ≡ next_column c x + length xs → GoesOn xs
        → IsLastLine (x ∷ xs) c
    all true is there on =
        let one : next_column c x ≡ 1 = ap (λ b. if b then 1 else c + 1) is in
        inr (omega (arith, one, there), later 0 (omega (arith, one, there)) on)
    all false is there on =
        let one : next_column c x ≡ c + 1 = ap (λ b. if b then 1 else c + 1) is in
        inl (
          omega (arith, one, there),
          λ rest. take_while-cons in_line x (xs ++ rest)
              ∙ ap (λ b. cond (not b) (x ∷ take_while in_line (xs ++ rest)) []) is ∙ ap (λ l. x ∷ l) (on rest),
        )

last_line : (xs : List ℕ) (c : ℕ) → IsLastLine xs c
last_line [] c = inl (omega arith, λ rest. refl)
last_line (x ∷ xs) c = one_more x xs c (last_line xs (next_column c x)) (x == line_feed) refl

-- from where its line begins none stands before the place
before_place : (text : List ℕ) (at : ℕ) → at ≤ length text
    → GoesOn (take (column_of text at - 1) (drop (at + 1 - column_of text at) text))
before_place text at within =
    let long = length-take-le at text within in
    let start : ℕ = at + 1 - column_of text at in
    let told : GoesOn (drop start (take at text)) = elim (last_line (take at text) 1) [
      | inl h ↦
          let none : 0 ≡ start = omega (arith, long, h.0) in subst (λ k. GoesOn (drop k (take at text))) none h.1
      | inr h ↦
          let same : length (take at text) + 1 - column_of text at ≡ start = omega (arith, long) in
          subst (λ k. GoesOn (drop k (take at text))) same h.1
    ] in
    let whole : start + (column_of text at - 1) ≡ at =
    omega (arith, column_least text at, column_most text at within) in
    subst GoesOn (ap (λ n. drop start (take n text)) (sym whole) ∙ drop-take start (column_of text at - 1) text) told

-- a line is what it has before the place, and what it has from there on
line_from : (text : List ℕ) (at : ℕ) → at ≤ length text
    → line_text text at ≡ take (column_of text at - 1) (drop (at + 1 - column_of text at) text)
    ++ take_while in_line (drop at text)
line_from text at within =
    let start : ℕ = at + 1 - column_of text at in
    let before : ℕ = column_of text at - 1 in
    let there : drop before (drop start text) ≡ drop at text =
    drop-drop before start text ∙ ap (λ n. drop n text)
    (omega (arith, column_least text at, column_most text at within)) in
    ap (take_while in_line) (sym (take-append-drop before (drop start text)))
    ∙ before_place text at within (drop before (drop start text))
    ∙ ap (λ l. take before (drop start text) ++ take_while in_line l) there

-- the first bytes of a line are told by as many bytes
near : (n : ℕ) (xs : List ℕ) → take (length (take_while in_line (take n xs))) xs ≡ take n (take_while in_line xs)
near zero xs = refl
near (suc n) [] = refl
near (suc n) (x ∷ xs) =
    ap (λ l. take (length l) (x ∷ xs)) (take_while-cons in_line x (take n xs)) ∙ one (near n xs) (in_line x)
    ∙ ap (take (suc n)) (sym (take_while-cons in_line x xs))
  where
    one : take (length (take_while in_line (take n xs))) xs ≡ take n (take_while in_line xs) → (b : Bool)
        → take (length (cond b (x ∷ take_while in_line (take n xs)) [])) (x ∷ xs)
        ≡ take (suc n) (cond b (x ∷ take_while in_line xs) [])
    one rest true = ap (λ l. x ∷ l) rest
    one rest false = refl

-- so a line as far as it may be shown is told by the bytes before the place and a few from there on
pub line_near : (text : List ℕ) (at : ℕ) → at ≤ length text
    → take (column_of text at - 1 + length (take_while in_line (take (most_shown + 1) (drop at text))))
    (drop (at + 1 - column_of text at) text) ≡ take (column_of text at + most_shown) (line_text text at)
line_near text at within =
    let column : ℕ = column_of text at in
    let least = column_least text at in
    let most = column_most text at within in
    let start : ℕ = at + 1 - column in
    let before : List ℕ = take (column - 1) (drop start text) in
    let count : ℕ = length (take_while in_line (take (most_shown + 1) (drop at text))) in
    let there : drop (column - 1) (drop start text) ≡ drop at text =
    drop-drop (column - 1) start text ∙ ap (λ n. drop n text) (omega (arith, least, most)) in
    let long : length before ≡ column - 1 =
    length-take-le (column - 1) (drop start text) (omega (arith, within, most, length-drop start text)) in
    take-add (column - 1) count (drop start text)
    ∙ ap (λ l. before ++ take count l) there ∙ ap (λ l. before ++ l) (near (most_shown + 1) (drop at text))
    ∙ sym (take-append-add before (take_while in_line (drop at text)) (most_shown + 1))
    ∙ ap (λ n. take n (before ++ take_while in_line (drop at text))) (omega (arith, long, least))
    ∙ ap (take (column + most_shown)) (sym (line_from text at within))

module _ (line : List ℕ) (place : ℕ) (long : place + most_shown + 1 ≤ length line) where
  abbrev cut : List ℕ
  cut = take (place + most_shown + 1) line

  -- what is left out of the line and of what is cut from it
  abbrev from : ℕ
  from = place - 60

  cut_length : length cut ≡ place + most_shown + 1
  cut_length = length-take-le (place + most_shown + 1) line long

  of_line : left_out (length line) place ≡ from
  of_line = min-eq_left (omega (arith, long))

  of_cut : left_out (length cut) place ≡ from
  of_cut = min-eq_left (omega (arith, cut_length))

  -- what may be shown of both
  shown_alike : (n : ℕ) → n ≤ place + most_shown + 1 - from → take n (drop from cut) ≡ take n (drop from line)
  shown_alike n few =
      let whole : from + (place + most_shown + 1 - from) ≡ place + most_shown + 1 = omega arith in
      ap (λ m. take n (drop from (take m line))) (sym whole)
      ∙ ap (take n) (drop-take from (place + most_shown + 1 - from) line)
      ∙ take-take n (place + most_shown + 1 - from) (drop from line) few

  goes_on : nat_lt (from + most_shown) (length cut) ≡ nat_lt (from + most_shown) (length line)
  goes_on =
      lt-ltb (from + most_shown) (length cut) (omega (arith, cut_length))
      ∙ sym (lt-ltb (from + most_shown) (length line) (omega (arith, long)))

  line_alike : shown_line cut from ≡ shown_line line from
  line_alike =
      ap (λ l. dots (nat_lt 0 from) (codes "...") ++ shown_part (nat_lt (from + most_shown) (length cut)) l)
      (shown_alike most_shown (omega arith))
      ∙ ap (λ b. dots (nat_lt 0 from) (codes "...") ++ shown_part b (take most_shown (drop from line))) goes_on

  marks_alike : (count : ℕ) → marked_line cut from place count ≡ marked_line line from place count
  marks_alike count =
      ap (λ l. dots (nat_lt 0 from) (codes "   ") ++ flat_map (under (codes " ")) l
      ++ carets (take count (drop (place - from) (take most_shown (drop from cut)))))
      (shown_alike (place - from) (omega arith))
      ∙ ap (λ l. dots (nat_lt 0 from) (codes "   ")
      ++ flat_map (under (codes " ")) (take (place - from) (drop from line))
      ++ carets (take count (drop (place - from) l))) (shown_alike most_shown (omega arith))

-- a line that is cut behind what may be shown looks like the whole: where it is longer, and always
long_alike : (number : List ℕ) (column : ℕ) (line : List ℕ) (count : ℕ) → column - 1 + most_shown + 1 ≤ length line
    → excerpt_of number column (take (column - 1 + most_shown + 1) line) count ≡ excerpt_of number column line count
unfolding excerpt_of
long_alike number column line count long =
    ap (λ from. joined (shown_line (cut line place long) from) (marked_line (cut line place long) from place count))
    (of_cut line place long)
    ∙ ap (λ l. joined l (marked_line (cut line place long) (from line place long) place count))
    (line_alike line place long)
    ∙ ap (joined (shown_line line (from line place long))) (marks_alike line place long count)
    ∙ ap (λ from. joined (shown_line line from) (marked_line line from place count)) (sym (of_line line place long))
  where
    place : ℕ
    place = column - 1

    joined : List ℕ → List ℕ → List ℕ
    joined text marks =
        blanks_under number ++ codes "|\n" ++ number ++ codes " | " ++ text ++ codes "\n"
        ++ blanks_under number ++ codes "| " ++ marks

pub cut_alike : (number : List ℕ) (column : ℕ) (line : List ℕ) (count : ℕ) → 1 ≤ column
    → excerpt_of number column (take (column + most_shown) line) count ≡ excerpt_of number column line count
cut_alike number column line count least = elim (cases_lt (column + most_shown) (length line)) [
  | inl long ↦
      ap (λ n. excerpt_of number column (take n line) count) (omega (arith, least))
      ∙ long_alike number column line count (omega (arith, long, least))
  | inr short ↦ ap (λ l. excerpt_of number column l count) (take_all (column + most_shown) line short)
]
