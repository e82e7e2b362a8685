-- Lines and columns, byte by byte.
use Rattle.std.proofs.Common.{◌≡◌, ◌≤◌, ◌+◌, ◌-◌, ◌∙◌, ℕ, List, [], ◌∷◌, Bool, true, false, take, drop, length, fold}
use Rattle.std.proofs.{Common.{refl, sym, ap, arith}, lemmas.List.Sums.{fold-append, count_by-le-length, sum_by-cons}}
use Rattle.std.proofs.{lemmas.List.{length-take-le}, Math.Seq.{take-add}}
use Rattle.std.specs.{Prelude.{◌==◌, if◌then◌else◌}, List.{count_by}}
use Rattle.sect_front.specs.Gaps.{line_feed}
use Rattle.sect_places.specs.{Positions.{position, next_column}, declared.position.Position.{Position}}
use Rattle.sect_places.specs.declared.positions.Cursor.{Cursor}
use Rattle.sect_places.specs.steps.{Passing.{next_position, IsAt}, Feeding.{feeds_in}}
use Rattle.sect_places.proofs.shared.Bounds.{column_grows}

abbrev is_feed : ℕ → Bool
is_feed b = b == line_feed

one_position : (p q : Position) → p.line ≡ q.line → p.column ≡ q.column → p ≡ q
one_position p q e f = ap (λ l. record { line = l; column = p.column }) e
    ∙ ap (λ c. record { line = q.line; column = c }) f

abbrev step_to : Bool → Position → Position
step_to b p = if b then record { line = p.line + 1; column = 1 } else record { line = p.line; column = p.column + 1 }

-- behind some bytes the line has grown by their line feeds
line_behind : (xs : List ℕ) (p : Position) → (fold next_position p xs).line ≡ p.line + count_by is_feed xs
line_behind [] p = omega arith
line_behind (x ∷ xs) p =
    line_behind xs (next_position p x) ∙ one (is_feed x)
    ∙ ap (λ n. p.line + n) (sym (sum_by-cons (λ b. if is_feed b then 1 else 0) x xs))
  where
    one : (b : Bool) → (step_to b p).line + count_by is_feed xs ≡ p.line + ((if b then 1 else 0) + count_by is_feed xs)
    one true = omega arith
    one false = omega arith

column_behind : (xs : List ℕ) (p : Position) → (fold next_position p xs).column ≡ fold next_column p.column xs
column_behind [] p = refl
column_behind (x ∷ xs) p = column_behind xs (next_position p x) ∙ ap (λ c. fold next_column c xs) (one (is_feed x))
  where
    one : (b : Bool) → (step_to b p).column ≡ (if b then 1 else p.column + 1)
    one true = refl
    one false = refl

-- where bytes end, by their line feeds and by their last column
pub position_behind : (p : Position) (xs : List ℕ) (line column : ℕ) → line ≡ p.line + feeds_in xs
    → column ≡ fold next_column p.column xs → record { line = line; column = column } ≡ fold next_position p xs
position_behind p xs line column lines columns =
    one_position _ _ (lines ∙ sym (line_behind xs p)) (columns ∙ sym (column_behind xs p))

abbrev first_position : Position
first_position = record { line = 1; column = 1 }

position_is : (xs : List ℕ) (at : ℕ) → fold next_position first_position (take at xs) ≡ position xs at
position_is xs at = one_position _ _
    (let e = line_behind (take at xs) first_position in omega (arith, e))
    (column_behind (take at xs) first_position)

-- a place further on
pub position_on : (xs : List ℕ) (a b : ℕ) → a ≤ b
    → fold next_position (position xs a) (take (b - a) (drop a xs)) ≡ position xs b
position_on xs a b within =
    ap (λ p. fold next_position p (take (b - a) (drop a xs))) (sym (position_is xs a))
    ∙ sym (fold-append next_position first_position (take a xs) (take (b - a) (drop a xs)))
    ∙ ap (fold next_position first_position) (sym (take-add a (b - a) xs))
    ∙ position_is xs (a + (b - a)) ∙ ap (position xs) (omega (arith, within))

pub stands_at : (xs : List ℕ) (at : ℕ) (c : Cursor) → at ≤ length xs → c.at ≡ at → c.position ≡ position xs at
    → IsAt xs c
stands_at xs at c within there is =
    let long = length-take-le at xs within in
    let lines = count_by-le-length is_feed (take at xs) in
    let columns = column_grows (take at xs) 1 in
    let line = ap (λ (p : Position). p.line) is in
    let column = ap (λ (p : Position). p.column) is in
    record {
      within = omega (arith, within, there);
      is = is ∙ ap (position xs) (sym there);
      line = omega (arith, lines, long, line, there);
      column = omega (arith, columns, long, column, there);
    }
