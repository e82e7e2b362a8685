-- What labels tell.
use Rattle.std.proofs.Common.{◌≡◌, ◌<◌, ◌+◌, ℕ, List, [], ◌∷◌, ◌++◌, true, false, get_or, refl, sym, ap, ◌∙◌, arith}
use Rattle.std.proofs.Common.{codes, true≢false}
use Rattle.std.proofs.lemmas.{Bool.{and_parts}, List.{append_assoc}}
use Rattle.std.specs.{List.{list_all}, Fmt.{decimal}}
use Rattle.sect_lemmas.proofs.Options.{some_injective}
use Rattle.sect_front.specs.Words.{is_digit}
use Rattle.sect_front.proofs.shared.Numerals.{numeral, numeral_decimal, decimal_digits}
use Rattle.sect_c.specs.{Statements.{place_c}, Telling.{LabelsTellPlaces}}
use Rattle.sect_emit.specs.declared.graphs.GraphOf.TheVariants as graph

-- digits end where another byte stands
digits_end : (c : ℕ) → is_digit c ≡ false → (ds es xs ys : List ℕ) → list_all is_digit ds ≡ true
    → list_all is_digit es ≡ true → ds ++ c ∷ xs ≡ es ++ c ∷ ys → (ds ≡ es) × (xs ≡ ys)
digits_end c ends [] [] xs ys p q e = (refl, (let same : xs ≡ ys = cc in same))
digits_end c ends [] (b ∷ es) xs ys p q e =
    let same : c ≡ b = cc in
    absurd (true≢false (sym (and_parts (is_digit b) (list_all is_digit es) q).0 ∙ sym (ap is_digit same) ∙ ends))
digits_end c ends (d ∷ ds) [] xs ys p q e =
    let same : d ≡ c = cc in
    absurd (true≢false (sym (and_parts (is_digit d) (list_all is_digit ds) p).0 ∙ ap is_digit same ∙ ends))
digits_end c ends (d ∷ ds) (b ∷ es) xs ys p q e =
    let same : d ≡ b = cc in
    let rest : ds ++ c ∷ xs ≡ es ++ c ∷ ys = cc in
    let more = digits_end c ends ds es xs ys (and_parts (is_digit d) (list_all is_digit ds) p).1
    (and_parts (is_digit b) (list_all is_digit es) q).1 rest in
    (ap (λ t. d ∷ t) more.0 ∙ ap (λ z. z ∷ es) same, more.1)

-- a number by its digits
number_back : (n m : ℕ) → n < 65536 → m < 65536 → decimal n ≡ decimal m → n ≡ m
number_back n m p q e = some_injective n m
    (sym (numeral_decimal 65536 n (omega arith) p) ∙ ap (numeral 65536) e ∙ numeral_decimal 65536 m (omega arith) q)

-- texts that are one begin with one byte
first_same : (xs ys : List ℕ) → xs ≡ ys → get_or xs 0 0 ≡ get_or ys 0 0
first_same xs ys e = ap (λ (l : List ℕ). get_or l 0 0) e

bytes_differ : (a b : ℕ) → a + 5 ≡ b → a ≡ b → ⊥
bytes_differ a b more same = absurd (omega (arith, more, same))

behind_letter : (xs ys : List ℕ) → codes "s" ++ xs ≡ codes "s" ++ ys → xs ≡ ys
behind_letter xs ys e = let same : xs ≡ ys = cc in same

line_first : (xs : List ℕ) → codes "_" ++ xs ≡ 95 ∷ xs
line_first xs = refl

line_between : (xs ys : List ℕ) → xs ++ codes "_" ++ ys ≡ xs ++ (95 ∷ ys)
line_between xs ys = append_assoc xs (codes "_") ys ∙ ap (λ z. xs ++ z) (line_first ys)

pub labels_tell : LabelsTellPlaces
labels_tell (graph.Thread u) (graph.Thread v) n m p q e =
    let same : decimal n ≡ decimal m = cc in
    number_back n m p q same
labels_tell (graph.Thread u) (graph.Section j) n m p q e =
    bytes_differ 110 115 refl (first_same (place_c (graph.Thread u) n) (place_c (graph.Section j) m) e)
labels_tell (graph.Section i) (graph.Thread v) n m p q e =
    bytes_differ 110 115 refl (sym (first_same (place_c (graph.Section i) n) (place_c (graph.Thread v) m) e))
labels_tell (graph.Section i) (graph.Section j) n m p q e =
    let same = sym (line_between (decimal i) (decimal n))
    ∙ (behind_letter (decimal i ++ codes "_" ++ decimal n) (decimal j ++ codes "_" ++ decimal m) e
    ∙ line_between (decimal j) (decimal m)) in
    let parts = digits_end 95 refl (decimal i) (decimal j) (decimal n) (decimal m)
    (decimal_digits i (omega (arith, p.0))) (decimal_digits j (omega (arith, q.0))) same in
    (number_back i j p.0 q.0 parts.0, number_back n m p.1 q.1 parts.1)
