-- What comes behind changes nothing of the messages that have come.
use Rattle.std.proofs.Common.{◌≡◌, ◌≢◌, ℕ, ◌+◌, ◌-◌, ◌≤◌, ◌⊎◌, List, [], ◌∷◌, ◌++◌, length, take, drop, Option, Some}
use Rattle.std.proofs.Common.{None, Bool, true, false, cond, nat_eq, nat_lt, refl, sym, ap, subst, ◌∙◌, inl, inr}
use Rattle.std.proofs.Common.{⊎_elim, arith, append-nil}
use Rattle.std.proofs.lemmas.List.{take-append-le, take_all, length-take, length-append, length-drop, drop-append-le}
use Rattle.std.proofs.{lemmas.Bool.{and_parts, cases_lt, le-ltb, ltb-false}, Math.Seq.{take-append-add}}
use Rattle.std.specs.{Prelude.{option_map, codes}, List.{starts_with}, Cmp.Lexicographic.{pointwise}}
use Rattle.sect_lsp.specs.declared.framing.Front.TheVariants.{Message, Part, Malformed}
use Rattle.sect_lsp.specs.Limits.{most_header}
use Rattle.sect_lsp.specs.Framing.{place_of, header_length, content_length, front_behind, front_by, front_of, Spells}
use Rattle.sect_lsp.specs.Framing.{IsRest}

-- which way a choice went
chosen : {A : Type 0} (b : Bool) (x y z : A) → cond b x y ≡ z → ((b ≡ true) × (x ≡ z)) ⊎ ((b ≡ false) × (y ≡ z))
chosen true x y z e = inl (refl, e)
chosen false x y z e = inr (refl, e)

mapped : (k : ℕ) (o : Option ℕ) (n : ℕ) → option_map (λ m. m + k) o ≡ Some n → (m : ℕ) × (o ≡ Some m) × (m + k ≡ n)
mapped k None n e = absurd cc
mapped k (Some m) n e = (m, refl, cc)

-- lists that are equal place by place have one length
length_same : (xs ys : List ℕ) → pointwise nat_eq xs ys ≡ true → length xs ≡ length ys
length_same [] [] e = refl
length_same [] (y ∷ ys) e = absurd cc
length_same (x ∷ xs) [] e = absurd cc
length_same (x ∷ xs) (y ∷ ys) e =
    let rest : length xs ≡ length ys = length_same xs ys (and_parts _ _ e).1 in cc

-- a word at the front fits
starts_fits : (w xs : List ℕ) → starts_with nat_eq xs w ≡ true → length w ≤ length xs
starts_fits w xs e =
    let s : length w ≡ length (take (length w) xs) = length_same w (take (length w) xs) e in
    omega (arith, length-take (length w) xs)

-- whether a word that has room stands at the front doesn't depend on what comes behind
starts_more : (w xs ys : List ℕ) → length w ≤ length xs → starts_with nat_eq (xs ++ ys) w ≡ starts_with nat_eq xs w
starts_more w xs ys h = ap (pointwise nat_eq w) (take-append-le (length w) xs ys h)

place_fits : (w xs : List ℕ) (n : ℕ) → place_of w xs ≡ Some n → n + length w ≤ length xs
place_fits w [] n e = absurd cc
place_fits w (b ∷ bs) n e =
    ⊎_elim (λ p. let first : 0 ≡ n = cc in let fits = starts_fits w (b ∷ bs) p.0 in omega arith)
    (λ p. let later = mapped 1 (place_of w bs) n p.1 in let fits = place_fits w bs later.0 later.1 in
    let past = later.2 in omega arith)
    (chosen (starts_with nat_eq (b ∷ bs) w) (Some 0) (option_map (λ m. m + 1) (place_of w bs)) (Some n) e)

-- the first place of a word stays the first
place_more : (w xs ys : List ℕ) (n : ℕ) → place_of w xs ≡ Some n → place_of w (xs ++ ys) ≡ Some n
place_more w [] ys n e = absurd cc
place_more w (b ∷ bs) ys n e =
    let fits : n + length w ≤ length (b ∷ bs) = place_fits w (b ∷ bs) n e in
    let room : length w ≤ length (b ∷ bs) = omega arith in
    let same : starts_with nat_eq (b ∷ bs ++ ys) w ≡ starts_with nat_eq (b ∷ bs) w = starts_more w (b ∷ bs) ys room in
    ⊎_elim
    (λ p. ap (λ t. cond t (Some 0) (option_map (λ m. m + 1) (place_of w (bs ++ ys)))) (same ∙ p.0) ∙ p.1)
    (λ p. let later = mapped 1 (place_of w bs) n p.1 in
    ap (λ t. cond t (Some 0) (option_map (λ m. m + 1) (place_of w (bs ++ ys)))) (same ∙ p.0)
    ∙ ap (option_map (λ m. m + 1)) (place_more w bs ys later.0 later.1) ∙ ap Some later.2)
    (chosen (starts_with nat_eq (b ∷ bs) w) (Some 0) (option_map (λ m. m + 1) (place_of w bs)) (Some n) e)

-- the first bytes, so many, begin with those of what came before
first_more : (n : ℕ) (xs ys : List ℕ) → (rest : List ℕ) × (take n (xs ++ ys) ≡ take n xs ++ rest)
first_more n xs ys = ⊎_elim
    (λ within. ([], take-append-le n xs ys (omega arith) ∙ sym (append-nil (take n xs))))
    (λ past. let count : n ≡ length xs + (n - length xs) = omega arith in (
      take (n - length xs) ys,
      ap (λ m. take m (xs ++ ys)) count ∙ take-append-add xs ys (n - length xs)
          ∙ ap (λ bs. bs ++ take (n - length xs) ys) (sym (take_all n xs past)),
    ))
    (cases_lt n (length xs))

header_more : (bytes more : List ℕ) (n : ℕ) → header_length (take most_header bytes) ≡ Some n
    → header_length (take most_header (bytes ++ more)) ≡ Some n
header_more bytes more n e =
    let at = mapped 4 (place_of (codes "\r\n\r\n") (take most_header bytes)) n e in
    let longer = first_more most_header bytes more in
    ap header_length longer.1
    ∙ ap (option_map (λ m. m + 4)) (place_more (codes "\r\n\r\n") (take most_header bytes) longer.0 at.0 at.1)
    ∙ ap Some at.2

header_fits : (bytes : List ℕ) (n : ℕ) → header_length (take most_header bytes) ≡ Some n → n ≤ length bytes
header_fits bytes n e =
    let at = mapped 4 (place_of (codes "\r\n\r\n") (take most_header bytes)) n e in
    let past = at.2 in
    let fits : at.0 + 4 ≤ length (take most_header bytes) =
    place_fits (codes "\r\n\r\n") (take most_header bytes) at.0 at.1 in
    omega (arith, length-take most_header bytes)

behind_more : (bytes more : List ℕ) (n : ℕ) (o : Option ℕ) → front_behind bytes n o ≢ Part
    → front_behind (bytes ++ more) n o ≡ front_behind bytes n o
behind_more bytes more n None not = refl
behind_more bytes more n (Some k) not = ⊎_elim
    (λ p. absurd (not (sym p.1)))
    (λ p. let whole = ltb-false (length bytes) (n + k) p.0 in
    let longer = length-append bytes more in
    let still : nat_lt (length (bytes ++ more)) (n + k) ≡ false = le-ltb _ _ (omega arith) in
    ap (λ t. cond t Part (Message n k)) still ∙ p.1)
    (chosen (nat_lt (length bytes) (n + k)) Part (Message n k) (front_behind bytes n (Some k)) refl)

by_more : (bytes more : List ℕ) (o : Option ℕ) → header_length (take most_header bytes) ≡ o → front_by bytes o ≢ Part
    → front_of (bytes ++ more) ≡ front_by bytes o
by_more bytes more None e not = ⊎_elim
    (λ p. absurd (not (sym p.1)))
    (λ p. let long = ltb-false (length bytes) most_header p.0 in
    let longer = length-append bytes more in
    let still : nat_lt (length (bytes ++ more)) most_header ≡ false = le-ltb _ _ (omega arith) in
    ap (front_by (bytes ++ more)) (ap header_length (take-append-le most_header bytes more long) ∙ e)
    ∙ ap (λ t. cond t Part Malformed) still ∙ p.1)
    (chosen (nat_lt (length bytes) most_header) Part Malformed (front_by bytes None) refl)
by_more bytes more (Some n) e not =
    ap (front_by (bytes ++ more)) (header_more bytes more n e)
    ∙ ap (λ bs. front_behind (bytes ++ more) n (content_length bs))
    (take-append-le n bytes more (header_fits bytes n e))
    ∙ behind_more bytes more n (content_length (take n bytes)) not

-- what stands at the front stays, whatever comes behind, unless it is less than a whole message
pub front_more : (bytes more : List ℕ) → front_of bytes ≢ Part → front_of (bytes ++ more) ≡ front_of bytes
front_more bytes more not = by_more bytes more (header_length (take most_header bytes)) refl not

-- a message at the front fits
behind_fits : (bytes : List ℕ) (n : ℕ) (o : Option ℕ) (h b : ℕ) → front_behind bytes n o ≡ Message h b
    → h + b ≤ length bytes
behind_fits bytes n None h b e = absurd cc
behind_fits bytes n (Some k) h b e = ⊎_elim
    (λ p. absurd cc)
    (λ p. let whole = ltb-false (length bytes) (n + k) p.0 in
    let first : n ≡ h = cc in let second : k ≡ b = cc in omega arith)
    (chosen (nat_lt (length bytes) (n + k)) Part (Message n k) (Message h b) e)

by_fits : (bytes : List ℕ) (o : Option ℕ) (h b : ℕ) → front_by bytes o ≡ Message h b → h + b ≤ length bytes
by_fits bytes None h b e = ⊎_elim (λ p. absurd cc) (λ p. absurd cc)
    (chosen (nat_lt (length bytes) most_header) Part Malformed (Message h b) e)
by_fits bytes (Some n) h b e = behind_fits bytes n (content_length (take n bytes)) h b e

pub message_fits : (bytes : List ℕ) (h b : ℕ) → front_of bytes ≡ Message h b → h + b ≤ length bytes
message_fits bytes h b e = by_fits bytes (header_length (take most_header bytes)) h b e

-- a message stays, and what comes behind it is what comes behind all
pub message_more : (bytes more : List ℕ) (h b : ℕ) → front_of bytes ≡ Message h b
    → (front_of (bytes ++ more) ≡ Message h b) × (take b (drop h (bytes ++ more)) ≡ take b (drop h bytes))
    × (drop (h + b) (bytes ++ more) ≡ drop (h + b) bytes ++ more)
message_more bytes more h b e =
    let fits : h + b ≤ length bytes = message_fits bytes h b e in
    let inner : b ≤ length (drop h bytes) = simp length-drop (omega arith) in (
      front_more bytes more (λ part. let no : Message h b ≡ Part = sym e ∙ part in cc) ∙ e,
      ap (take b) (drop-append-le h bytes more (omega arith)) ∙ take-append-le b (drop h bytes) more inner,
      drop-append-le (h + b) bytes more fits,
    )

-- messages that have come stay, whatever comes behind
pub spells_more : (bytes more : List ℕ) (ms : List (List ℕ)) (rest : List ℕ) → Spells bytes ms rest
    → Spells (bytes ++ more) ms (rest ++ more)
spells_more bytes more [] rest h = ap (λ bs. bs ++ more) h
spells_more bytes more (m ∷ ms) rest h =
    let stays = message_more bytes more h.0 h.1 h.2 in (
      h.0,
      h.1,
      stays.0,
      h.3 ∙ sym stays.1,
      subst (λ (bs : List ℕ). Spells bs ms (rest ++ more)) (sym stays.2)
          (spells_more (drop (h.0 + h.1) bytes) more ms rest h.4),
    )

no_front : (bytes : List ℕ) → IsRest bytes → (h b : ℕ) → front_of bytes ≡ Message h b → ⊥
no_front bytes p h b e = ⊎_elim (λ part. cc) (λ bad. cc) p

-- the bytes are one list of messages and one rest
pub one_spelling : (bytes : List ℕ) (ms ns : List (List ℕ)) (r s : List ℕ) → Spells bytes ms r → IsRest r
    → Spells bytes ns s → IsRest s → (ms ≡ ns) × (r ≡ s)
one_spelling bytes [] [] r s h p i q = (refl, h ∙ sym i)
one_spelling bytes [] (n ∷ ns) r s h p i q = absurd (no_front bytes (subst IsRest h p) i.0 i.1 i.2)
one_spelling bytes (m ∷ ms) [] r s h p i q = absurd (no_front bytes (subst IsRest i q) h.0 h.1 h.2)
one_spelling bytes (m ∷ ms) (n ∷ ns) r s h p i q =
    let both : Message h.0 h.1 ≡ Message i.0 i.1 = sym h.2 ∙ i.2 in
    let headers : h.0 ≡ i.0 = cc in
    let bodies : h.1 ≡ i.1 = cc in
    let past : drop (i.0 + i.1) bytes ≡ drop (h.0 + h.1) bytes = cc in
    let others = one_spelling (drop (h.0 + h.1) bytes) ms ns r s h.4 p
    (subst (λ (bs : List ℕ). Spells bs ns s) past i.4) q in
    let first : m ≡ n = h.3 ∙ ap (λ k. take k (drop h.0 bytes)) bodies ∙ ap (λ k. take i.1 (drop k bytes)) headers
    ∙ sym i.3 in
    let rest = others.0 in (cc, others.1)
