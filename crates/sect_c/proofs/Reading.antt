-- Texts that can be read back: what two texts begin with tells what it says, if it is one text, and what follows.
use Rattle.std.proofs.Common.{◌≡◌, ◌<◌, ℕ, Bool, true, false, ◌||◌, not, eqb, List, [], ◌∷◌, ◌++◌, refl}
use Rattle.std.proofs.Common.{sym, ap, ◌∙◌, arith, true≢false, append_assoc}
use Rattle.std.proofs.lemmas.{Bool.{and_parts, eq-eqb}, List.{append_cancel_left}, Fmt.{decimal_injective}}
use Rattle.std.specs.{Prelude.{⊤}, List.{list_all}, Fmt.{decimal}}
use Rattle.sect_front.specs.Words.{is_digit}
use Rattle.sect_front.proofs.shared.Numerals.{decimal_digits}

-- texts that are one, of which these two are the beginnings, say P there, and go on as one where such texts follow
pub record Reads (Stop : List ℕ → Type 0) (u v : List ℕ) (P : Type 0) : Type 0 where
  pub read : (xs ys : List ℕ) → Stop xs → Stop ys → u ++ xs ≡ v ++ ys → P × (xs ≡ ys)

-- any text may follow
abbrev pub Any : List ℕ → Type 0
Any xs = ⊤

-- it begins, with a byte that isn't such
abbrev pub stops : (ℕ → Bool) → List ℕ → Bool
stops test [] = false
stops test (c ∷ cs) = not (test c)

abbrev pub Stops : (ℕ → Bool) → List ℕ → Type 0
Stops test xs = stops test xs ≡ true

pub stops_more : (test : ℕ → Bool) (u xs : List ℕ) → stops test u ≡ true → stops test (u ++ xs) ≡ true
stops_more test [] xs e = absurd (true≢false (sym e))
stops_more test (c ∷ u) xs e = e

pub told : {Stop : List ℕ → Type 0} {u v : List ℕ} {P Q : Type 0} → Reads Stop u v P → (P → Q) → Reads Stop u v Q
told r f = record { read = λ xs ys s t e. let x = r.read xs ys s t e in (f x.0, x.1) }

-- one text behind another
pub until : {S T : List ℕ → Type 0} {u v w z : List ℕ} {P Q : Type 0} → Reads S u v P
    → ((xs : List ℕ) → T xs → S (w ++ xs)) → ((xs : List ℕ) → T xs → S (z ++ xs)) → Reads T w z Q
    → Reads T (u ++ w) (v ++ z) (P × Q)
until {u = u} {v = v} {w = w} {z = z} r a b s = record {
  read = λ xs ys p q e.
      let one = r.read (w ++ xs) (z ++ ys) (a xs p) (b ys q)
      (sym (append_assoc u w xs) ∙ (e ∙ append_assoc v z ys)) in
      let two = s.read xs ys p q one.1 in
      ((one.0, two.0), two.1);
}

pub next : {T : List ℕ → Type 0} {u v w z : List ℕ} {P Q : Type 0} → Reads Any u v P → Reads T w z Q
    → Reads T (u ++ w) (v ++ z) (P × Q)
next r s = until r (λ xs p. tt) (λ xs p. tt) s

-- one text before both, and one behind both
pub behind : {S : List ℕ → Type 0} {u v : List ℕ} {P : Type 0} → (w : List ℕ) → Reads S u v P
    → Reads S (w ++ u) (w ++ v) P
behind {u = u} {v = v} w r = record {
  read = λ xs ys p q e. r.read xs ys p q
      (append_cancel_left w (u ++ xs) (v ++ ys) (sym (append_assoc w u xs) ∙ (e ∙ append_assoc w v ys)));
}

pub ends : {S : List ℕ → Type 0} {u v : List ℕ} {P : Type 0} → Reads S u v P → (w : List ℕ)
    → ((xs : List ℕ) → S (w ++ xs)) → Reads Any (u ++ w) (v ++ w) P
ends {u = u} {v = v} r w a = record {
  read = λ xs ys p q e.
      let one = r.read (w ++ xs) (w ++ ys) (a xs) (a ys) (sym (append_assoc u w xs) ∙ (e ∙ append_assoc v w ys)) in
      (one.0, append_cancel_left w xs ys one.1);
}

-- what follows is the same by what was read
pub after : {u v w z : List ℕ} {P : Type 0} → Reads Any u v P → (P → w ≡ z) → Reads Any (u ++ w) (v ++ z) P
after {u = u} {v = v} {w = w} {z = z} r f = record {
  read = λ xs ys p q e.
      let one = r.read (w ++ xs) (z ++ ys) tt tt (sym (append_assoc u w xs) ∙ (e ∙ append_assoc v z ys)) in
      (one.0, append_cancel_left w xs ys (one.1 ∙ ap (λ t. t ++ ys) (sym (f one.0))));
}

-- the same text
pub only : (w : List ℕ) → Reads Any w w ⊤
only w = record { read = λ xs ys p q e. (tt, append_cancel_left w xs ys e) }

-- what may be followed by anything may be followed so
pub closed : {S : List ℕ → Type 0} {u v : List ℕ} {P : Type 0} → Reads Any u v P → Reads S u v P
closed r = record { read = λ xs ys p q e. r.read xs ys tt tt e }

pub moved : {S : List ℕ → Type 0} {u v w z : List ℕ} {P : Type 0} → u ≡ w → v ≡ z → Reads S w z P → Reads S u v P
moved e f r = record {
  read = λ xs ys p q h. r.read xs ys p q (sym (ap (λ t. t ++ xs) e) ∙ (h ∙ ap (λ t. t ++ ys) f));
}

-- texts that are one
pub wholly : {u v : List ℕ} {P : Type 0} → Reads Any u v P → u ≡ v → P
wholly r e = (r.read [] [] tt tt (ap (λ t. t ++ []) e)).0

-- texts that differ at some byte
abbrev pub differ : List ℕ → List ℕ → Bool
differ [] v = false
differ (a ∷ u) [] = false
differ (a ∷ u) (b ∷ v) = not (eqb a b) || differ u v

pub parted : (u v xs ys : List ℕ) → differ u v ≡ true → u ++ xs ≡ v ++ ys → ⊥
parted [] v xs ys d e = absurd (true≢false (sym d))
parted (a ∷ u) [] xs ys d e = absurd (true≢false (sym d))
parted (a ∷ u) (b ∷ v) xs ys d e =
    let one : a ≡ b = cc in
    let rest : u ++ xs ≡ v ++ ys = cc in
    parted u v xs ys (unequal (eqb a b) refl d one) rest
  where
    unequal : (t : Bool) → eqb a b ≡ t → (not t || differ u v) ≡ true → a ≡ b → differ u v ≡ true
    unequal true is d e = d
    unequal false is d e = absurd (true≢false (sym (eq-eqb a b e) ∙ is))

pub unlike : (u v : List ℕ) → differ (u ++ 0 ∷ []) (v ++ 0 ∷ []) ≡ true → u ≡ v → ⊥
unlike u v d e = parted (u ++ 0 ∷ []) (v ++ 0 ∷ []) [] [] d (ap (λ t. (t ++ 0 ∷ []) ++ []) e)

pub apart : {S : List ℕ → Type 0} {P : Type 0} → (u v : List ℕ) → differ u v ≡ true → Reads S u v P
apart u v d = record { read = λ xs ys p q e. absurd (parted u v xs ys d e) }

pub clash : (test : ℕ → Bool) (c : ℕ) → test c ≡ true → not (test c) ≡ true → ⊥
clash test c p q = true≢false (sym (sym (ap not p) ∙ q))

-- such bytes end where another stands
ended : (test : ℕ → Bool) (n m xs ys : List ℕ) → list_all test n ≡ true → list_all test m ≡ true
    → stops test xs ≡ true → stops test ys ≡ true → n ++ xs ≡ m ++ ys → (n ≡ m) × (xs ≡ ys)
ended test [] [] xs ys a b p q e = (refl, e)
ended test [] (c ∷ m) xs ys a b p q e = absurd (runs_on xs e p)
  where
    runs_on : (xs : List ℕ) → xs ≡ c ∷ (m ++ ys) → stops test xs ≡ true → ⊥
    runs_on xs e p = clash test c (and_parts (test c) (list_all test m) b).0 (sym (ap (stops test) e) ∙ p)
ended test (c ∷ n) [] xs ys a b p q e =
    absurd (clash test c (and_parts (test c) (list_all test n) a).0 (ap (stops test) e ∙ q))
ended test (c ∷ n) (d ∷ m) xs ys a b p q e =
    let one : c ≡ d = cc in
    let rest : n ++ xs ≡ m ++ ys = cc in
    let more = ended test n m xs ys (and_parts (test c) (list_all test n) a).1
    (and_parts (test d) (list_all test m) b).1
    p q rest in
    (ap (λ t. c ∷ t) more.0 ∙ ap (λ z. z ∷ m) one, more.1)

pub spelled : (test : ℕ → Bool) (n m : List ℕ) → list_all test n ≡ true → list_all test m ≡ true
    → Reads (Stops test) n m (n ≡ m)
spelled test n m a b = record { read = λ xs ys p q e. ended test n m xs ys a b p q e }

pub number : (n m : ℕ) → n < 18446744073709551616 → m < 18446744073709551616
    → Reads (Stops is_digit) (decimal n) (decimal m) (n ≡ m)
number n m p q = told (spelled is_digit (decimal n) (decimal m) (decimal_digits n p) (decimal_digits m q))
    (decimal_injective n m (omega arith) (omega arith))
