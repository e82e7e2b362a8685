-- Lists whose texts can be read back.
use Rattle.std.proofs.Common.{◌≡◌, ◌<◌, ◌+◌, ℕ, zero, suc, List, [], ◌∷◌, ◌++◌, refl, sym, ap, ◌∙◌, append_assoc}
use Rattle.std.proofs.Common.{subst, length, slice_index_or, arith}
use Rattle.std.specs.{Prelude.{⊤}, List.{flat_map, enumerate_from, AllByRecursion}}
use Rattle.sect_emit.specs.Listing.{by_number}
use Rattle.std.proofs.lemmas.List.Concat.{flat_map-cons}
use Rattle.sect_c.specs.Pairs.{EachFrom, PairsFrom}
use Rattle.sect_c.proofs.Reading.{Reads, Any}

-- no element's text begins here
abbrev pub NoneHere : {A : Type 0} → (ℕ → A → Type 0) → (ℕ → A → List ℕ) → List ℕ → Type 0
NoneHere Is f xs = (n : ℕ) (a : _) (ys : List ℕ) → Is n a → xs ≡ f n a ++ ys → ⊥

pub number_cons : {A : Type 0} (f : ℕ → A → List ℕ) (n : ℕ) (a : A) (xs : List A)
    → by_number f n (a ∷ xs) ≡ f n a ++ by_number f (n + 1) xs
number_cons f n a xs = flat_map-cons (λ x. f x.0 x.1) (n, a) (enumerate_from (n + 1) xs)

-- lists of such elements, behind which none follows
module _ {A B : Type 0} (S : List ℕ → Type 0) (R : ℕ → A → B → Type 0) (IsA : ℕ → A → Type 0) (IsB : ℕ → B → Type 0)
    (f : ℕ → A → List ℕ) (g : ℕ → B → List ℕ) (one : (n : ℕ) (a : A) (xs : List ℕ) → IsA n a → S (f n a ++ xs))
    (other : (n : ℕ) (b : B) (xs : List ℕ) → IsB n b → S (g n b ++ xs))
    (each : (n : ℕ) (a : A) (b : B) → IsA n a → IsB n b → Reads S (f n a) (g n b) (R n a b)) where
  begins : {C : Type 0} (Is : ℕ → C → Type 0) (h : ℕ → C → List ℕ)
      → ((n : ℕ) (c : C) (xs : List ℕ) → Is n c → S (h n c ++ xs)) → (n : ℕ) (cs : List C) → EachFrom Is n cs
      → (u : List ℕ) → S u → S (by_number h n cs ++ u)
  begins Is h stands n [] k u s = s
  begins Is h stands n (c ∷ cs) k u s =
      subst S (sym (ap (λ t. t ++ u) (number_cons h n c cs) ∙ append_assoc (h n c) (by_number h (n + 1) cs) u))
      (stands n c (by_number h (n + 1) cs ++ u) k.0)

  listed_go : (n : ℕ) (xs : List A) (ys : List B) → EachFrom IsA n xs → EachFrom IsB n ys → (u v : List ℕ)
      → NoneHere IsA f u × NoneHere IsB g u × S u → NoneHere IsA f v × NoneHere IsB g v × S v
      → by_number f n xs ++ u ≡ by_number g n ys ++ v → PairsFrom R n xs ys × (u ≡ v)
  listed_go n [] [] a b u v p q e = (tt, e)
  listed_go n [] (y ∷ ys) a b u v p q e =
      absurd (p.1 n y (by_number g (n + 1) ys ++ v) b.0
      (e ∙ (ap (λ t. t ++ v) (number_cons g n y ys) ∙ append_assoc (g n y) (by_number g (n + 1) ys) v)))
  listed_go n (x ∷ xs) [] a b u v p q e =
      absurd (q.0 n x (by_number f (n + 1) xs ++ u) a.0
      (sym e ∙ (ap (λ t. t ++ u) (number_cons f n x xs) ∙ append_assoc (f n x) (by_number f (n + 1) xs) u)))
  listed_go n (x ∷ xs) (y ∷ ys) a b u v p q e =
      let here = (each n x y a.0 b.0).read (by_number f (n + 1) xs ++ u) (by_number g (n + 1) ys ++ v)
      (begins IsA f one (n + 1) xs a.1 u p.2) (begins IsB g other (n + 1) ys b.1 v q.2)
      (sym (append_assoc (f n x) (by_number f (n + 1) xs) u)
      ∙ (sym (ap (λ t. t ++ u) (number_cons f n x xs))
      ∙ (e ∙ (ap (λ t. t ++ v) (number_cons g n y ys)
      ∙ append_assoc (g n y) (by_number g (n + 1) ys) v)))) in
      let more = listed_go (n + 1) xs ys a.1 b.1 u v p q here.1 in
      ((here.0, more.0), more.1)

  abbrev pub NoMore : List ℕ → Type 0
  NoMore u = NoneHere IsA f u × NoneHere IsB g u × S u

  pub listed : (n : ℕ) (xs : List A) (ys : List B) → EachFrom IsA n xs → EachFrom IsB n ys
      → Reads NoMore (by_number f n xs) (by_number g n ys) (PairsFrom R n xs ys)
  listed n xs ys a b = record { read = λ u v p q e. listed_go n xs ys a b u v p q e }

-- pairs of one are lists of one
pub one_list : {A : Type 0} (n : ℕ) (xs ys : List A) → PairsFrom (λ i a b. a ≡ b) n xs ys → xs ≡ ys
one_list n [] [] h = refl
one_list n [] (y ∷ ys) h = absurd h
one_list n (x ∷ xs) [] h = absurd h
one_list n (x ∷ xs) (y ∷ ys) h = ap (λ t. t ∷ xs) h.0 ∙ ap (λ t. y ∷ t) (one_list (n + 1) xs ys h.1)

-- lists whose elements have no number
flat_numbered : {A : Type 0} (f : A → List ℕ) (n : ℕ) (xs : List A) → flat_map f xs ≡ by_number (λ i. f) n xs
flat_numbered f n [] = refl
flat_numbered f n (x ∷ xs) =
    flat_map-cons f x xs ∙ (ap (λ t. f x ++ t) (flat_numbered f (n + 1) xs) ∙ sym (number_cons (λ i. f) n x xs))

pub each_all : {A : Type 0} (P : A → Type 0) (n : ℕ) (xs : List A) → AllByRecursion P xs → EachFrom (λ i. P) n xs
each_all P n [] h = tt
each_all P n (x ∷ xs) h = (h.0, each_all P (n + 1) xs h.1)

module _ {A : Type 0} (IsA IsB : A → Type 0) (f g : A → List ℕ)
    (each : (a b : A) → IsA a → IsB b → Reads Any (f a) (g b) (a ≡ b)) where
  -- no element of either list begins here
  abbrev pub NoneLeft : List ℕ → Type 0
  NoneLeft u = NoneHere (λ i. IsA) (λ i. f) u × NoneHere (λ i. IsB) (λ i. g) u

  pub flat_listed : (xs ys : List A) → AllByRecursion IsA xs → AllByRecursion IsB ys
      → Reads NoneLeft (flat_map f xs) (flat_map g ys) (xs ≡ ys)
  flat_listed xs ys a b = record {
    read = λ u v p q e.
        let all = listed Any (λ i x y. x ≡ y) (λ i. IsA) (λ i. IsB) (λ i. f) (λ i. g) (λ i a zs is. tt)
        (λ i a zs is. tt) (λ i. each) 0 xs ys (each_all IsA 0 xs a) (each_all IsB 0 ys b) in
        let read = all.read u v (p.0, p.1, tt) (q.0, q.1, tt)
        (sym (ap (λ t. t ++ u) (flat_numbered f 0 xs)) ∙ (e ∙ ap (λ t. t ++ v) (flat_numbered g 0 ys))) in
        (one_list 0 xs ys read.0, read.1);
  }

pub pairs_length : {A B : Type 0} (R : ℕ → A → B → Type 0) (n : ℕ) (xs : List A) (ys : List B) → PairsFrom R n xs ys
    → length xs ≡ length ys
pairs_length R n [] [] h = refl
pairs_length R n [] (y ∷ ys) h = absurd h
pairs_length R n (x ∷ xs) [] h = absurd h
pairs_length R n (x ∷ xs) (y ∷ ys) h = let e = pairs_length R (n + 1) xs ys h.1 in omega (arith, e)

-- the pair of that number
pub pair_at : {A B : Type 0} (R : ℕ → A → B → Type 0) (n : ℕ) (xs : List A) (ys : List B) → PairsFrom R n xs ys
    → (k : ℕ)
    → k < length ys → (a : A) (b : B) → R (n + k) (slice_index_or xs k a) (slice_index_or ys k b)
pair_at R n [] [] h k l a b = absurd (omega arith)
pair_at R n [] (y ∷ ys) h k l a b = absurd h
pair_at R n (x ∷ xs) [] h k l a b = absurd h
pair_at R n (x ∷ xs) (y ∷ ys) h zero l a b = subst (λ i. R i x y) (let e : n ≡ n + 0 = omega arith in e) h.0
pair_at R n (x ∷ xs) (y ∷ ys) h (suc k) l a b =
    subst (λ i. R i (slice_index_or xs k a) (slice_index_or ys k b)) (let e : n + 1 + k ≡ n + suc k = omega arith in e)
    (pair_at R (n + 1) xs ys h.1 k (omega arith) a b)

pub each_true : {A : Type 0} (n : ℕ) (xs : List A) → EachFrom (λ i x. ⊤) n xs
each_true n [] = tt
each_true n (x ∷ xs) = (tt, each_true (n + 1) xs)

pub first_pair : {A B : Type 0} (R : ℕ → A → B → Type 0) (xs : List A) (ys : List B) → PairsFrom R 0 xs ys → (k : ℕ)
    → k < length ys → (a : A) (b : B) → R k (slice_index_or xs k a) (slice_index_or ys k b)
first_pair R xs ys h k l a b =
    subst (λ i. R i (slice_index_or xs k a) (slice_index_or ys k b)) (let e : 0 + k ≡ k = omega arith in e)
    (pair_at R 0 xs ys h k l a b)
