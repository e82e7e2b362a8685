-- The number of the first procedure of a name.
use Rattle.std.proofs.Common.{◌≡◌, ℕ, suc, ◌+◌, ◌<◌, Bool, true, false, not, cond, List, [], ◌∷◌, ◌++◌, length, take}
use Rattle.std.proofs.Common.{get_or, Option, Some, None, is_some, refl, sym, ap, subst, ◌∙◌, arith, true≢false, Bor}
use Rattle.std.proofs.{lemmas.List.{map-append, take_more, length-take-le, length-map}, lemmas.Bool.Decides.{nat_tests}}
use Rattle.std.specs.{Prelude.{nat_lt}, Option.{option_map, option_copied}, List.{prefix_len}}
use Rattle.sect_front.specs.declared.tree.Procedure.{Procedure}
use Rattle.sect_types.specs.{Sight.{place, same_name}, Sums.{number_of, names_of_procedures}}
use Rattle.sect_types.proofs.shared.SoundLemmas.{same_names}

-- a number is below another where it is so with one more each
pub lifts : (m n k : ℕ) → k ≡ suc n → nat_lt (1 + m) k ≡ nat_lt m n
lifts m n k e = grind (arith, nat_tests)

-- zero is below a number that is one more than another
pub starts : (n k : ℕ) → k ≡ suc n → nat_lt 0 k ≡ true
starts n k e = grind (arith, nat_tests)

one_up : (b : Bool) (n : ℕ) → cond b (Some (1 + n)) None ≡ option_map suc (cond b (Some n) None)
one_up true n = let up : 1 + n ≡ suc n = omega arith in ap Some up
one_up false n = refl

-- a name is the first, or stands among the others
place_first : (x y : List ℕ) (ys : List (List ℕ))
    → place x (y ∷ ys) ≡ cond (same_name x y) (Some 0) (option_map suc (place x ys))
place_first x y ys = go (same_name x y)
  where
    rest : ℕ
    rest = prefix_len (λ z. not (same_name x z)) ys

    go : (b : Bool) → cond (nat_lt (cond (not b) (1 + rest) 0) (length (y ∷ ys))) (Some (cond (not b) (1 + rest) 0))
        None
        ≡ cond b (Some 0) (option_map suc (cond (nat_lt rest (length ys)) (Some rest) None))
    go true = ap (λ b. cond b (Some 0) None) (starts (length ys) (length (y ∷ ys)) refl)
    go false =
        ap (λ b. cond b (Some (1 + rest)) None) (lifts rest (length ys) (length (y ∷ ys)) refl)
        ∙ one_up (nat_lt rest (length ys)) rest

abbrev or_last : Option ℕ → Bool → ℕ → Option ℕ
or_last (Some k) b n = Some k
or_last None b n = cond b (Some n) None

last_up : (o : Option ℕ) (b : Bool) (n m : ℕ) → m ≡ suc n
    → option_map suc (or_last o b n) ≡ or_last (option_map suc o) b m
last_up (Some k) b n m e = refl
last_up None true n m e = ap Some (sym e)
last_up None false n m e = refl

-- a name stands before, or is the last
place_last : (x n : List ℕ) (xs : List (List ℕ))
    → place x (xs ++ n ∷ []) ≡ or_last (place x xs) (same_name x n) (length xs)
place_last x n [] = place_first x n [] ∙ go (same_name x n)
  where
    go : (b : Bool) → cond b (Some 0) (option_map suc (place x [])) ≡ or_last (place x []) b (length {A = List ℕ} [])
    go true = refl
    go false = refl
place_last x n (y ∷ xs) =
    place_first x y (xs ++ n ∷ [])
    ∙ (ap (λ o. cond (same_name x y) (Some 0) (option_map suc o)) (place_last x n xs)
    ∙ (go (same_name x y) ∙ ap (λ o. or_last o (same_name x n) (length (y ∷ xs))) (sym (place_first x y xs))))
  where
    go : (b : Bool) → cond b (Some 0) (option_map suc (or_last (place x xs) (same_name x n) (length xs)))
        ≡ or_last (cond b (Some 0) (option_map suc (place x xs))) (same_name x n) (length (y ∷ xs))
    go true = refl
    go false = last_up (place x xs) (same_name x n) (length xs) (length (y ∷ xs)) refl

-- one procedure more
number_last : (ps : List Procedure) (i : ℕ) (p : Procedure) (x : List ℕ) → i < length ps → p ≡ get_or ps i p
    → number_of (take (i + 1) ps) x ≡ or_last (number_of (take i ps) x) (same_name x p.name) i
number_last ps i p x lt at =
    let next : take (i + 1) ps ≡ take i ps ++ p ∷ [] = take_more ps i p lt ∙ ap (λ z. take i ps ++ z ∷ []) (sym at) in
    let long : length (names_of_procedures (take i ps)) ≡ i =
    omega (arith, length-map (take i ps) (λ (q : Procedure). q.name), length-take-le i ps (omega (arith, lt))) in
    ap (λ l. number_of l x) next
    ∙ (ap (place x) (map-append (λ (q : Procedure). q.name) (take i ps) (p ∷ []))
    ∙ (place_last x p.name (names_of_procedures (take i ps))
    ∙ ap (or_last (number_of (take i ps) x) (same_name x p.name)) long))

-- where the name has no number yet, it gets this one
pub numbered : (ps : List Procedure) (i : ℕ) (p : Procedure) (old new : List ℕ → Option ℕ) → i < length ps
    → p ≡ get_or ps i p → ((x : List ℕ) → old x ≡ number_of (take i ps) x) → is_some (old p.name) ≡ false
    → ((x : List ℕ) → new x ≡ cond (same_name p.name x) (Some i) (old x))
    → (x : List ℕ) → new x ≡ number_of (take (i + 1) ps) x
numbered ps i p old new lt at before none updates x =
    updates x ∙ (ap (λ o. cond (same_name p.name x) (Some i) o) (before x)
    ∙ (go (same_name p.name x) refl (same_name x p.name) refl (number_of (take i ps) x) refl
    ∙ sym (number_last ps i p x lt at)))
  where
    itself : same_name p.name x ≡ true → same_name p.name p.name ≡ true
    itself e = subst (λ y. same_name p.name y ≡ true) (sym (same_names p.name x e)) e

    itself_too : same_name x p.name ≡ true → same_name p.name p.name ≡ true
    itself_too e = subst (λ y. same_name y p.name ≡ true) (same_names x p.name e) e

    go : (b : Bool) → same_name p.name x ≡ b → (d : Bool) → same_name x p.name ≡ d → (o : Option ℕ)
        → number_of (take i ps) x ≡ o → cond b (Some i) o ≡ or_last o d i
    go true e true f None g = refl
    go false e false f None g = refl
    go false e d f (Some k) g = refl
    go true e false f None g =
        absurd (true≢false (sym (subst (λ y. same_name y p.name ≡ true) (same_names p.name x e) (itself e)) ∙ f))
    go false e true f None g =
        absurd (true≢false (sym (subst (λ y. same_name p.name y ≡ true) (sym (same_names x p.name f)) (itself_too f))
        ∙ e))
    go true e d f (Some k) g =
        let there = before p.name ∙ (ap (number_of (take i ps)) (same_names p.name x e) ∙ g) in
        absurd (true≢false (sym (ap is_some there) ∙ none))

-- where it has one, it keeps it
pub numbered_before : (ps : List Procedure) (i : ℕ) (p : Procedure) (old : List ℕ → Option ℕ) → i < length ps
    → p ≡ get_or ps i p → ((x : List ℕ) → old x ≡ number_of (take i ps) x) → is_some (old p.name) ≡ true
    → (x : List ℕ) → old x ≡ number_of (take (i + 1) ps) x
numbered_before ps i p old lt at before some x =
    before x ∙ (go (same_name x p.name) refl (number_of (take i ps) x) refl ∙ sym (number_last ps i p x lt at))
  where
    go : (d : Bool) → same_name x p.name ≡ d → (o : Option ℕ) → number_of (take i ps) x ≡ o → o ≡ or_last o d i
    go d f (Some k) g = refl
    go false f None g = refl
    go true f None g =
        let gone = before p.name ∙ (ap (number_of (take i ps)) (sym (same_names x p.name f)) ∙ g) in
        absurd (true≢false (sym some ∙ ap is_some gone))

-- what is copied is there where it was
pub copied : {X : Type 0} (o : Option (Bor X)) → is_some (option_copied o) ≡ is_some o
copied None = refl
copied (Some x) = refl
