-- A comment is read name by name.
use Rattle.std.proofs.Common.{arith, ◌≡◌, ◌≢◌, ◌∙◌, ◌+◌, ◌⊎◌, ◌∷◌, ◌++◌, []}
use Rattle.std.proofs.Common.{ℕ, Bool, List, true, false, codes, length, inl, inr}
use Rattle.std.proofs.Common.{ap, refl, sym, subst, append_assoc}
use Rattle.std.proofs.lemmas.Bool.{and_parts}
use Rattle.std.proofs.lemmas.Bool.Decides.{eqb_tells}
use Rattle.std.proofs.lemmas.List.{append-nil, length-append}
use Rattle.std.proofs.lemmas.List.Sums.{fold-append}
use Rattle.std.specs.Prelude.{◌==◌, ◌&&◌, ◌||◌, not, if◌then◌else◌, fold, slice_get}
use Rattle.std.specs.{List.{flat_map, list_all, list_any}, Str.{bytes_eq}}
use Rattle.sect_warnings.specs.Comments.{behind_entry, behind_other, closing, comma}
use Rattle.sect_warnings.specs.Comments.{ended, is_blank, is_byte, is_found, reads}
use Rattle.sect_warnings.specs.Comments.{slash}
use Rattle.sect_warnings.specs.Laws.{AreNames, CommentsAllowWhatTheyList, is_in_name, listed}
use Rattle.sect_warnings.specs.declared.comment.Reading.{Reading}
use Rattle.sect_warnings.specs.declared.comment.Reading.TheVariants as reading

-- a choice whose test is known
yes_is : {A : Type 0} (t : Bool) (a b : A) → t ≡ true → (if t then a else b) ≡ a
yes_is true a b e = refl
yes_is false a b e = absurd cc

no_is : {A : Type 0} (t : Bool) (a b : A) → t ≡ false → (if t then a else b) ≡ b
no_is false a b e = refl
no_is true a b e = absurd cc

-- a byte of a name is none of the others
parts_of : (x y z : Bool) → not (x || (y || z)) ≡ true → (x ≡ false) × (y ≡ false) × (z ≡ false)
parts_of false false false e = (refl, refl, refl)
parts_of false false true e = absurd cc
parts_of false true z e = absurd cc
parts_of true y z e = absurd cc

in_name : (b : ℕ) → is_in_name b ≡ true
    → (is_blank b ≡ false) × ((b == comma) ≡ false) × ((b == closing) ≡ false)
in_name b e = parts_of (is_blank b) (b == comma) (b == closing) e

-- code goes on without a slash
code_step : (x y : Bool) → not y ≡ true
    → (if x then reading.Code else (if y then reading.Slash else reading.Code)) ≡ reading.Code
code_step true y e = refl
code_step false false e = refl
code_step false true e = absurd cc

code_stays : (name code : List ℕ) → list_all (λ byte. not (byte == slash)) code ≡ true
    → fold (reads name) reading.Code code ≡ reading.Code
code_stays name [] h = refl
code_stays name (b ∷ bs) h =
    let p = and_parts _ _ h in
    ap (λ s. fold (reads name) s bs) (code_step (is_blank b) (b == slash) p.0) ∙ code_stays name bs p.1

-- what is found stays so, and what is past too
blank_or : {A : Type 0} (t : Bool) (a : A) → (if t then a else a) ≡ a
blank_or true a = refl
blank_or false a = refl

found_stays : (name bytes : List ℕ) → fold (reads name) reading.Found bytes ≡ reading.Found
found_stays name [] = refl
found_stays name (b ∷ bs) =
    ap (λ s. fold (reads name) s bs) (blank_or (is_blank b) reading.Found) ∙ found_stays name bs

past_stays : (name bytes : List ℕ) → fold (reads name) reading.Past bytes ≡ reading.Past
past_stays name [] = refl
past_stays name (b ∷ bs) =
    ap (λ s. fold (reads name) s bs) (blank_or (is_blank b) reading.Past) ∙ past_stays name bs

-- another name goes on
other_step : (name : List ℕ) (b : ℕ) → is_in_name b ≡ true → reads name reading.Other b ≡ reading.Other
other_step name b h =
    let p = in_name b h in
    no_is (is_blank b) reading.Other (behind_other b) p.0
    ∙ no_is (b == comma) (reading.Entry 0) _ p.1 ∙ no_is (b == closing) reading.Past reading.Other p.2

other_stays : (name e : List ℕ) → list_all is_in_name e ≡ true
    → fold (reads name) reading.Other e ≡ reading.Other
other_stays name [] h = refl
other_stays name (b ∷ bs) h =
    let p = and_parts _ _ h in
    ap (λ s. fold (reads name) s bs) (other_step name b p.0) ∙ other_stays name bs p.1

-- one byte of a name behind so many that are the name's first
abbrev goes_on : List ℕ → ℕ → ℕ → Reading
goes_on name n b = if is_byte (slice_get name n) b then reading.Entry (n + 1) else reading.Other

entry_step : (name : List ℕ) (n b : ℕ) → is_in_name b ≡ true → reads name (reading.Entry n) b ≡ goes_on name n b
entry_step name n b h =
    let p = in_name b h in
    no_is (is_blank b) (reading.Entry n) (behind_entry name n b) p.0
    ∙ no_is (b == comma) (ended (n == length name) (reading.Entry 0)) _ p.1
    ∙ no_is (b == closing) (ended (n == length name) reading.Past) (goes_on name n b) p.2

-- what stands behind so many bytes
get_behind : (done left : List ℕ) → slice_get (done ++ left) (length done) ≡ slice_get left 0
get_behind [] left = refl
get_behind (x ∷ xs) left = get_behind xs left

-- the entry that has been read is the name, or it isn't
abbrev At : List ℕ → Reading → Bool → Type 0
At name s true = s ≡ reading.Entry (length name)
At name s false = (s ≡ reading.Other) ⊎ ((n : ℕ) × (s ≡ reading.Entry n) × ((n == length name) ≡ false))

longer : (done : List ℕ) (x : ℕ) (xs : List ℕ) → length done ≡ length (done ++ x ∷ xs) → ⊥
longer done x xs e = omega (arith, e, length-append done (x ∷ xs))

shorter_by : (done : List ℕ) (x : ℕ) (xs : List ℕ)
    → (((length done == length (done ++ x ∷ xs)) ≡ true) × (length done ≡ length (done ++ x ∷ xs)))
    ⊎ (((length done == length (done ++ x ∷ xs)) ≡ false) × (length done ≢ length (done ++ x ∷ xs)))
    → (length done == length (done ++ x ∷ xs)) ≡ false
shorter_by done x xs (inl same) = absurd (longer done x xs same.1)
shorter_by done x xs (inr differs) = differs.0

shorter : (done : List ℕ) (x : ℕ) (xs : List ℕ) → (length done == length (done ++ x ∷ xs)) ≡ false
shorter done x xs = shorter_by done x xs (eqb_tells (length done) (length (done ++ x ∷ xs)))

-- the first byte of an entry is the next one of the name, or it isn't
walk_on : (done : List ℕ) (x : ℕ) (xs : List ℕ) (b : ℕ) (bs : List ℕ) (t : Bool) → list_all is_in_name bs ≡ true
    → At (done ++ x ∷ xs) (fold (reads (done ++ x ∷ xs)) (reading.Entry (length done + 1)) bs) (bytes_eq xs bs)
    → At (done ++ x ∷ xs) (fold (reads (done ++ x ∷ xs))
    (if t then reading.Entry (length done + 1) else reading.Other) bs) (t && bytes_eq xs bs)
walk_on done x xs b bs true h next = next
walk_on done x xs b bs false h next = inl (other_stays (done ++ x ∷ xs) bs h)

walk : (done left e : List ℕ) → list_all is_in_name e ≡ true
    → At (done ++ left) (fold (reads (done ++ left)) (reading.Entry (length done)) e) (bytes_eq left e)
walk done [] [] h = ap (λ l. reading.Entry (length l)) (sym (append-nil done))
walk done (x ∷ xs) [] h = inr (length done, refl, shorter done x xs)
walk done [] (b ∷ bs) h =
    let name = done ++ [] in
    let p = and_parts _ _ h in
    let step : reads name (reading.Entry (length done)) b ≡ reading.Other =
    entry_step name (length done) b p.0
    ∙ ap (λ o. if is_byte o b then reading.Entry (length done + 1) else reading.Other) (get_behind done []) in
    inl (ap (λ s. fold (reads name) s bs) step ∙ other_stays name bs p.1)
walk done (x ∷ xs) (b ∷ bs) h =
    let name = done ++ x ∷ xs in
    let p = and_parts _ _ h in
    let more : length (done ++ x ∷ []) ≡ length done + 1 = length-append done (x ∷ []) in
    let same : (done ++ x ∷ []) ++ xs ≡ name = append_assoc done (x ∷ []) xs in
    let next : At name (fold (reads name) (reading.Entry (length done + 1)) bs) (bytes_eq xs bs) =
    subst (λ n. At name (fold (reads name) (reading.Entry n) bs) (bytes_eq xs bs)) more
    (subst (λ l. At l (fold (reads l) (reading.Entry (length (done ++ x ∷ []))) bs) (bytes_eq xs bs)) same
    (walk (done ++ x ∷ []) xs bs p.1)) in
    let step : reads name (reading.Entry (length done)) b
    ≡ (if x == b then reading.Entry (length done + 1) else reading.Other) =
    entry_step name (length done) b p.0
    ∙ ap (λ o. if is_byte o b then reading.Entry (length done + 1) else reading.Other) (get_behind done (x ∷ xs)) in
    subst (λ s. At name (fold (reads name) s bs) ((x == b) && bytes_eq xs bs)) (sym step)
    (walk_on done x xs b bs (x == b) p.1 next)

same_by : (n : ℕ) → (((n == n) ≡ true) × (n ≡ n)) ⊎ (((n == n) ≡ false) × (n ≢ n)) → (n == n) ≡ true
same_by n (inl same) = same.0
same_by n (inr differs) = absurd (differs.1 refl)

same_length : (n : ℕ) → (n == n) ≡ true
same_length n = same_by n (eqb_tells n n)

-- a comma, and the end of the list, behind an entry
closed : (name : List ℕ) (s : Reading) (m : Bool) → At name s m
    → reads name s 41 ≡ (if m then reading.Found else reading.Past)
closed name s true at =
    ap (λ r. reads name r 41) at ∙ ap (λ t. ended t reading.Past) (same_length (length name))
closed name s false (inl at) = ap (λ r. reads name r 41) at
closed name s false (inr (n, at, differs)) = ap (λ r. reads name r 41) at ∙ ap (λ t. ended t reading.Past) differs

parted : (name : List ℕ) (s : Reading) (m : Bool) → At name s m
    → reads name s 44 ≡ (if m then reading.Found else reading.Entry 0)
parted name s true at =
    ap (λ r. reads name r 44) at ∙ ap (λ t. ended t (reading.Entry 0)) (same_length (length name))
parted name s false (inl at) = ap (λ r. reads name r 44) at
parted name s false (inr (n, at, differs)) = ap (λ r. reads name r 44) at ∙ ap (λ t. ended t (reading.Entry 0)) differs

-- the names behind an entry, and the end of the list
abbrev behind : List (List ℕ) → List ℕ → List ℕ
behind es rest = flat_map (λ name. codes ", " ++ name) es ++ (codes ")" ++ rest)

to_end : (name : List ℕ) (s : Reading) (m : Bool) (es : List (List ℕ)) (rest : List ℕ) → At name s m → AreNames es
    → is_found (fold (reads name) s (behind es rest)) ≡ (m || list_any (bytes_eq name) es)
to_end name s true [] rest at h =
    ap (λ r. is_found (fold (reads name) r rest)) (closed name s true at) ∙ ap is_found (found_stays name rest)
to_end name s false [] rest at h =
    ap (λ r. is_found (fold (reads name) r rest)) (closed name s false at) ∙ ap is_found (past_stays name rest)
to_end name s true (e ∷ es) rest at h =
    ap (λ r. is_found (fold (reads name) r (32 ∷ (e ++ flat_map (λ n. codes ", " ++ n) es) ++ (codes ")" ++ rest))))
    (parted name s true at)
    ∙ ap is_found (found_stays name (32 ∷ (e ++ flat_map (λ n. codes ", " ++ n) es) ++ (codes ")" ++ rest)))
to_end name s false (e ∷ es) rest at h =
    let p = and_parts _ _ h in
    let others = flat_map (λ n. codes ", " ++ n) es in
    let end = codes ")" ++ rest in
    ap (λ r. is_found (fold (reads name) r (32 ∷ (e ++ others) ++ end))) (parted name s false at)
    ∙ ap (λ l. is_found (fold (reads name) (reading.Entry 0) l)) (append_assoc e others end)
    ∙ ap is_found (fold-append (reads name) (reading.Entry 0) e (others ++ end))
    ∙ to_end name (fold (reads name) (reading.Entry 0) e) (bytes_eq name e) es rest (walk [] name e p.0) p.1

pub allows_listed : CommentsAllowWhatTheyList
allows_listed code first others rest name plain named =
    let p = and_parts _ _ named in
    let head = codes "// sectc: allow(" in
    let tail = flat_map (λ n. codes ", " ++ n) others in
    let end = codes ")" ++ rest in
    ap is_found (fold-append (reads name) reading.Code code (head ++ (listed first others ++ end)))
    ∙ ap (λ s. is_found (fold (reads name) s (head ++ (listed first others ++ end)))) (code_stays name code plain)
    ∙ ap (λ l. is_found (fold (reads name) (reading.Entry 0) l)) (append_assoc first tail end)
    ∙ ap is_found (fold-append (reads name) (reading.Entry 0) first (tail ++ end))
    ∙ to_end name (fold (reads name) (reading.Entry 0) first) (bytes_eq name first) others rest
    (walk [] name first p.0) p.1
