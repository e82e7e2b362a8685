-- What `detach` and `append` make of a list.
use Rattle.std.proofs.Common.{◌≡◌, ◌≢◌, inl, inr, ℕ, ◌<◌, List, [], ◌∷◌, ◌++◌, length, Option, Some, None, false, refl}
use Rattle.std.proofs.{Common.{sym, ◌∙◌, ap, subst, arith}, lemmas.Bool.{cases_eq, eq-eqb}}
use Rattle.std.specs.Prelude.{◌==◌, if◌then◌else◌}
use Rattle.sect_table.specs.{declared.links.Link.{Link}, declared.links.Ends.{Ends}}
use Rattle.sect_table.specs.steps.Links.{link_at, walk, Run, head_or, last_or, Each, IsAbsent, Among, AreDistinct}
use Rattle.sect_table.specs.steps.Links.{without, IsDetached, IsAppended}

pub each_map : (P Q : ℕ → Type 0) → ((y : ℕ) → P y → Q y) → (xs : List ℕ) → Each P xs → Each Q xs
each_map P Q f [] e = tt
each_map P Q f (x ∷ xs) e = (f x e.0, each_map P Q f xs e.1)

pub each_among : (P : ℕ → Type 0) (x : ℕ) (xs : List ℕ) → Each P xs → Among x xs → P x
each_among P x [] e h = absurd h
each_among P x (y ∷ ys) e (inl h) = subst P h e.0
each_among P x (y ∷ ys) e (inr h) = each_among P x ys e.1 h

pub without-same : (x : ℕ) (ys : List ℕ) → without x (x ∷ ys) ≡ without x ys
without-same x ys = ap (λ b. if b then without x ys else (x ∷ without x ys)) (eq-eqb x x refl)

pub without-other : (x y : ℕ) (ys : List ℕ) → y ≢ x → without x (y ∷ ys) ≡ y ∷ without x ys
without-other x y ys ne = let e : (y == x) ≡ false = grind arith in
    ap (λ b. if b then without x ys else (y ∷ without x ys)) e

pub without_absent : (x : ℕ) (xs : List ℕ) → IsAbsent x xs → without x xs ≡ xs
without_absent x [] e = refl
without_absent x (y ∷ ys) e = without-other x y ys e.0 ∙ ap (λ l. y ∷ l) (without_absent x ys e.1)

pub each_without : (P : ℕ → Type 0) (x : ℕ) (xs : List ℕ) → Each P xs → Each P (without x xs)
each_without P x [] e = tt
each_without P x (y ∷ ys) e = elim (cases_eq y x) [
  | inl h ↦ let f : Each P (without x ys) = each_without P x ys e.1 in
      subst (Each P) (sym (without-same x ys) ∙ ap (λ z. without x (z ∷ ys)) (sym h)) f
  | inr ne ↦ let f : Each P (y ∷ without x ys) = (e.0, each_without P x ys e.1) in
      subst (Each P) (sym (without-other x y ys ne)) f
]

pub distinct_without : (x : ℕ) (xs : List ℕ) → AreDistinct xs → AreDistinct (without x xs)
distinct_without x [] e = tt
distinct_without x (y ∷ ys) e = elim (cases_eq y x) [
  | inl h ↦ subst AreDistinct (sym (without-same x ys) ∙ ap (λ z. without x (z ∷ ys)) (sym h))
      (distinct_without x ys e.1)
  | inr ne ↦ let f : AreDistinct (y ∷ without x ys) = (each_without (λ z. z ≢ y) x ys e.0, distinct_without x ys e.1) in
      subst AreDistinct (sym (without-other x y ys ne)) f
]

pub absent_without_itself : (x : ℕ) (xs : List ℕ) → IsAbsent x (without x xs)
absent_without_itself x [] = tt
absent_without_itself x (y ∷ ys) = elim (cases_eq y x) [
  | inl h ↦ subst (IsAbsent x) (sym (without-same x ys) ∙ ap (λ z. without x (z ∷ ys)) (sym h))
      (absent_without_itself x ys)
  | inr ne ↦ let f : IsAbsent x (y ∷ without x ys) = (ne, absent_without_itself x ys) in
      subst (IsAbsent x) (sym (without-other x y ys ne)) f
]

-- the walk along a run finds it
pub walk-run : (links : List Link) (l : ℕ) (p : Option ℕ) (xs : List ℕ) → Run links l p xs None
    → walk links (length xs) (head_or xs None) ≡ xs
walk-run links l p [] r = refl
walk-run links l p (x ∷ xs) r = ap (λ z. x ∷ walk links (length xs) z) (ap (λ (k : Link). k.next) r.1)
    ∙ ap (λ z. x ∷ z) (walk-run links l (Some x) xs r.2)

-- other links stay, so the run stays
pub run_frame : (old new : List Link) (l : ℕ) (p : Option ℕ) (xs : List ℕ) (n : Option ℕ) → length new ≡ length old
    → Each (λ y. link_at new y ≡ link_at old y) xs → Run old l p xs n → Run new l p xs n
run_frame old new l p [] n size same r = tt
run_frame old new l p (x ∷ xs) n size same r =
    (let lt : x < length old = r.0 in omega arith, same.0 ∙ r.1, run_frame old new l (Some x) xs n size same.1 r.2)

-- each member of a run is labelled by its list
pub labels : (links : List Link) (l : ℕ) (p : Option ℕ) (xs : List ℕ) (n : Option ℕ) → Run links l p xs n
    → Each (λ y. (link_at links y).list ≡ l) xs
labels links l p [] n r = tt
labels links l p (x ∷ xs) n r = (ap (λ (k : Link). k.list) r.1, labels links l (Some x) xs n r.2)

-- the previous one of a member that isn't the first stands in the list; y, which doesn't, isn't it
pub previous_apart : (links : List Link) (l y z x : ℕ) (xs : List ℕ) → Run links l (Some z) xs None → y ≢ z
    → IsAbsent y xs → Among x xs → (link_at links x).previous ≢ Some y
previous_apart links l y z x [] r ne e h = absurd h
previous_apart links l y z x (w ∷ ws) r ne e (inl h) = λ is. let q : (link_at links w).previous ≡ Some z =
    ap (λ (k : Link). k.previous) r.1 in let q' : (link_at links x).previous ≡ Some z =
    subst (λ v. (link_at links v).previous ≡ Some z) h q in let s : Some y ≡ Some z = sym is ∙ q' in
    let t : y ≡ z = (cc) in ne t
previous_apart links l y z x (w ∷ ws) r ne e (inr h) = previous_apart links l y w x ws r.2 (λ q. e.0 (sym q)) e.1 h

pub next_apart : (links : List Link) (l y x : ℕ) (p : Option ℕ) (xs : List ℕ) → Run links l p xs None → IsAbsent y xs
    → Among x xs → (link_at links x).next ≢ Some y
next_apart links l y x p [] r e h = absurd h
next_apart links l y x p (w ∷ []) r e (inl h) = λ is. let q : (link_at links w).next ≡ None =
    ap (λ (k : Link). k.next) r.1 in let q' : (link_at links x).next ≡ None =
    subst (λ v. (link_at links v).next ≡ None) h q in let s : Some y ≡ None = sym is ∙ q' in cc
next_apart links l y x p (w ∷ v ∷ vs) r e (inl h) = λ is. let q : (link_at links w).next ≡ Some v =
    ap (λ (k : Link). k.next) r.1 in let q' : (link_at links x).next ≡ Some v =
    subst (λ u. (link_at links u).next ≡ Some v) h q in let s : Some y ≡ Some v = sym is ∙ q' in let t : y ≡ v = (cc) in
    e.1.0 (sym t)
next_apart links l y x p (w ∷ ws) r e (inr h) = next_apart links l y x (Some w) ws r.2 e.1 h

pub last_apart : (y z : ℕ) (zs : List ℕ) → y ≢ z → IsAbsent y zs → last_or (Some z) zs ≢ Some y
last_apart y z [] ne e = λ is. let t : y ≡ z = (cc) in ne t
last_apart y z (w ∷ ws) ne e = last_apart y w ws (λ q. e.0 (sym q)) e.1

abbrev pub PreviousAbsent : Option ℕ → List ℕ → Type 0
PreviousAbsent None xs = Unit {0}
PreviousAbsent (Some p) xs = IsAbsent p xs

pub each_previous_apart : (p : Option ℕ) (xs : List ℕ) → PreviousAbsent p xs → Each (λ j. p ≢ Some j) xs
each_previous_apart p [] a = tt
each_previous_apart None (x ∷ xs) a = ((λ is. cc), each_previous_apart None xs tt)
each_previous_apart (Some p) (x ∷ xs) a = ((λ is. let t : x ≡ p = (cc) in a.0 t), each_previous_apart (Some p) xs a.1)

others_same : (old new : List Link) (e e' : Ends) (x b : ℕ) → IsDetached old new e e' x → (link_at old x).next ≡ Some b
    → (zs : List ℕ) → Each (λ j. (link_at old x).previous ≢ Some j) zs → IsAbsent b zs
    → Each (λ y. link_at new y ≡ link_at old y) zs
others_same old new e e' x b d nx [] p a = tt
others_same old new e e' x b d nx (z ∷ zs) p a = (
  d.others z p.0 (λ is. let s : Some b ≡ Some z = sym nx ∙ is in let t : z ≡ b = (cc) in a.0 t),
  others_same old new e e' x b d nx zs p.1 a.1,
)

-- the member that goes is the first here
detach_here : (old new : List Link) (e e' : Ends) (x : ℕ) → IsDetached old new e e' x
    → (l : ℕ) (p : Option ℕ) (ys : List ℕ) → Run old l p (x ∷ ys) None → AreDistinct (x ∷ ys)
    → PreviousAbsent p (x ∷ ys) → Run new l p ys None
detach_here old new e e' x d l p [] r distinct apart = tt
detach_here old new e e' x d l p (b ∷ zs) r distinct apart =
    let px : (link_at old x).previous ≡ p = ap (λ (k : Link). k.previous) r.1 in
    let nx : (link_at old x).next ≡ Some b = ap (λ (k : Link). k.next) r.1 in
    let far : Each (λ j. p ≢ Some j) (x ∷ b ∷ zs) = each_previous_apart p (x ∷ b ∷ zs) apart in
    let far' : Each (λ j. (link_at old x).previous ≢ Some j) (b ∷ zs) =
    subst (λ q. Each (λ j. q ≢ Some j) (b ∷ zs)) (sym px) far.1 in
    let size : length new ≡ length old = d.size in
    let lt : b < length old = r.2.0 in (
      omega arith,
      d.after b nx far'.0 lt ∙ (ap (λ (k : Link). record k { previous = (link_at old x).previous }) r.2.1
          ∙ ap (λ z. record { list = l; previous = z; next = head_or zs None }) px),
      run_frame old new l (Some b) zs None size (others_same old new e e' x b d nx zs far'.1 distinct.1.0) r.2.2,
    )

-- the member that goes comes right after y
link_before : (old new : List Link) (e e' : Ends) (x : ℕ) → IsDetached old new e e' x
    → (l y : ℕ) (p : Option ℕ) (zs : List ℕ) → Run old l p (y ∷ x ∷ zs) None → AreDistinct (y ∷ x ∷ zs)
    → link_at new y ≡ record { list = l; previous = p; next = head_or (without x (x ∷ zs)) None }
link_before old new e e' x d l y p zs r distinct =
    let px : (link_at old x).previous ≡ Some y = ap (λ (k : Link). k.previous) r.2.1 in
    let nx : (link_at old x).next ≡ head_or zs None = ap (λ (k : Link). k.next) r.2.1 in
    let same : without x (x ∷ zs) ≡ zs = without-same x zs ∙ without_absent x zs distinct.1.0 in
    d.before y px (next_apart old l y x (Some y) (x ∷ zs) r.2 distinct.0 (inl refl)) r.0
    ∙ (ap (λ (k : Link). record k { next = (link_at old x).next }) r.1
    ∙ ap (λ z. record { list = l; previous = p; next = z }) (nx ∙ ap (λ q. head_or q None) (sym same)))

link_there : (old new : List Link) (e e' : Ends) (x : ℕ) → IsDetached old new e e' x
    → (l y : ℕ) (p : Option ℕ) (ys : List ℕ) → Run old l p (y ∷ ys) None → AreDistinct (y ∷ ys) → Among x ys
    → link_at new y ≡ record { list = l; previous = p; next = head_or (without x ys) None }
link_there old new e e' x d l y p [] r distinct h = absurd h
link_there old new e e' x d l y p (z ∷ zs) r distinct h = elim (cases_eq z x) [
  | inl is ↦ subst (λ w. link_at new y ≡ record { list = l; previous = p; next = head_or (without x (w ∷ zs)) None })
      (sym is)
      (link_before old new e e' x d l y p zs (subst (λ w. Run old l p (y ∷ w ∷ zs) None) is r)
      (subst (λ w. AreDistinct (y ∷ w ∷ zs)) is distinct))
  | inr ne ↦ let later : Among x zs = elim h [ inl is ↦ absurd (ne is) | inr k ↦ k ] in
      d.others y (previous_apart old l y z x zs r.2.2 (λ q. distinct.0.0 (sym q)) distinct.0.1 later)
      (next_apart old l y x (Some z) zs r.2.2 distinct.0.1 later)
      ∙ (r.1 ∙ ap (λ q. record { list = l; previous = p; next = head_or q None }) (sym (without-other x z zs ne)))
]

pub detach-run : (old new : List Link) (e e' : Ends) (x : ℕ) → IsDetached old new e e' x
    → (l : ℕ) (p : Option ℕ) (xs : List ℕ) → Run old l p xs None → AreDistinct xs → PreviousAbsent p xs → Among x xs
    → Run new l p (without x xs) None
detach-run old new e e' x d l p [] r distinct apart h = absurd h
detach-run old new e e' x d l p (y ∷ ys) r distinct apart h = elim (cases_eq y x) [
  | inl is ↦
      let r' : Run old l p (x ∷ ys) None = subst (λ w. Run old l p (w ∷ ys) None) is r in
      let distinct' : AreDistinct (x ∷ ys) = subst (λ w. AreDistinct (w ∷ ys)) is distinct in
      let same : without x (y ∷ ys) ≡ ys = ap (λ w. without x (w ∷ ys)) is
      ∙ (without-same x ys ∙ without_absent x ys distinct'.0) in
      subst (λ q. Run new l p q None) (sym same)
      (detach_here old new e e' x d l p ys r' distinct' (subst (λ w. PreviousAbsent p (w ∷ ys)) is apart))
  | inr ne ↦
      let later : Among x ys = elim h [ inl is ↦ absurd (ne is) | inr k ↦ k ] in
      let size : length new ≡ length old = d.size in
      let lt : y < length old = r.0 in
      let all : Run new l p (y ∷ without x ys) None = (
        omega arith,
        link_there old new e e' x d l y p ys r distinct later,
        detach-run old new e e' x d l (Some y) ys r.2 distinct.1 distinct.0 later,
      ) in
      subst (λ q. Run new l p q None) (sym (without-other x y ys ne)) all
]

pub append-run : (old new : List Link) (e e' : Ends) (l x : ℕ) → IsAppended old new e e' l x
    → (p : Option ℕ) (xs : List ℕ) → x < length old → Run old l p xs None → e.last ≡ last_or p xs → AreDistinct xs
    → IsAbsent x xs → Run new l p (xs ++ x ∷ []) None
append-run old new e e' l x a p [] lt r last distinct apart = (
  let s : length new ≡ length old = a.size in
      omega arith,
  a.here ∙ ap (λ z. record { list = l; previous = z; next = None }) last,
  tt,
)
append-run old new e e' l x a p (y ∷ []) lt r last distinct apart = (
  let s : length new ≡ length old = a.size in let t : y < length old = r.0 in omega arith,
  a.before y last apart.0 r.0 ∙ ap (λ (k : Link). record k { next = Some x }) r.1,
  append-run old new e e' l x a (Some y) [] lt tt last tt tt,
)
append-run old new e e' l x a p (y ∷ z ∷ zs) lt r last distinct apart = (
  let s : length new ≡ length old = a.size in let t : y < length old = r.0 in omega arith,
  a.others y (λ is. last_apart y z zs (λ q. distinct.0.0 (sym q)) distinct.0.1 (sym last ∙ is)) apart.0 ∙ r.1,
  append-run old new e e' l x a (Some y) (z ∷ zs) lt r.2 last distinct.1 apart.1,
)
