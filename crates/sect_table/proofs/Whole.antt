-- What `detach` and `append` make of all lists.
use Rattle.std.proofs.Common.{◌≡◌, ◌≢◌, inl, inr, ℕ, zero, suc, ◌+◌, ◌<◌, ◌≤◌, List, [], ◌∷◌, ◌++◌, length, map, get_or}
use Rattle.std.proofs.Common.{set, Option, Some, None, refl, sym, ◌∙◌, ap, subst, arith, length-append, get_or-set_same}
use Rattle.std.proofs.Common.{get_or-set_other}
use Rattle.std.proofs.lemmas.List.{length-set, length-map, get_or-map, same_lists, get_or_default, get_or_read}
use Rattle.std.proofs.{lemmas.List.{get_or_append_left, map-append, get_or_at}, lemmas.Bool.{cases_eq}}
use Rattle.std.specs.Prelude.{IfSome}
use Rattle.sect_table.specs.{declared.links.Link.{Link}, declared.links.Ends.{Ends}}
use Rattle.sect_table.specs.steps.Links.{link_at, ends_at, no_ends, list_at, lists_of, walk, Run, head_or, last_or}
use Rattle.sect_table.specs.steps.Links.{Each, IsAbsent, Among, AreDistinct, without, IsList, IsDetached, IsAppended}
use Rattle.sect_table.specs.steps.Links.{AreLists, moved, no_link, labels_of, ArePlaced}
use Rattle.sect_table.proofs.Runs.{each_map, each_among, without-same, without-other, without_absent, distinct_without}
use Rattle.sect_table.proofs.Runs.{absent_without_itself, walk-run, run_frame, labels, previous_apart, next_apart}
use Rattle.sect_table.proofs.Runs.{last_apart, detach-run, append-run}

pub absent_by_label : (links : List Link) (l y : ℕ) → (link_at links y).list ≢ l → (xs : List ℕ)
    → Each (λ z. (link_at links z).list ≡ l) xs → IsAbsent y xs
absent_by_label links l y ne xs e =
    each_map (λ z. (link_at links z).list ≡ l) (λ z. z ≢ y)
    (λ z h is. ne (subst (λ w. (link_at links w).list ≡ l) is h)) xs e

pub previous_apart_whole : (links : List Link) (l y x : ℕ) (xs : List ℕ) → Run links l None xs None → IsAbsent y xs
    → Among x xs → (link_at links x).previous ≢ Some y
previous_apart_whole links l y x [] r e h = absurd h
previous_apart_whole links l y x (w ∷ ws) r e (inl h) = λ is. let q : (link_at links w).previous ≡ None =
    ap (λ (k : Link). k.previous) r.1 in let q' : (link_at links x).previous ≡ None =
    subst (λ v. (link_at links v).previous ≡ None) h q in let s : Some y ≡ None = sym is ∙ q' in cc
previous_apart_whole links l y x (w ∷ ws) r e (inr h) = previous_apart links l y w x ws r.2 (λ q. e.0 (sym q)) e.1 h

pub last_apart_whole : (y : ℕ) (xs : List ℕ) → IsAbsent y xs → last_or None xs ≢ Some y
last_apart_whole y [] e = λ is. cc
last_apart_whole y (w ∷ ws) e = last_apart y w ws (λ q. e.0 (sym q)) e.1

pub among_without : (i x : ℕ) (xs : List ℕ) → i ≢ x → Among i xs → Among i (without x xs)
among_without i x [] ne h = absurd h
among_without i x (y ∷ ys) ne h = elim (cases_eq y x) [
  | inl is ↦ let later : Among i ys = elim h [ inl q ↦ absurd (ne (sym q ∙ is)) | inr k ↦ k ] in
      subst (Among i) (sym (without-same x ys) ∙ ap (λ z. without x (z ∷ ys)) (sym is)) (among_without i x ys ne later)
  | inr other ↦ let f : Among i (y ∷ without x ys) =
      elim h [ inl q ↦ inl q | inr k ↦ inr (among_without i x ys ne k) ] in
      subst (Among i) (sym (without-other x y ys other)) f
]

pub among_append : (i : ℕ) (xs ys : List ℕ) → Among i xs → Among i (xs ++ ys)
among_append i [] ys h = absurd h
among_append i (x ∷ xs) ys (inl h) = inl h
among_append i (x ∷ xs) ys (inr h) = inr (among_append i xs ys h)

pub among_last : (i : ℕ) (xs : List ℕ) → Among i (xs ++ i ∷ [])
among_last i [] = inl refl
among_last i (x ∷ xs) = inr (among_last i xs)

pub each_append : (P : ℕ → Type 0) (xs : List ℕ) (y : ℕ) → Each P xs → P y → Each P (xs ++ y ∷ [])
each_append P [] y e h = (h, tt)
each_append P (x ∷ xs) y e h = (e.0, each_append P xs y e.1 h)

pub distinct_append : (xs : List ℕ) (y : ℕ) → AreDistinct xs → IsAbsent y xs → AreDistinct (xs ++ y ∷ [])
distinct_append [] y d a = (tt, tt)
distinct_append (x ∷ xs) y d a = (each_append (λ z. z ≢ x) xs y d.0 (λ q. a.0 (sym q)), distinct_append xs y d.1 a.1)

pub length-without : (x : ℕ) (xs : List ℕ) → AreDistinct xs → Among x xs → length (without x xs) + 1 ≡ length xs
length-without x [] d h = absurd h
length-without x (y ∷ ys) d h = elim (cases_eq y x) [
  | inl is ↦ let e : without x (y ∷ ys) ≡ ys = ap (λ w. without x (w ∷ ys)) is
      ∙ (without-same x ys ∙ without_absent x ys (subst (λ w. IsAbsent w ys) is d.0)) in
      let f : length (without x (y ∷ ys)) ≡ length ys = ap length e in omega arith
  | inr ne ↦ let later : Among x ys = elim h [ inl q ↦ absurd (ne q) | inr k ↦ k ] in
      let f : length (without x (y ∷ ys)) ≡ length (y ∷ without x ys) = ap length (without-other x y ys ne) in
      let g : length (without x ys) + 1 ≡ length ys = length-without x ys d.1 later in omega arith
]

-- the first and the last after `detach`
has_previous : (links : List Link) (l z x : ℕ) (xs : List ℕ) → Run links l (Some z) xs None → Among x xs
    → (a : ℕ) × ((link_at links x).previous ≡ Some a)
has_previous links l z x [] r h = absurd h
has_previous links l z x (w ∷ ws) r (inl h) =
    (z, subst (λ v. (link_at links v).previous ≡ Some z) h (ap (λ (k : Link). k.previous) r.1))
has_previous links l z x (w ∷ ws) r (inr h) = has_previous links l w x ws r.2 h

pub first_without : (links : List Link) (l x : ℕ) (xs : List ℕ) (f f' : Option ℕ) → Run links l None xs None
    → AreDistinct xs → Among x xs → f ≡ head_or xs None
    → ((link_at links x).previous ≡ None → f' ≡ (link_at links x).next)
    → ((a : ℕ) → (link_at links x).previous ≡ Some a → f' ≡ f) → f' ≡ head_or (without x xs) None
first_without links l x [] f f' r d h is none some = absurd h
first_without links l x (w ∷ ws) f f' r d h is none some = elim (cases_eq w x) [
  | inl e ↦
      let px : (link_at links x).previous ≡ None =
      subst (λ v. (link_at links v).previous ≡ None) e (ap (λ (k : Link). k.previous) r.1) in
      let nx : (link_at links x).next ≡ head_or ws None =
      subst (λ v. (link_at links v).next ≡ head_or ws None) e (ap (λ (k : Link). k.next) r.1) in
      let same : without x (w ∷ ws) ≡ ws = ap (λ v. without x (v ∷ ws)) e
      ∙ (without-same x ws ∙ without_absent x ws (subst (λ v. IsAbsent v ws) e d.0)) in
      none px ∙ (nx ∙ ap (λ q. head_or q None) (sym same))
  | inr ne ↦
      let later : Among x ws = elim h [ inl q ↦ absurd (ne q) | inr k ↦ k ] in
      let before = has_previous links l w x ws r.2 later in
      some before.0 before.1 ∙ (is ∙ ap (λ q. head_or q None) (sym (without-other x w ws ne)))
]

pub last_without : (links : List Link) (l x : ℕ) (p : Option ℕ) (xs : List ℕ) (f f' : Option ℕ) → Run links l p xs None
    → AreDistinct xs → Among x xs → f ≡ last_or p xs → ((link_at links x).next ≡ None → f' ≡ (link_at links x).previous)
    → ((b : ℕ) → (link_at links x).next ≡ Some b → f' ≡ f) → f' ≡ last_or p (without x xs)
last_without links l x p [] f f' r d h is none some = absurd h
last_without links l x p (w ∷ ws) f f' r d h is none some = elim (cases_eq w x) [
  | inl e ↦
      let px : (link_at links x).previous ≡ p =
      subst (λ v. (link_at links v).previous ≡ p) e (ap (λ (k : Link). k.previous) r.1) in
      let nx : (link_at links x).next ≡ head_or ws None =
      subst (λ v. (link_at links v).next ≡ head_or ws None) e (ap (λ (k : Link). k.next) r.1) in
      let same : without x (w ∷ ws) ≡ ws = ap (λ v. without x (v ∷ ws)) e
      ∙ (without-same x ws ∙ without_absent x ws (subst (λ v. IsAbsent v ws) e d.0)) in
      last_here ws px nx is ∙ ap (last_or p) (sym same)
  | inr ne ↦
      let later : Among x ws = elim h [ inl q ↦ absurd (ne q) | inr k ↦ k ] in
      last_without links l x (Some w) ws f f' r.2 d.1 later is none some
      ∙ ap (last_or p) (sym (without-other x w ws ne))
]
  where
    last_here : (ws : List ℕ) → (link_at links x).previous ≡ p → (link_at links x).next ≡ head_or ws None
        → f ≡ last_or (Some w) ws → f' ≡ last_or p ws
    last_here [] px nx is = none nx ∙ px
    last_here (b ∷ zs) px nx is = some b nx ∙ is

pub list_at-map : (x l : ℕ) (lists : List (List ℕ)) → l < length lists
    → list_at (map (without x) lists) l ≡ without x (list_at lists l)
list_at-map x l lists lt = get_or-map (without x) lists l [] [] lt

-- one list
pub detached_list : (old new : List Link) (l x : ℕ) (e e' : Ends) (xs : List ℕ) → IsList old l e xs
    → IsDetached old new e e' x → Among x xs → IsList new l e' (without x xs)
detached_list old new l x e e' xs L d h = record {
  run = detach-run old new e e' x d l None xs L.run L.distinct tt h;
  first = first_without old l x xs e.first e'.first L.run L.distinct h L.first d.first d.first_kept;
  last = last_without old l x None xs e.last e'.last L.run L.distinct h L.last d.last d.last_kept;
  len = (let s : e'.len + 1 ≡ e.len = d.len in let t : e.len ≡ length xs = L.len in
      let u : length (without x xs) + 1 ≡ length xs = length-without x xs L.distinct h in omega arith);
  distinct = distinct_without x xs L.distinct;
}

pub kept_list : (old new : List Link) (l : ℕ) (e : Ends) (xs : List ℕ) → length new ≡ length old
    → Each (λ y. link_at new y ≡ link_at old y) xs → IsList old l e xs → IsList new l e xs
kept_list old new l e xs size same L =
    record {
      run = run_frame old new l None xs None size same L.run;
      first = L.first;
      last = L.last;
      len =
          L.len;
      distinct = L.distinct;
    }

last_or-append : (p : Option ℕ) (xs : List ℕ) (x : ℕ) → last_or p (xs ++ x ∷ []) ≡ Some x
last_or-append p [] x = refl
last_or-append p (y ∷ ys) x = last_or-append (Some y) ys x

has_last : (z : ℕ) (xs : List ℕ) → (a : ℕ) × (last_or (Some z) xs ≡ Some a)
has_last z [] = (z, refl)
has_last z (x ∷ xs) = has_last x xs

first_appended : (e e' : Ends) (x : ℕ) (xs : List ℕ) → e.first ≡ head_or xs None → e.last ≡ last_or None xs
    → (e.last ≡ None → e'.first ≡ Some x) → ((a : ℕ) → e.last ≡ Some a → e'.first ≡ e.first)
    → e'.first ≡ head_or (xs ++ x ∷ []) None
first_appended e e' x [] f l none some = none l
first_appended e e' x (y ∷ ys) f l none some = let at = has_last y ys in some at.0 (l ∙ at.1) ∙ f

pub appended_list : (old new : List Link) (l x : ℕ) (e e' : Ends) (xs : List ℕ) → IsList old l e xs
    → IsAppended old new e e' l x → x < length old → IsAbsent x xs → IsList new l e' (xs ++ x ∷ [])
appended_list old new l x e e' xs L d lt absent = record {
  run = append-run old new e e' l x d None xs lt L.run L.last L.distinct absent;
  first = first_appended e e' x xs L.first L.last d.first d.first_kept;
  last = d.last ∙ sym (last_or-append None xs x);
  len = (let s : e'.len ≡ e.len + 1 = d.len in let t : e.len ≡ length xs = L.len in
      let u : length (xs ++ x ∷ []) ≡ length xs + length (x ∷ []) = length-append xs (x ∷ []) in omega arith);
  distinct = distinct_append xs x L.distinct absent;
}

is_list_along : (links : List Link) (l : ℕ) (e e' : Ends) (q q' : List ℕ) → e ≡ e' → q ≡ q' → IsList links l e q
    → IsList links l e' q'
is_list_along links l e e' q q' s t h = subst (λ z. IsList links l e' z) t (subst (λ z. IsList links l z q) s h)

each_two : (P Q S : ℕ → Type 0) → ((y : ℕ) → P y → Q y → S y) → (xs : List ℕ) → Each P xs → Each Q xs → Each S xs
each_two P Q S f [] p q = tt
each_two P Q S f (x ∷ xs) p q = (f x p.0 q.0, each_two P Q S f xs p.1 q.1)

pub detach_all : (old new : List Link) (ends : List Ends) (lists : List (List ℕ)) (e' : Ends) (x from : ℕ)
    → AreLists old ends lists None → x < length old → (link_at old x).list ≡ from
    → IsDetached old new (ends_at ends from) e' x → AreLists new (set ends from e') (map (without x) lists) (Some x)
detach_all old new ends lists e' x from a lt label d =
    let here : (from < length ends) × Among x (list_at lists from) =
    subst (λ m. (m < length ends) × Among x (list_at lists m)) label (a.placed x lt (λ is. cc)) in
    let L : IsList old from (ends_at ends from) (list_at lists from) = a.each from here.0 in
    let n : length (set ends from e') ≡ length ends = length-set ends from e' in
    let counted : length lists ≡ length ends = a.counted in
    let size : length new ≡ length old = d.size in
    let in_from : from < length ends = here.0 in
    let at_from : IsList new from (ends_at (set ends from e') from) (list_at (map (without x) lists) from)
    = is_list_along new from _ _ _ _ (sym (get_or-set_same ends from e' no_ends in_from))
    (sym (list_at-map x from lists (omega arith)))
    (detached_list old new from x (ends_at ends from) e' (list_at lists from) L d here.1) in
    record {
      counted = length-map lists (without x) ∙ (a.counted ∙ sym n);
      each = λ l within. elim (cases_eq l from) [
        | inl is ↦ subst (λ m. IsList new m (ends_at (set ends from e') m) (list_at (map (without x) lists) m)) (sym is)
            at_from
        | inr ne ↦
            let lt_l : l < length ends = omega arith in
            let K : IsList old l (ends_at ends l) (list_at lists l) = a.each l lt_l in
            let own : Each (λ y. (link_at old y).list ≡ l) (list_at lists l) =
            labels old l None (list_at lists l) None K.run in
            let gone : IsAbsent x (list_at lists l) =
            absent_by_label old l x (λ q. ne (sym q ∙ label)) (list_at lists l) own in
            let same : Each (λ y. link_at new y ≡ link_at old y) (list_at lists l) =
            each_map (λ y. (link_at old y).list ≡ l) (λ y. link_at new y ≡ link_at old y)
            (λ y h. let off : IsAbsent y (list_at lists from) =
            absent_by_label old from y (λ q. ne (sym h ∙ q)) (list_at lists from)
            (labels old from None (list_at lists from) None L.run) in
            d.others y (previous_apart_whole old from y x (list_at lists from) L.run off here.1)
            (next_apart old from y x None (list_at lists from) L.run off here.1)) (list_at lists l) own in
            is_list_along new l _ _ _ _ (sym (get_or-set_other ends from l e' no_ends ne))
            (sym (without_absent x (list_at lists l) gone) ∙ sym (list_at-map x l lists (omega arith)))
            (kept_list old new l (ends_at ends l) (list_at lists l) size same K)
      ];
      placed = λ i within out.
          let lt_i : i < length old = omega arith in
          let was = a.placed i lt_i (λ q. cc) in
          let m = (link_at old i).list in
          let below : m < length ends = was.0 in
          let now : (m < length (set ends from e')) × Among i (list_at (map (without x) lists) m)
          = (
            omega arith,
            subst (Among i) (sym (list_at-map x m lists (omega arith)))
                (among_without i x (list_at lists m) (λ q. out (ap Some (sym q))) was.1),
          ) in
          subst (λ m. (m < length (set ends from e')) × Among i (list_at (map (without x) lists) m)) (sym (d.labels i))
          now;
      outside = λ i is l within.
          let same : x ≡ i = (cc) in
          let lt_l : l < length lists = omega arith in
          subst (λ j. IsAbsent j (list_at (map (without x) lists) l)) same
          (subst (IsAbsent x) (sym (list_at-map x l lists lt_l)) (absent_without_itself x (list_at lists l)));
    }

pub append_all : (old new : List Link) (ends : List Ends) (lists : List (List ℕ)) (e' : Ends) (x to : ℕ)
    → AreLists old ends lists (Some x) → x < length old → to < length ends
    → IsAppended old new (ends_at ends to) e' to x
    → AreLists new (set ends to e') (set lists to (list_at lists to ++ x ∷ [])) None
append_all old new ends lists e' x to a lt within d =
    let L : IsList old to (ends_at ends to) (list_at lists to) = a.each to within in
    let n : length (set ends to e') ≡ length ends = length-set ends to e' in
    let n' : length (set lists to (list_at lists to ++ x ∷ [])) ≡ length lists =
    length-set lists to (list_at lists to ++ x ∷ []) in
    let counted : length lists ≡ length ends = a.counted in
    let size : length new ≡ length old = d.size in
    let within' : to < length lists = omega arith in
    let at_to : IsList new to (ends_at (set ends to e') to) (list_at (set lists to (list_at lists to ++ x ∷ [])) to)
    = is_list_along new to _ _ _ _ (sym (get_or-set_same ends to e' no_ends within))
    (sym (get_or-set_same lists to (list_at lists to ++ x ∷ []) [] within'))
    (appended_list old new to x (ends_at ends to) e' (list_at lists to) L d lt (a.outside x refl to within)) in
    record {
      counted = n' ∙ (a.counted ∙ sym n);
      each = λ l below. elim (cases_eq l to) [
        | inl is ↦ subst (λ m. IsList new m (ends_at (set ends to e') m)
            (list_at (set lists to (list_at lists to ++ x ∷ [])) m)) (sym is) at_to
        | inr ne ↦
            let lt_l : l < length ends = omega arith in
            let K : IsList old l (ends_at ends l) (list_at lists l) = a.each l lt_l in
            let own : Each (λ y. (link_at old y).list ≡ l) (list_at lists l) =
            labels old l None (list_at lists l) None K.run in
            let same : Each (λ y. link_at new y ≡ link_at old y) (list_at lists l) =
            each_two (λ y. (link_at old y).list ≡ l) (λ y. y ≢ x) (λ y. link_at new y ≡ link_at old y)
            (λ y h other. let off : IsAbsent y (list_at lists to) =
            absent_by_label old to y (λ q. ne (sym h ∙ q)) (list_at lists to)
            (labels old to None (list_at lists to) None L.run) in
            d.others y (λ q. last_apart_whole y (list_at lists to) off (sym L.last ∙ q)) other) (list_at lists l) own
            (a.outside x refl l lt_l) in
            is_list_along new l _ _ _ _ (sym (get_or-set_other ends to l e' no_ends ne))
            (sym (get_or-set_other lists to l (list_at lists to ++ x ∷ []) [] ne))
            (kept_list old new l (ends_at ends l) (list_at lists l) size same K)
      ];
      placed = λ i below out. elim (cases_eq i x) [
        | inl is ↦
            let now : (to < length (set ends to e')) × Among x (list_at (set lists to (list_at lists to ++ x ∷ [])) to)
            = (
              omega arith,
              subst (Among x) (sym (get_or-set_same lists to (list_at lists to ++ x ∷ []) [] within'))
                  (among_last x (list_at lists to)),
            ) in
            let there = subst (λ m. (m < length (set ends to e'))
            × Among x (list_at (set lists to (list_at lists to ++ x ∷ [])) m))
            (sym (ap (λ (k : Link). k.list) d.here)) now in
            subst (λ j. ((link_at new j).list < length (set ends to e'))
            × Among j (list_at (set lists to (list_at lists to ++ x ∷ [])) (link_at new j).list)) (sym is) there
        | inr ne ↦
            let lt_i : i < length old = omega arith in
            let was = a.placed i lt_i (λ q. ne (let s : x ≡ i = (cc) in sym s)) in
            let m = (link_at old i).list in
            let below_m : m < length ends = was.0 in
            let stays : Among i (list_at (set lists to (list_at lists to ++ x ∷ [])) m) = elim (cases_eq m to) [
              | inl same ↦ subst (λ k. Among i (list_at (set lists to (list_at lists to ++ x ∷ [])) k)) (sym same)
                  (subst (Among i) (sym (get_or-set_same lists to (list_at lists to ++ x ∷ []) [] within'))
                  (among_append i (list_at lists to) (x ∷ []) (subst (λ k. Among i (list_at lists k)) same was.1)))
              | inr off ↦ subst (Among i) (sym (get_or-set_other lists to m (list_at lists to ++ x ∷ []) [] off)) was.1
            ] in
            let now : (m < length (set ends to e')) × Among i (list_at (set lists to (list_at lists to ++ x ∷ [])) m) =
            (omega arith, stays) in
            subst (λ m. (m < length (set ends to e')) × Among i (list_at (set lists to (list_at lists to ++ x ∷ [])) m))
            (sym (d.labels i ne)) now
      ];
      outside = λ i is l below. let no_number : None ≡ Some i = is in cc;
    }

pub lists-found : (links : List Link) (ends : List Ends) (lists : List (List ℕ)) (out : Option ℕ)
    → AreLists links ends lists out → lists_of links ends ≡ lists
lists-found links ends lists out a =
    let counted : length lists ≡ length ends = a.counted in
    let n : length (lists_of links ends) ≡ length ends = length-map ends (λ e. walk links e.len e.first) in
    same_lists (lists_of links ends) lists (n ∙ sym counted)
    (λ k o lt. let below : k < length ends = omega arith in
    let L : IsList links k (ends_at ends k) (list_at lists k) = a.each k below in
    get_or-map (λ e. walk links e.len e.first) ends k no_ends o below
    ∙ (ap (λ z. walk links z (ends_at ends k).first) L.len
    ∙ (ap (walk links (length (list_at lists k))) L.first
    ∙ (walk-run links k None (list_at lists k) L.run
    ∙ get_or_default lists k [] o (omega arith)))))

pub closed : (links : List Link) (ends : List Ends) (lists : List (List ℕ)) → AreLists links ends lists None
    → AreLists links ends (lists_of links ends) None
closed links ends lists a = subst (λ q. AreLists links ends q None) (sym (lists-found links ends lists None a)) a

-- `detach`, then `append`, on what the code read
pub moved_all : (links links' links'' : List Link) (ends : List Ends) (x to : ℕ) (k : Link) (e e' f f' : Ends)
    → AreLists links ends (lists_of links ends) None → x < length links → to < length ends → k ≡ get_or links x k
    → e ≡ get_or ends k.list e → IsDetached links links' e e' x → f ≡ get_or (set ends k.list e') to f
    → IsAppended links' links'' f f' to x
    → AreLists links'' (set (set ends k.list e') to f') (moved x to (lists_of links ends)) None
moved_all links links' links'' ends x to k e e' f f' a lt within read read_e d read_f w =
    let label : (link_at links x).list ≡ k.list = ap (λ (z : Link). z.list) (sym (get_or_read links x k lt read _)) in
    let was = a.placed x lt (λ q. let no_number : None ≡ Some x = q in cc) in
    let in_from : k.list < length ends = subst (λ z. z < length ends) label was.0 in
    let n : length (set ends k.list e') ≡ length ends = length-set ends k.list e' in
    let within' : to < length (set ends k.list e') = omega arith in
    let size : length links' ≡ length links = d.size in
    let d' = subst (λ z. IsDetached links links' z e' x) (get_or_read ends k.list e in_from read_e no_ends) d in
    let w' = subst (λ z. IsAppended links' links'' z f' to x)
    (get_or_read (set ends k.list e') to f within' read_f no_ends) w in
    append_all links' links'' (set ends k.list e') (map (without x) (lists_of links ends)) f' x to
    (detach_all links links' ends (lists_of links ends) e' x k.list a lt label d') (omega arith) within' w'

-- distinct numbers below n are at most n
without_below : (n : ℕ) (xs : List ℕ) → Each (λ y. y < suc n) xs → Each (λ y. y < n) (without n xs)
without_below n [] e = tt
without_below n (y ∷ ys) e = elim (cases_eq y n) [
  | inl is ↦ subst (Each (λ z. z < n)) (sym (without-same n ys) ∙ ap (λ z. without n (z ∷ ys)) (sym is))
      (without_below n ys e.1)
  | inr ne ↦ let below : y < suc n = e.0 in let f : Each (λ z. z < n) (y ∷ without n ys) =
      (omega arith, without_below n ys e.1) in subst (Each (λ z. z < n)) (sym (without-other n y ys ne)) f
]

length-without_le : (x : ℕ) (xs : List ℕ) → AreDistinct xs → length xs ≤ length (without x xs) + 1
length-without_le x [] d = omega arith
length-without_le x (y ∷ ys) d = elim (cases_eq y x) [
  | inl is ↦ let e : without x (y ∷ ys) ≡ ys = ap (λ w. without x (w ∷ ys)) is
      ∙ (without-same x ys ∙ without_absent x ys (subst (λ w. IsAbsent w ys) is d.0)) in
      let f : length (without x (y ∷ ys)) ≡ length ys = ap length e in omega arith
  | inr ne ↦ let f : length (without x (y ∷ ys)) ≡ length (y ∷ without x ys) = ap length (without-other x y ys ne) in
      let g : length ys ≤ length (without x ys) + 1 = length-without_le x ys d.1 in omega arith
]

pub few_distinct : (n : ℕ) (xs : List ℕ) → AreDistinct xs → Each (λ y. y < n) xs → length xs ≤ n
few_distinct zero [] d e = omega arith
few_distinct zero (x ∷ xs) d e = let below : x < 0 = e.0 in absurd (omega arith)
few_distinct (suc n) xs d e = let f : length xs ≤ length (without n xs) + 1 = length-without_le n xs d in
    let g : length (without n xs) ≤ n =
    few_distinct n (without n xs) (distinct_without n xs d) (without_below n xs e) in omega arith

run_below : (links : List Link) (l : ℕ) (p : Option ℕ) (xs : List ℕ) → Run links l p xs None
    → Each (λ y. y < length links) xs
run_below links l p [] r = tt
run_below links l p (x ∷ xs) r = (r.0, run_below links l (Some x) xs r.2)

-- a number that stands in no list leaves room in each
pub room_outside : (links : List Link) (ends : List Ends) (lists : List (List ℕ)) (x l : ℕ)
    → AreLists links ends lists (Some x) → x < length links → l < length ends → (ends_at ends l).len < length links
room_outside links ends lists x l a lt within =
    let L : IsList links l (ends_at ends l) (list_at lists l) = a.each l within in
    let len : (ends_at ends l).len ≡ length (list_at lists l) = L.len in
    let most : length (x ∷ list_at lists l) ≤ length links =
    few_distinct (length links) (x ∷ list_at lists l) (a.outside x refl l within, L.distinct)
    (lt, run_below links l None (list_at lists l) L.run) in
    omega arith

-- the same, on what the code read
pub room_read : (links links' : List Link) (ends : List Ends) (x to : ℕ) (k : Link) (e e' f : Ends)
    → AreLists links ends (lists_of links ends) None → x < length links → to < length ends → k ≡ get_or links x k
    → e ≡ get_or ends k.list e → IsDetached links links' e e' x → f ≡ get_or (set ends k.list e') to f
    → f.len < length links'
room_read links links' ends x to k e e' f a lt within read read_e d read_f =
    let label : (link_at links x).list ≡ k.list = ap (λ (z : Link). z.list) (sym (get_or_read links x k lt read _)) in
    let was = a.placed x lt (λ q. let no_number : None ≡ Some x = q in cc) in
    let in_from : k.list < length ends = subst (λ z. z < length ends) label was.0 in
    let n : length (set ends k.list e') ≡ length ends = length-set ends k.list e' in
    let within' : to < length (set ends k.list e') = omega arith in
    let size : length links' ≡ length links = d.size in
    let d' = subst (λ z. IsDetached links links' z e' x) (get_or_read ends k.list e in_from read_e no_ends) d in
    subst (λ (z : Ends). z.len < length links') (sym (get_or_read (set ends k.list e') to f within' read_f no_ends))
    (room_outside links' (set ends k.list e') (map (without x) (lists_of links ends)) x to
    (detach_all links links' ends (lists_of links ends) e' x k.list a lt label d') (omega arith) within')

absent_elsewhere : (links : List Link) (ends : List Ends) (lists : List (List ℕ)) (x from l : ℕ)
    → AreLists links ends lists None → from < length ends → Among x (list_at lists from) → l < length ends → l ≢ from
    → IsAbsent x (list_at lists l)
absent_elsewhere links ends lists x from l a in_from h in_l ne =
    let L : IsList links from (ends_at ends from) (list_at lists from) = a.each from in_from in
    let K : IsList links l (ends_at ends l) (list_at lists l) = a.each l in_l in
    let label : (link_at links x).list ≡ from =
    each_among (λ z. (link_at links z).list ≡ from) x (list_at lists from)
    (labels links from None (list_at lists from) None L.run) h in
    absent_by_label links l x (λ q. ne (sym q ∙ label)) (list_at lists l)
    (labels links l None (list_at lists l) None K.run)

-- taking x out of every list takes it out of the one in which it stands
pub map-without : (links : List Link) (ends : List Ends) (lists : List (List ℕ)) (x from : ℕ)
    → AreLists links ends lists None → from < length lists → Among x (list_at lists from)
    → map (without x) lists ≡ set lists from (without x (list_at lists from))
map-without links ends lists x from a lt h =
    let counted : length lists ≡ length ends = a.counted in
    let n : length (map (without x) lists) ≡ length lists = length-map lists (without x) in
    let m : length (set lists from (without x (list_at lists from))) ≡ length lists =
    length-set lists from (without x (list_at lists from)) in
    same_lists (map (without x) lists) (set lists from (without x (list_at lists from))) (n ∙ sym m)
    (λ k d below.
    let lt_k : k < length lists = omega arith in
    let mapped : get_or (map (without x) lists) k d ≡ without x (list_at lists k) =
    get_or-map (without x) lists k [] d lt_k in
    elim (cases_eq k from) [
      | inl is ↦ mapped ∙ (ap (λ q. without x (list_at lists q)) is
          ∙ sym (ap (λ q. get_or (set lists from (without x (list_at lists from))) q d) is
          ∙ get_or-set_same lists from (without x (list_at lists from)) d lt))
      | inr ne ↦ mapped ∙ (without_absent x (list_at lists k)
          (absent_elsewhere links ends lists x from k a (omega arith) h (omega arith) ne)
          ∙ (get_or_default lists k [] d lt_k
          ∙ sym (get_or-set_other lists from k (without x (list_at lists from)) d ne)))
    ])

run_after : (links : List Link) (l : ℕ) (p : Option ℕ) (before : List ℕ) (x : ℕ) (later : List ℕ)
    → Run links l p (before ++ x ∷ later) None → (link_at links x).next ≡ head_or later None
run_after links l p [] x later r = ap (λ (k : Link). k.next) r.1
run_after links l p (b ∷ bs) x later r = run_after links l (Some b) bs x later r.2

pub after_is : (links : List Link) (ends : List Ends) (x : ℕ) (k : Link)
    → AreLists links ends (lists_of links ends) None → x < length links → k ≡ get_or links x k → (lists : List (List ℕ))
    → lists_of links ends ≡ lists → (l : ℕ) (before later : List ℕ) → l < length lists
    → list_at lists l ≡ before ++ x ∷ later → k.next ≡ head_or later None
after_is links ends x k a lt is_k lists same l before later below is =
    let a' : AreLists links ends lists None = subst (λ q. AreLists links ends q None) same a in
    let counted : length lists ≡ length ends = a'.counted in
    let L : IsList links l (ends_at ends l) (list_at lists l) = a'.each l (omega arith) in
    ap (λ (z : Link). z.next) (get_or_read links x k lt is_k _)
    ∙ run_after links l None before x later (subst (λ q. Run links l None q None) is L.run)

next_within : (links : List Link) (l x : ℕ) (p : Option ℕ) (xs : List ℕ) → Run links l p xs None → Among x xs
    → IfSome ((link_at links x).next) (λ y. y < length links)
next_within links l x p [] r h = absurd h
next_within links l x p (w ∷ []) r (inl h) =
    subst (λ o. IfSome o (λ y. y < length links))
    (sym (subst (λ v. (link_at links v).next ≡ None) h (ap (λ (k : Link). k.next) r.1))) tt
next_within links l x p (w ∷ v ∷ vs) r (inl h) =
    subst (λ o. IfSome o (λ y. y < length links))
    (sym (subst (λ u. (link_at links u).next ≡ Some v) h (ap (λ (k : Link). k.next) r.1))) r.2.0
next_within links l x p (w ∷ ws) r (inr h) = next_within links l x (Some w) ws r.2 h

pub after_within : (links : List Link) (ends : List Ends) (x : ℕ) (k : Link)
    → AreLists links ends (lists_of links ends) None → x < length links → k ≡ get_or links x k
    → IfSome k.next (λ y. y < length links)
after_within links ends x k a lt is_k =
    let was = a.placed x lt (λ q. let no_number : None ≡ Some x = q in cc) in
    let m = (link_at links x).list in
    let L : IsList links m (ends_at ends m) (list_at (lists_of links ends) m) = a.each m was.0 in
    subst (λ (z : Link). IfSome z.next (λ y. y < length links)) (sym (get_or_read links x k lt is_k _))
    (next_within links m x None (list_at (lists_of links ends) m) L.run was.1)

link_kept : (links : List Link) (k : Link) (y : ℕ) → y < length links → link_at (links ++ k ∷ []) y ≡ link_at links y
link_kept links k y lt = get_or_append_left links (k ∷ []) no_link y lt

run_grown : (links : List Link) (k : Link) (l : ℕ) (p : Option ℕ) (xs : List ℕ) → Run links l p xs None
    → Run (links ++ k ∷ []) l p xs None
run_grown links k l p [] r = tt
run_grown links k l p (x ∷ xs) r = let n : length (links ++ k ∷ []) ≡ length links + length (k ∷ []) =
    length-append links (k ∷ []) in let lt : x < length links = r.0 in
    (omega arith, link_kept links k x lt ∙ r.1, run_grown links k l (Some x) xs r.2)

absent_past : (n : ℕ) (xs : List ℕ) → Each (λ y. y < n) xs → IsAbsent n xs
absent_past n xs e = each_map (λ y. y < n) (λ y. y ≢ n) (λ y h is. absurd (omega arith)) xs e

-- one more link: its number stands in no list yet
pub grown_all : (links : List Link) (ends : List Ends) (lists : List (List ℕ)) (k : Link)
    → AreLists links ends lists None → AreLists (links ++ k ∷ []) ends lists (Some (length links))
grown_all links ends lists k a =
    let n : length (links ++ k ∷ []) ≡ length links + length (k ∷ []) = length-append links (k ∷ []) in
    record {
      counted = a.counted;
      each = λ l below. let L : IsList links l (ends_at ends l) (list_at lists l) = a.each l below in
          record {
            run = run_grown links k l None (list_at lists l) L.run;
            first = L.first;
            last = L.last;
            len =
                L.len;
            distinct = L.distinct;
          };
      placed = λ i below out.
          let ne : i ≢ length links = (λ q. out (ap Some (sym q))) in
          let lt : i < length links = omega arith in
          subst (λ (z : Link). (z.list < length ends) × Among i (list_at lists z.list)) (sym (link_kept links k i lt))
          (a.placed i lt (λ q. let no_number : None ≡ Some i = q in cc));
      outside = λ i is l below.
          let same : length links ≡ i = (cc) in
          let L : IsList links l (ends_at ends l) (list_at lists l) = a.each l below in
          subst (λ z. IsAbsent z (list_at lists l)) same
          (absent_past (length links) (list_at lists l) (run_below links l None (list_at lists l) L.run));
    }

pub added_all : (links grown links' : List Link) (ends : List Ends) (l n : ℕ) (k : Link) (f f' : Ends)
    → AreLists links ends (lists_of links ends) None → n ≡ length links → grown ≡ links ++ k ∷ [] → l < length ends
    → f ≡ get_or ends l f → IsAppended grown links' f f' l n
    → AreLists links' (set ends l f') (set (lists_of links ends) l (list_at (lists_of links ends) l ++ n ∷ [])) None
added_all links grown links' ends l n k f f' a is_n is within read w =
    let w' = subst (λ z. IsAppended grown links' z f' l n) (get_or_read ends l f within read no_ends) w in
    let more : length (links ++ k ∷ []) ≡ length links + length (k ∷ []) = length-append links (k ∷ []) in
    let size : length grown ≡ length (links ++ k ∷ []) = ap length is in
    append_all grown links' ends (lists_of links ends) f' n l
    (subst (λ z. AreLists grown ends (lists_of links ends) (Some z)) (sym is_n)
    (subst (λ z. AreLists z ends (lists_of links ends) (Some (length links))) (sym is)
    (grown_all links ends (lists_of links ends) k a))) (omega arith) within w'

pub room_added : (links grown : List Link) (ends : List Ends) (l : ℕ) (k : Link) (f : Ends)
    → AreLists links ends (lists_of links ends) None → grown ≡ links ++ k ∷ [] → l < length ends → f ≡ get_or ends l f
    → f.len < length grown
room_added links grown ends l k f a is within read =
    let more : length (links ++ k ∷ []) ≡ length links + length (k ∷ []) = length-append links (k ∷ []) in
    let size : length grown ≡ length (links ++ k ∷ []) = ap length is in
    let r : (ends_at ends l).len < length (links ++ k ∷ []) =
    room_outside (links ++ k ∷ []) ends (lists_of links ends) (length links) l
    (grown_all links ends (lists_of links ends) k a) (omega arith) within in
    let same : f.len ≡ (ends_at ends l).len = ap (λ (z : Ends). z.len) (get_or_read ends l f within read no_ends) in
    omega arith

pub get_or-labels : (links : List Link) (j d : ℕ) → j < length links
    → get_or (labels_of links) j d ≡ (link_at links j).list
get_or-labels links j d lt = get_or-map (λ k. k.list) links j no_link d lt

pub labels-moved : (links links' links'' : List Link) (x to : ℕ) (e e' f f' : Ends) → x < length links
    → IsDetached links links' e e' x → IsAppended links' links'' f f' to x
    → labels_of links'' ≡ set (labels_of links) x to
labels-moved links links' links'' x to e e' f f' lt d w =
    let s1 : length links' ≡ length links = d.size in
    let s2 : length links'' ≡ length links' = w.size in
    let n1 : length (labels_of links'') ≡ length links'' = length-map links'' (λ k. k.list) in
    let n2 : length (labels_of links) ≡ length links = length-map links (λ k. k.list) in
    let n3 : length (set (labels_of links) x to) ≡ length (labels_of links) = length-set (labels_of links) x to in
    same_lists (labels_of links'') (set (labels_of links) x to) (omega arith)
    (λ j o below. elim (cases_eq j x) [
      | inl is ↦ get_or-labels links'' j o (omega arith)
          ∙ (ap (λ z. (link_at links'' z).list) is
          ∙ (ap (λ (k : Link). k.list) w.here
          ∙ sym (ap (λ z. get_or (set (labels_of links) x to) z o) is
          ∙ get_or-set_same (labels_of links) x to o (omega arith))))
      | inr ne ↦ get_or-labels links'' j o (omega arith)
          ∙ (w.labels j ne ∙ (d.labels j
          ∙ sym (get_or-set_other (labels_of links) x j to o ne ∙ get_or-labels links j o (omega arith))))
    ])

pub labels-added : (links grown links' : List Link) (l n : ℕ) (p q : Option ℕ) (f f' : Ends) → n ≡ length links
    → grown ≡ links ++ (record { list = l; previous = p; next = q }) ∷ [] → IsAppended grown links' f f' l n
    → labels_of links' ≡ labels_of links ++ l ∷ []
labels-added links grown links' l n p q f f' is_n is w =
    let more : length (links ++ (record { list = l; previous = p; next = q }) ∷ []) ≡ length links + 1 =
    length-append links ((record { list = l; previous = p; next = q }) ∷ []) in
    let size : length grown ≡ length (links ++ (record { list = l; previous = p; next = q }) ∷ []) = ap length is in
    let s2 : length links' ≡ length grown = w.size in
    let n1 : length (labels_of links') ≡ length links' = length-map links' (λ k. k.list) in
    let n2 : length (labels_of grown) ≡ length grown = length-map grown (λ k. k.list) in
    let all : labels_of links' ≡ labels_of grown
    = same_lists (labels_of links') (labels_of grown) (omega arith)
    (λ j o below. elim (cases_eq j n) [
      | inl same ↦ get_or-labels links' j o (omega arith)
          ∙ (ap (λ z. (link_at links' z).list) same ∙ (ap (λ (k : Link). k.list) w.here
          ∙ sym (get_or-labels grown j o (omega arith)
          ∙ (ap (λ z. (link_at z j).list) is
          ∙ (ap (λ z. (link_at (links ++ (record { list = l; previous = p; next = q }) ∷ []) z).list) (same ∙ is_n)
          ∙ ap (λ (k : Link). k.list) (get_or_at links (record { list = l; previous = p; next = q }) [] no_link
          (length links) refl))))))
      | inr ne ↦ get_or-labels links' j o (omega arith) ∙ (w.labels j ne ∙ sym (get_or-labels grown j o (omega arith)))
    ]) in
    all ∙ (ap labels_of is ∙ map-append (λ k. k.list) links ((record { list = l; previous = p; next = q }) ∷ []))

each_pair : (P Q : ℕ → Type 0) (xs : List ℕ) → Each P xs → Each Q xs → Each (λ i. P i × Q i) xs
each_pair P Q [] p q = tt
each_pair P Q (x ∷ xs) p q = ((p.0, q.0), each_pair P Q xs p.1 q.1)

pub placed_all : (links : List Link) (ends : List Ends) (room list_room : ℕ)
    → AreLists links ends (lists_of links ends) None
    → ArePlaced (record {
      size = length links;
      room = room;
      list_room = list_room;
      labels = labels_of links;
      lists =
          lists_of links ends;
    })
placed_all links ends room list_room a =
    let counted : length (lists_of links ends) ≡ length ends = a.counted in
    record {
      sized = length-map links (λ k. k.list);
      labelled = λ l below.
          let L : IsList links l (ends_at ends l) (list_at (lists_of links ends) l) = a.each l (omega arith) in
          each_map (λ i. (i < length links) × ((link_at links i).list ≡ l))
          (λ i. (i < length links) × (get_or (labels_of links) i 0 ≡ l))
          (λ i h. (h.0, get_or-labels links i 0 h.0 ∙ h.1)) (list_at (lists_of links ends) l)
          (each_pair (λ i. i < length links) (λ i. (link_at links i).list ≡ l) (list_at (lists_of links ends) l)
          (run_below links l None (list_at (lists_of links ends) l) L.run)
          (labels links l None (list_at (lists_of links ends) l) None L.run));
      there = λ i below.
          let was = a.placed i below (λ q. let no_number : None ≡ Some i = q in cc) in
          let at : get_or (labels_of links) i 0 ≡ (link_at links i).list = get_or-labels links i 0 below in
          let in_ends : (link_at links i).list < length ends = was.0 in
          let now : ((link_at links i).list < length (lists_of links ends))
          × Among i (list_at (lists_of links ends) (link_at links i).list) = (omega arith, was.1) in
          subst (λ m. (m < length (lists_of links ends)) × Among i (list_at (lists_of links ends) m)) (sym at) now;
      distinct = λ l below. (a.each l (omega arith)).distinct;
    }

-- the same, with the number of links by another name
pub placed_sized : (links : List Link) (ends : List Ends) (size room list_room : ℕ) → length links ≡ size
    → AreLists links ends (lists_of links ends) None
    → ArePlaced (record {
      size = size;
      room = room;
      list_room = list_room;
      labels = labels_of links;
      lists =
          lists_of links ends;
    })
placed_sized links ends size room list_room is a =
    subst (λ z. ArePlaced (record {
      size = z;
      room = room;
      list_room = list_room;
      labels = labels_of links;
      lists =
          lists_of links ends;
    })) is (placed_all links ends room list_room a)

-- neighbours and ends are links
known_below : (links : List Link) (w : ℕ) → w < length links → (a : ℕ) → Some w ≡ Some a → a < length links
known_below links w lt a is = let same : w ≡ a = (cc) in subst (λ z. z < length links) same lt

previous_below : (links : List Link) (l x : ℕ) (p : Option ℕ) (xs : List ℕ) → Run links l p xs None
    → ((a : ℕ) → p ≡ Some a → a < length links) → Among x xs → (a : ℕ) → (link_at links x).previous ≡ Some a
    → a < length links
previous_below links l x p [] r b h = absurd h
previous_below links l x p (w ∷ ws) r b (inl h) =
    λ a is. b a (sym (subst (λ v. (link_at links v).previous ≡ p) h (ap (λ (k : Link). k.previous) r.1)) ∙ is)
previous_below links l x p (w ∷ ws) r b (inr h) = previous_below links l x (Some w) ws r.2 (known_below links w r.0) h

last_below : (links : List Link) (l : ℕ) (p : Option ℕ) (xs : List ℕ) → Run links l p xs None
    → ((a : ℕ) → p ≡ Some a → a < length links) → (a : ℕ) → last_or p xs ≡ Some a → a < length links
last_below links l p [] r b = b
last_below links l p (x ∷ xs) r b = last_below links l (Some x) xs r.2 (known_below links x r.0)

no_link_before : (n : ℕ) (a : ℕ) → None ≡ Some a → a < n
no_link_before n a is = absurd (let none : None ≡ Some a = is in cc)

pub previous_within : (links : List Link) (ends : List Ends) (x : ℕ) → AreLists links ends (lists_of links ends) None
    → x < length links → (a : ℕ) → (link_at links x).previous ≡ Some a → a < length links
previous_within links ends x a lt =
    let was = a.placed x lt (λ q. let no_number : None ≡ Some x = q in cc) in
    let m = (link_at links x).list in
    let L : IsList links m (ends_at ends m) (list_at (lists_of links ends) m) = a.each m was.0 in
    previous_below links m x None (list_at (lists_of links ends) m) L.run (no_link_before (length links)) was.1

pub next_link_within : (links : List Link) (ends : List Ends) (x : ℕ) → AreLists links ends (lists_of links ends) None
    → x < length links → (a : ℕ) → (link_at links x).next ≡ Some a → a < length links
next_link_within links ends x a lt b is =
    subst (λ o. IfSome o (λ y. y < length links)) is
    (after_within links ends x (link_at links x) a lt (get_or_default links x no_link (link_at links x) lt))

last_outside : (links : List Link) (ends : List Ends) (lists : List (List ℕ)) (x l : ℕ)
    → AreLists links ends lists (Some x) → l < length ends → (a : ℕ) → (ends_at ends l).last ≡ Some a → a < length links
last_outside links ends lists x l a within b is =
    let L : IsList links l (ends_at ends l) (list_at lists l) = a.each l within in
    last_below links l None (list_at lists l) L.run (no_link_before (length links)) b (sym L.last ∙ is)

-- the last of the list to which a number goes, on what the code read
pub last_read : (links links' : List Link) (ends : List Ends) (x to : ℕ) (k : Link) (e e' f : Ends)
    → AreLists links ends (lists_of links ends) None → x < length links → to < length ends → k ≡ get_or links x k
    → e ≡ get_or ends k.list e → IsDetached links links' e e' x → f ≡ get_or (set ends k.list e') to f → (a : ℕ)
    → f.last ≡ Some a → a < length links'
last_read links links' ends x to k e e' f a lt within read read_e d read_f b is =
    let label : (link_at links x).list ≡ k.list = ap (λ (z : Link). z.list) (sym (get_or_read links x k lt read _)) in
    let was = a.placed x lt (λ q. let no_number : None ≡ Some x = q in cc) in
    let in_from : k.list < length ends = subst (λ z. z < length ends) label was.0 in
    let n : length (set ends k.list e') ≡ length ends = length-set ends k.list e' in
    let within' : to < length (set ends k.list e') = omega arith in
    let d' = subst (λ z. IsDetached links links' z e' x) (get_or_read ends k.list e in_from read_e no_ends) d in
    last_outside links' (set ends k.list e') (map (without x) (lists_of links ends)) x to
    (detach_all links links' ends (lists_of links ends) e' x k.list a lt label d') within' b
    (sym (ap (λ (z : Ends). z.last) (get_or_read (set ends k.list e') to f within' read_f no_ends)) ∙ is)

-- the same for a new number
pub last_added : (links grown : List Link) (ends : List Ends) (l : ℕ) (k : Link) (f : Ends)
    → AreLists links ends (lists_of links ends) None → grown ≡ links ++ k ∷ [] → l < length ends → f ≡ get_or ends l f
    → (a : ℕ) → f.last ≡ Some a → a < length grown
last_added links grown ends l k f a is within read b at =
    subst (λ z. b < length z) (sym is)
    (last_outside (links ++ k ∷ []) ends (lists_of links ends) (length links) l
    (grown_all links ends (lists_of links ends) k a) within b
    (sym (ap (λ (z : Ends). z.last) (get_or_read ends l f within read no_ends)) ∙ at))
