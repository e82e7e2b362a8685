-- Lists that are the fronts of rows.
use Rattle.std.proofs.Common.{◌≡◌, inl, inr, ℕ, zero, suc, ◌+◌, ◌<◌, ◌≤◌, List, [], ◌∷◌, ◌++◌, map, take, set, length}
use Rattle.std.proofs.{Common.{length-set, length-append, refl, sym, ap, ◌∙◌, subst, arith}, lemmas.Bool.{cases_eq}}
use Rattle.std.proofs.lemmas.List.{append-nil, get_or-map, get_or-set_same, get_or-set_other, take-append-le, map-set}
use Rattle.std.proofs.{Math.Seq.{take-length}, lemmas.List.{get_or_append_left}}
use Rattle.std.specs.{Prelude.{slice_index_or}, declared.vec.Vec.{Vec}, Global.{Global}}
use Rattle.sect_lemmas.specs.Lists.{Has}
use Rattle.sect_lemmas.proofs.Membership.{Has-get_or}
use Rattle.sect_infer.specs.declared.lists.Front.{Front}
use Rattle.sect_infer.specs.steps.Fronts.{front_of, fronts_of, AreEmpty, IsFront, AreFronts, HasOneMore}

-- the list of one of some vectors, and the numbers of one of some fronts
pub row_at : (vs : List (Vec ℕ Global)) (i : ℕ) (v : Vec ℕ Global) → i < length vs → v ≡ slice_index_or vs i v
    → slice_index_or (map (λ (x : Vec ℕ Global). x.items) vs) i [] ≡ v.items
row_at vs i v within is = get_or-map (λ (x : Vec ℕ Global). x.items) vs i v [] within
    ∙ ap (λ (x : Vec ℕ Global). x.items) (sym is)

pub front_at : (rows : List (List ℕ)) (fs : List Front) (j : ℕ) (f : Front) → j < length fs → f ≡ slice_index_or fs j f
    → slice_index_or (fronts_of rows fs) j [] ≡ front_of rows f
front_at rows fs j f within is = get_or-map (front_of rows) fs j f [] within ∙ ap (front_of rows) (sym is)

pub front_has : (fs : List Front) (j : ℕ) (f : Front) → j < length fs → f ≡ slice_index_or fs j f → Has fs f
front_has fs j f within is = subst (Has fs) (sym is) (Has-get_or fs j f within)

-- rows of which one goes on
pub row_put : (vs : List (Vec ℕ Global)) (r : ℕ) (v w : Vec ℕ Global) (more : List ℕ) → r < length vs
    → v ≡ slice_index_or vs r v → w.items ≡ v.items ++ more
    → map (λ (x : Vec ℕ Global). x.items) (set vs r w)
    ≡ set (map (λ (x : Vec ℕ Global). x.items) vs) r
    (slice_index_or (map (λ (x : Vec ℕ Global). x.items) vs) r [] ++ more)
row_put vs r v w more within is e = map-set (λ (x : Vec ℕ Global). x.items) vs r w
    ∙ ap (set (map (λ (x : Vec ℕ Global). x.items) vs) r)
    (e ∙ ap (λ l. l ++ more) (sym (row_at vs r v within is)))

-- fronts without numbers
pub empty_fronts : (rows : List (List ℕ)) (fs : List Front) (n : ℕ) → rows ≡ [] ∷ [] → AreEmpty n fs → AreFronts rows fs
empty_fronts rows fs n one are f h = subst (IsFront rows) (sym (are.each f h))
    (record { row = omega (arith, ap length one); count = omega arith })

pub empty_lists : (rows : List (List ℕ)) (fs : List Front) (n : ℕ) → AreEmpty n fs → (j : ℕ)
    → slice_index_or (fronts_of rows fs) j [] ≡ []
empty_lists rows [] n are j = refl
empty_lists rows (f ∷ fs) n are zero = ap (front_of rows) (are.each f (inl refl)) ∙ refl
empty_lists rows (f ∷ fs) n are (suc j) =
    empty_lists rows fs (length fs) (record { count = refl; each = λ x h. are.each x (inr h) }) j

-- each row goes on from what it was
pub record IsLonger (old new : List (List ℕ)) : Type 0 where
  pub count : length old ≤ length new
  pub each : (i : ℕ) → i < length old → (more : List ℕ) × (slice_index_or new i [] ≡ slice_index_or old i [] ++ more)

pub longer_same : (rows : List (List ℕ)) → IsLonger rows rows
longer_same rows = record { count = omega arith; each = λ i within. ([], sym (append-nil (slice_index_or rows i []))) }

-- one row more, and one that goes on
pub longer_more : (rows more : List (List ℕ)) → IsLonger rows (rows ++ more)
longer_more rows more = record {
  count = omega (arith, length-append rows more);
  each = λ i within. ([], get_or_append_left rows more [] i within ∙ sym (append-nil (slice_index_or rows i [])));
}

pub longer_put : (rows : List (List ℕ)) (r : ℕ) (more : List ℕ) → r < length rows
    → IsLonger rows (set rows r (slice_index_or rows r [] ++ more))
longer_put rows r more there = record {
  count = omega (arith, length-set rows r (slice_index_or rows r [] ++ more));
  each = λ i within. elim (cases_eq i r) [
    | inl e ↦ (
      more,
      ap (λ k. slice_index_or (set rows r (slice_index_or rows r [] ++ more)) k []) e
          ∙ get_or-set_same rows r (slice_index_or rows r [] ++ more) [] there
          ∙ ap (λ k. slice_index_or rows k [] ++ more) (sym e),
    )
    | inr n ↦ (
      [],
      get_or-set_other rows r i (slice_index_or rows r [] ++ more) [] n ∙ sym (append-nil (slice_index_or rows i [])),
    )
  ];
}

-- and one after the other
pub longer_then : (a b c : List (List ℕ)) → IsLonger a b → IsLonger b c → IsLonger a c
longer_then a b c h k = record {
  count = let x = h.count in let y = k.count in omega (arith, x, y);
  each = λ i within.
      let first = h.each i within in
      let second = k.each i (let x = h.count in omega (arith, within, x)) in (
        first.0 ++ second.0,
        second.1 ∙ ap (λ l. l ++ second.0) first.1 ∙ joined (slice_index_or a i []) first.0 second.0,
      );
}
  where
    joined : (xs ys zs : List ℕ) → (xs ++ ys) ++ zs ≡ xs ++ (ys ++ zs)
    joined [] ys zs = refl
    joined (x ∷ xs) ys zs = ap (λ l. x ∷ l) (joined xs ys zs)

-- a front stays what it was
module _ (old new : List (List ℕ)) (longer : IsLonger old new) where
  pub front_stays : (f : Front) → IsFront old f → front_of new f ≡ front_of old f
  front_stays f is =
      let row = longer.each f.row is.row in
      ap (take f.count) row.1 ∙ take-append-le f.count (slice_index_or old f.row []) row.0 is.count

  pub is_front : (f : Front) → IsFront old f → IsFront new f
  is_front f is =
      let row = longer.each f.row is.row in
      let count = is.count in
      let within = is.row in
      let counted = longer.count in
      record {
        row = omega (arith, within, counted);
        count = omega (arith, count, ap length row.1, length-append (slice_index_or old f.row []) row.0);
      }

  pub fronts_stay : (fs : List Front) → AreFronts old fs → fronts_of new fs ≡ fronts_of old fs
  fronts_stay [] are = refl
  fronts_stay (f ∷ fs) are =
      let first : front_of new f ≡ front_of old f = front_stays f (are f (inl refl)) in
      let rest : fronts_of new fs ≡ fronts_of old fs = fronts_stay fs (λ x h. are x (inr h)) in
      ap (λ x. x ∷ fronts_of new fs) first ∙ ap (λ xs. front_of old f ∷ xs) rest

  pub are_fronts : (fs : List Front) → AreFronts old fs → AreFronts new fs
  are_fronts fs are f h = is_front f (are f h)

-- a front in the place of another
pub fronts_set : (rows : List (List ℕ)) (fs : List Front) (j : ℕ) (f : Front) → AreFronts rows fs → IsFront rows f
    → AreFronts rows (set fs j f)
fronts_set rows [] j f are is x h = absurd h
fronts_set rows (y ∷ fs) zero f are is x h = elim h [
  | inl e ↦ subst (IsFront rows) e is
  | inr k ↦ are x (inr k)
]
fronts_set rows (y ∷ fs) (suc j) f are is x h = elim h [
  | inl e ↦ are x (inl e)
  | inr k ↦ fronts_set rows fs j f (λ z m. are z (inr m)) is x k
]

-- the rows are at most one more
pub longer_one : (old new : List (List ℕ)) (row : List ℕ) → HasOneMore old new row → IsLonger old new
longer_one old new row h = elim h [
  | inl e ↦ subst (IsLonger old) (sym e) (longer_same old)
  | inr e ↦ subst (IsLonger old) (sym e) (longer_more old (row ∷ []))
]

-- the numbers behind a front, in a row that ends with its last one
module _ (old rows : List (List ℕ)) (fs : List Front) (j : ℕ) (f to : Front) (more : List ℕ)
    (are : AreFronts old fs) (longer : IsLonger old rows) (there : to.row < length rows)
    (ends : slice_index_or rows to.row [] ≡ front_of old f) (counted : to.count ≡ length (front_of old f) + length more)
  where
    -- the rows then
    abbrev grown : List (List ℕ)
    grown = set rows to.row (slice_index_or rows to.row [] ++ more)

    put_longer : IsLonger rows grown
    put_longer = longer_put rows to.row more there

    row_is : slice_index_or grown to.row [] ≡ front_of old f ++ more
    row_is = get_or-set_same rows to.row (slice_index_or rows to.row [] ++ more) [] there ∙ ap (λ l. l ++ more) ends

    pub put_is : front_of grown to ≡ front_of old f ++ more
    put_is = ap (take to.count) row_is
        ∙ ap (λ n. take n (front_of old f ++ more)) (counted ∙ sym (length-append (front_of old f) more))
        ∙ take-length (front_of old f ++ more)

    pub put_front : IsFront grown to
    put_front = record {
      row = omega (arith, there, length-set rows to.row (slice_index_or rows to.row [] ++ more));
      count = omega (arith, counted, ap length row_is, length-append (front_of old f) more);
    }

    pub put_fronts : AreFronts grown (set fs j to)
    put_fronts = fronts_set grown fs j to
        (are_fronts rows grown put_longer fs (are_fronts old rows longer fs are)) put_front

    pub put_view : fronts_of grown (set fs j to) ≡ set (fronts_of old fs) j (front_of old f ++ more)
    put_view = map-set (front_of grown) fs j to
        ∙ ap (λ l. set (fronts_of grown fs) j l) put_is
        ∙ ap (λ ls. set ls j (front_of old f ++ more))
        (fronts_stay rows grown put_longer fs (are_fronts old rows longer fs are) ∙ fronts_stay old rows longer fs are)

-- a list that has a number is there
pub has_within : (rows : List (List ℕ)) (i n : ℕ) → Has (slice_index_or rows i []) n → i < length rows
has_within [] i n h = absurd h
has_within (r ∷ rows) zero n h = omega arith
has_within (r ∷ rows) (suc i) n h = let k = has_within rows i n h in omega (arith, k)

-- what the first elements of a list have
has_first : (k : ℕ) (ns : List ℕ) (n : ℕ) → Has (take k ns) n → Has ns n
has_first zero ns n h = absurd h
has_first (suc k) [] n h = absurd h
has_first (suc k) (m ∷ ns) n h = elim h [ inl e ↦ inl e | inr later ↦ inr (has_first k ns n later) ]

-- each number of a front stands in a row
pub front_in_row : (rows : List (List ℕ)) (fs : List Front) (j n : ℕ) → Has (slice_index_or (fronts_of rows fs) j []) n
    → (r : ℕ) × Has (slice_index_or rows r []) n
front_in_row rows [] j n h = absurd h
front_in_row rows (f ∷ fs) zero n h = (f.row, has_first f.count (slice_index_or rows f.row []) n h)
front_in_row rows (f ∷ fs) (suc j) n h = front_in_row rows fs j n h
