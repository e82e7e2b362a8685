-- Lists of values that are made one by one.
use Rattle.std.proofs.Common.{◌≡◌, ℕ, ◌+◌, List, [], ◌∷◌, ◌++◌, map, take, drop, Some, sym, ap, ◌∙◌, ◌≤◌, length}
use Rattle.std.proofs.Common.{length-append, refl, subst, arith, rules, inl, inr, Bool, true, false, if◌then◌else◌}
use Rattle.std.proofs.lemmas.List.{map-append, map-id, take_all, take_more, append_assoc, append-nil, drop_all}
use Rattle.std.proofs.{lemmas.Grind.{flat_map-append}, lemmas.List.Elements.{filter-append}}
use Rattle.std.proofs.lemmas.List.FromFn.{map-range_with_len_more}
use Rattle.std.proofs.lemmas.Option.{slice_get_within, get_or_from_slice_get}
use Rattle.std.specs.{Prelude.{slice_get, Vec}, declared.alloc.Global.{Global}, List.{range_with_len, flat_map, filter}}
use Rattle.sect_lemmas.proofs.{Elements.{drop_next}, Places.{pushed_at}}
use Rattle.serde_json.specs.{Data.{Data, null, boolean}, View.{view}}
use Rattle.serde_json.specs.declared.value.Value.{Value, Null, Array, the_lemmas}
use Rattle.serde_json.proofs.Views.{view-Array}
use Rattle.sect_json.specs.Values.{count, list, by_place, AreTold}
use Rattle.serde_json.specs.declared.value.Value as value

-- values without parts
pub view_null : view Null ≡ null
view_null = search (rules, the_lemmas)

pub view_flag : (b : Bool) → view (value.Bool b) ≡ boolean b
view_flag b = search (rules, the_lemmas)

-- one value more
pub view_more : (values more : List Value) (v : Value) (d : Data) → more ≡ values ++ v ∷ [] → view v ≡ d
    → map view more ≡ map view values ++ d ∷ []
view_more values more v d pushed is =
    ap (map view) pushed ∙ (map-append view values (v ∷ []) ∙ ap (λ e. map view values ++ e ∷ []) is)

module _ {A : Type 0} (xs : List A) (n : ℕ) (x : A) (at : slice_get xs n ≡ Some x) where
  -- the values of the first elements, and that of the next
  pub map_more : (of : A → Data) (values more : List Value) (v : Value) → map view values ≡ map of (take n xs)
      → more ≡ values ++ v ∷ [] → view v ≡ of x → map view more ≡ map of (take (n + 1) xs)
  map_more of values more v had pushed is =
      let taken : take (n + 1) xs ≡ take n xs ++ x ∷ [] = take_more xs n x (slice_get_within xs n x at)
      ∙ ap (λ y. take n xs ++ y ∷ []) (get_or_from_slice_get xs n x x at) in
      view_more values more v (of x) pushed is
      ∙ (ap (λ ds. ds ++ of x ∷ []) had ∙ (sym (map-append of (take n xs) (x ∷ [])) ∙ ap (map of) (sym taken)))

  -- the value at a place, and then those behind it
  pub rest_next : (of : ℕ → A → Data) → by_place of n (drop n xs) ≡ of n x ∷ by_place of (n + 1) (drop (n + 1) xs)
  rest_next of =
      ap (by_place of n) (drop_next xs n x (slice_get_within xs n x at) (sym (get_or_from_slice_get xs n x x at)))

  -- the values so far and those that are left, where one more is made
  pub by_place_more : (of : ℕ → A → Data) (values more : List Value) (v : Value) (all : List Data)
      → map view values ++ by_place of n (drop n xs) ≡ all → more ≡ values ++ v ∷ [] → view v ≡ of n x
      → map view more ++ by_place of (n + 1) (drop (n + 1) xs) ≡ all
  by_place_more of values more v all had pushed is =
      let rest = by_place of (n + 1) (drop (n + 1) xs) in
      ap (λ ds. ds ++ rest) (view_more values more v (of n x) pushed is)
      ∙ (append_assoc (map view values) (of n x ∷ []) rest
      ∙ (ap (λ ds. map view values ++ ds) (sym (rest_next of)) ∙ had))

-- the values of the first elements are those of all, where there are no more
pub map_all : {A : Type 0} (of : A → Data) (xs : List A) (n : ℕ) (values : Vec Value Global) → length xs ≤ n
    → map view values.items ≡ map of (take n xs) → view (Array values) ≡ list (map of xs)
map_all of xs n values past had = view-Array values ∙ ap list (had ∙ ap (map of) (take_all n xs past))

module _ (of : ℕ → Data) where
  -- the values of the first numbers, and that of the next
  pub range_more : (n : ℕ) (values more : List Value) (v : Value) → map view values ≡ map of (range_with_len 0 n)
      → more ≡ values ++ v ∷ [] → view v ≡ of n → map view more ≡ map of (range_with_len 0 (n + 1))
  range_more n values more v had pushed is =
      view_more values more v (of n) pushed is
      ∙ (ap (λ ds. ds ++ of n ∷ []) had ∙ sym (map-range_with_len_more of 0 n n (omega arith)))

  -- the values of the first numbers are those of all, where there are no more
  pub range_all : (n count : ℕ) (values : Vec Value Global) → n ≡ count
      → map view values.items ≡ map of (range_with_len 0 n)
      → view (Array values) ≡ list (map of (range_with_len 0 count))
  range_all n count values all had =
      view-Array values ∙ ap list (had ∙ ap (λ m. map of (range_with_len 0 m)) all)

-- the next number
range_next : (n : ℕ) → range_with_len 0 (n + 1) ≡ range_with_len 0 n ++ n ∷ []
range_next n =
    sym (map-id (range_with_len 0 (n + 1))) ∙ (map-range_with_len_more (λ k. k) 0 n n (omega arith)
    ∙ ap (λ ks. ks ++ n ∷ []) (map-id (range_with_len 0 n)))

-- what the first numbers give, and what the next gives
pub flat_range_more : {A : Type 0} (of : ℕ → List A) (n : ℕ)
    → flat_map of (range_with_len 0 (n + 1)) ≡ flat_map of (range_with_len 0 n) ++ of n
flat_range_more of n =
    ap (flat_map of) (range_next n) ∙ (flat_map-append of (range_with_len 0 n) (n ∷ [])
    ∙ ap (λ xs. flat_map of (range_with_len 0 n) ++ xs) (append-nil (of n)))

-- the next number, if it passes the test
pub filter_range_in : (p : ℕ → Bool) (n : ℕ) → p n ≡ true
    → filter p (range_with_len 0 (n + 1)) ≡ filter p (range_with_len 0 n) ++ n ∷ []
filter_range_in p n e =
    ap (filter p) (range_next n) ∙ (filter-append p (range_with_len 0 n) (n ∷ [])
    ∙ ap (λ xs. filter p (range_with_len 0 n) ++ xs) (ap (λ b. if b then n ∷ [] else []) e))

pub filter_range_out : (p : ℕ → Bool) (n : ℕ) → p n ≡ false
    → filter p (range_with_len 0 (n + 1)) ≡ filter p (range_with_len 0 n)
filter_range_out p n e =
    ap (filter p) (range_next n) ∙ (filter-append p (range_with_len 0 n) (n ∷ [])
    ∙ (ap (λ xs. filter p (range_with_len 0 n) ++ xs) (ap (λ b. if b then n ∷ [] else []) e)
    ∙ append-nil (filter p (range_with_len 0 n))))

module _ (p : ℕ → Bool) (n : ℕ) (values : List Value)
    (had : map view values ≡ map count (filter p (range_with_len 0 n))) where
  -- the numbers that pass, and the next, if it does
  pub counted_in : (more : List Value) (v : Value) → p n ≡ true → more ≡ values ++ v ∷ [] → view v ≡ count n
      → map view more ≡ map count (filter p (range_with_len 0 (n + 1)))
  counted_in more v passes pushed is =
      view_more values more v (count n) pushed is
      ∙ (ap (λ ds. ds ++ count n ∷ []) had ∙ (sym (map-append count (filter p (range_with_len 0 n)) (n ∷ []))
      ∙ ap (map count) (sym (filter_range_in p n passes))))

  pub counted_out : p n ≡ false → map view values ≡ map count (filter p (range_with_len 0 (n + 1)))
  counted_out fails = had ∙ ap (map count) (sym (filter_range_out p n fails))

-- the values are those of all, where there are no more
pub by_place_all : {A : Type 0} (of : ℕ → A → Data) (xs : List A) (n : ℕ) (values : Vec Value Global) (all : List Data)
    → length xs ≤ n → map view values.items ++ by_place of n (drop n xs) ≡ all → view (Array values) ≡ list all
by_place_all of xs n values all past had =
    view-Array values ∙ ap list (sym (append-nil (map view values.items))
    ∙ (ap (λ ys. map view values.items ++ by_place of n ys) (sym (drop_all n xs past)) ∙ had))

-- lists behind one another, each by its number
pub lists_more : (of : ℕ → List Data) (n : ℕ) (old had more : List Data)
    → had ≡ old ++ flat_map of (range_with_len 0 n) → more ≡ had ++ of n
    → more ≡ old ++ flat_map of (range_with_len 0 (n + 1))
lists_more of n old had more e m =
    m ∙ (ap (λ xs. xs ++ of n) e ∙ (append_assoc old (flat_map of (range_with_len 0 n)) (of n)
    ∙ ap (λ xs. old ++ xs) (sym (flat_range_more of n))))

module _ (IsSo : ℕ → Data → Type 0) where
  -- no value
  pub told_none : AreTold IsSo 0 []
  told_none = record {
    many = refl;
    each = λ i value at. absurd (let w = slice_get_within [] i value at in omega (arith, w));
  }

  -- one value more, told so by the next number
  pub told_more : (n : ℕ) (values more : List Data) (v : Data) → AreTold IsSo n values → IsSo n v
      → more ≡ values ++ v ∷ [] → AreTold IsSo (n + 1) more
  told_more n values more v had next pushed = subst (AreTold IsSo (n + 1)) (sym pushed) (record {
    many = omega (arith, length-append values (v ∷ []), had.many);
    each = λ i value at. elim (pushed_at values v value i at) [
      | inl is ↦ subst (IsSo i) is.1 (subst (λ (m : ℕ). IsSo m v) (sym (is.0 ∙ had.many)) next)
      | inr before ↦ had.each i value before
    ];
  })
