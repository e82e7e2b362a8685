-- Lists of values that are made one by one.
use Rattle.std.proofs.Common.{◌≡◌, ℕ, ◌+◌, ◌<◌, ◌≤◌, List, [], ◌∷◌, ◌++◌, length, map, take, get_or, sym, ap, ◌∙◌}
use Rattle.std.proofs.{Common.{arith, append-nil, append_assoc}, lemmas.Grind.{flat_map-append}}
use Rattle.std.proofs.lemmas.List.{map-append, map-id, take_all, take_more}
use Rattle.std.proofs.lemmas.List.FromFn.{map-range_with_len_more}
use Rattle.std.specs.{Prelude.{Vec}, declared.alloc.Global.{Global}, List.{flat_map, range_with_len}}
use Rattle.serde_json.specs.{Data.{Data}, View.{view}, declared.value.Value.{Value, Array}}
use Rattle.serde_json.proofs.Views.{view-Array}
use Rattle.sect_editor.specs.Ranges.{list}

module _ {A : Type 0} (of : A → Data) (xs : List A) (n : ℕ) where
  -- the value of the next element
  pub values_more : (d : A) (values more : List Value) (v : Value) → n < length xs
      → map view values ≡ map of (take n xs)
      → more ≡ values ++ v ∷ [] → view v ≡ of (get_or xs n d) → map view more ≡ map of (take (n + 1) xs)
  values_more d values more v within had pushed is =
      ap (map view) pushed ∙ map-append view values (v ∷ []) ∙ ap (λ ds. ds ++ view v ∷ []) had
      ∙ ap (λ e. map of (take n xs) ++ e ∷ []) is ∙ sym (map-append of (take n xs) (get_or xs n d ∷ []))
      ∙ sym (ap (map of) (take_more xs n d within))

  -- those of all elements
  pub values_all : (values : Vec Value Global) → length xs ≤ n → map view values.items ≡ map of (take n xs)
      → view (Array values) ≡ list (map of xs)
  values_all values past had = view-Array values ∙ ap list (had ∙ ap (map of) (take_all n xs past))

-- one value more
pub value_more : (values more : List Value) (v : Value) (d : Data) → more ≡ values ++ v ∷ [] → view v ≡ d
    → map view more ≡ map view values ++ d ∷ []
value_more values more v d pushed is =
    ap (map view) pushed ∙ map-append view values (v ∷ []) ∙ ap (λ e. map view values ++ e ∷ []) is

-- one number more
pub counting : (n : ℕ) → range_with_len 0 (n + 1) ≡ range_with_len 0 n ++ n ∷ []
counting n =
    sym (map-id (range_with_len 0 (n + 1))) ∙ map-range_with_len_more (λ k. k) 0 n n (omega arith)
    ∙ ap (λ ks. ks ++ n ∷ []) (map-id (range_with_len 0 n))

module _ {A : Type 0} (of : ℕ → List A) where
  -- what is listed of the first numbers, behind others, and that of the next
  pub numbers_behind : (n : ℕ) (old had more : List A) → had ≡ old ++ flat_map of (range_with_len 0 n)
      → more ≡ had ++ of n → more ≡ old ++ flat_map of (range_with_len 0 (n + 1))
  numbers_behind n old had more e added =
      added ∙ ap (λ ds. ds ++ of n) e ∙ append_assoc old (flat_map of (range_with_len 0 n)) (of n)
      ∙ ap (λ ds. old ++ ds) (sym (ap (flat_map of) (counting n) ∙ flat_map-append of (range_with_len 0 n) (n ∷ [])
      ∙ ap (λ ds. flat_map of (range_with_len 0 n) ++ ds) (append-nil (of n))))

module _ (of : ℕ → List Data) where
  -- the values of the first numbers, and those of the next
  pub numbers_more : (n : ℕ) (values more : List Value) → map view values ≡ flat_map of (range_with_len 0 n)
      → map view more ≡ map view values ++ of n → map view more ≡ flat_map of (range_with_len 0 (n + 1))
  numbers_more n values more had added =
      added ∙ ap (λ ds. ds ++ of n) had
      ∙ sym (ap (flat_map of) (counting n) ∙ flat_map-append of (range_with_len 0 n) (n ∷ [])
      ∙ ap (λ ds. flat_map of (range_with_len 0 n) ++ ds) (append-nil (of n)))

  -- those of all numbers
  pub numbers_all : (n count : ℕ) (values : Vec Value Global) → n ≡ count
      → map view values.items ≡ flat_map of (range_with_len 0 n)
      → view (Array values) ≡ list (flat_map of (range_with_len 0 count))
  numbers_all n count values all had =
      view-Array values ∙ ap list (had ∙ ap (λ m. flat_map of (range_with_len 0 m)) all)

-- one element more, behind those that had come
pub one_more : {A : Type 0} (old come mid new : List A) (x : A) → mid ≡ old ++ come → new ≡ mid ++ x ∷ []
    → new ≡ old ++ (come ++ x ∷ [])
one_more old come mid new x had is = is ∙ ap (λ xs. xs ++ x ∷ []) had ∙ append_assoc old come (x ∷ [])

-- three lists, one after another
pub three_more : {A : Type 0} (old xs ys zs first second third : List A) → first ≡ old ++ xs → second ≡ first ++ ys
    → third ≡ second ++ zs → third ≡ old ++ (xs ++ ys ++ zs)
three_more old xs ys zs first second third a b c =
    c ∙ ap (λ l. l ++ zs) (b ∙ ap (λ l. l ++ ys) a ∙ append_assoc old xs ys) ∙ append_assoc old (xs ++ ys) zs

-- what stands between two lines is a piece by itself
pub fence : {A : Type 0} (front gap first lines last : List A)
    → front ++ (gap ++ first) ++ lines ++ last ≡ front ++ gap ++ (first ++ lines ++ last)
fence front gap first lines last =
    ap (λ xs. xs ++ last) (ap (λ xs. xs ++ lines) (sym (append_assoc front gap first))
    ∙ append_assoc (front ++ gap) first lines) ∙ append_assoc (front ++ gap) (first ++ lines) last

-- a piece more, behind those that had come
pub piece_more : {A : Type 0} (old come mid new piece : List A) → mid ≡ old ++ come → new ≡ mid ++ piece
    → new ≡ old ++ (come ++ piece)
piece_more old come mid new piece had is = is ∙ ap (λ xs. xs ++ piece) had ∙ append_assoc old come piece
