-- What a store holds after a write, or after one more object.
use Rattle.std.proofs.Common.{true≢false, ◌≡◌, ◌≢◌, ℕ, suc, ◌<◌, List, [], ◌∷◌, ◌++◌, length, Option, Some, None, Bool}
use Rattle.std.proofs.Common.{true, false, ◌&&◌, refl, sym, ap, ◌∙◌, subst, arith, slice_get, if◌then◌else◌}
use Rattle.std.proofs.lemmas.Bool.{and_parts}
use Rattle.sect_types.specs.declared.meaning.store.ObjectName.{ObjectName}
use Rattle.sect_types.specs.declared.meaning.store.ObjectName.TheVariants.{Global, Made}
use Rattle.sect_types.specs.declared.meaning.store.Datum.{Datum}
use Rattle.sect_types.specs.Store.{ObjectView, StoreView, same_name, row_in, row, count, object_at, with_field, write}
use Rattle.sect_types.specs.Store.{add}
use Rattle.sect_lemmas.specs.{Lists.{changed_at}, Numbers.{same_number}}
use Rattle.sect_lemmas.proofs.{Booleans.{either_way}, Elements.{is_there, is_past, get-last, same_elements}}
use Rattle.sect_lemmas.proofs.Options.{mapped}
use Rattle.sect_lemmas.proofs.Replaced.{get-changed_at, length-changed_at, same_number-true, same_number-refl}
use Rattle.sect_lemmas.proofs.Replaced.{same_number-false}

-- the test of names says that they are equal
pub same_name-true : (n m : ObjectName) → same_name n m ≡ true → n ≡ m
same_name-true (Global g) (Global h) e = ap Global (same_number-true g h e)
same_name-true (Global g) (Made t n) e = absurd (true≢false (sym e))
same_name-true (Made t n) (Global g) e = absurd (true≢false (sym e))
same_name-true (Made t n) (Made u m) e =
    let h = and_parts (same_number t u) (same_number n m) e in
    ap (λ t. Made t n) (same_number-true t u h.0) ∙ ap (Made u) (same_number-true n m h.1)

-- it holds of each name and itself
pub same_name-refl : (n : ObjectName) → same_name n n ≡ true
same_name-refl (Global g) = same_number-refl g
same_name-refl (Made t k) = ap (λ b. b && same_number k k) (same_number-refl t) ∙ same_number-refl k

-- so of equal ones
pub same_name-eq : (n m : ObjectName) → n ≡ m → same_name n m ≡ true
same_name-eq n m e = subst (λ k. same_name n k ≡ true) e (same_name-refl n)

-- a write changes the one field of the one object
pub object_at-write : (s : StoreView) (n m : ObjectName) (f : ℕ) (d : Datum)
    → object_at (write s n f d) m ≡ if same_name n m then mapped (with_field f d) (object_at s m) else object_at s m
object_at-write s (Global g) (Global h) f d = get-changed_at g h (with_field f d) s.globals
object_at-write s (Global g) (Made t n) f d = refl
object_at-write s (Made t n) (Global g) f d = refl
object_at-write s (Made t n) (Made u m) f d =
    ap (λ r. slice_get (row_in r) m) (get-changed_at t u (changed_at n (with_field f d)) s.made)
    ∙ in_row (same_number t u) (slice_get s.made u) where
      in_row : (b : Bool) (r : Option (List ObjectView))
          → slice_get (row_in (if b then mapped (changed_at n (with_field f d)) r else r)) m
          ≡ if b && same_number n m then mapped (with_field f d) (slice_get (row_in r) m) else slice_get (row_in r) m
      in_row true None = either_way (same_number n m) None
      in_row true (Some os) = get-changed_at n m (with_field f d) os
      in_row false r = refl

-- one object more: it has the next number among those of its thread
pub object_at-add : (s : StoreView) (t : ℕ) (o : ObjectView) (m : ObjectName) → t < length s.made
    → object_at (add s t o) m ≡ if same_name (Made t (count s t)) m then Some o else object_at s m
object_at-add s t o (Global h) le = refl
object_at-add s t o (Made u j) le = ap (λ r. slice_get (row_in r) j) (get-changed_at t u (λ row. row ++ o ∷ []) s.made)
    ∙ at (same_number t u) refl where
      at : (b : Bool) → same_number t u ≡ b
          → slice_get (row_in (if b then mapped (λ row. row ++ o ∷ []) (slice_get s.made u) else slice_get s.made u)) j
          ≡ if b && same_number (count s t) j then Some o else slice_get (row s u) j
      at true is = there (slice_get s.made t) refl where
        there : (r : Option (List ObjectView)) → slice_get s.made t ≡ r
            → slice_get (row_in (mapped (λ row. row ++ o ∷ []) (slice_get s.made u))) j
            ≡ if same_number (count s t) j then Some o else slice_get (row s u) j
        there None e = absurd (is_there s.made t le e)
        there (Some os) e =
            let here : slice_get s.made u ≡ Some os = ap (slice_get s.made) (sym (same_number-true t u is)) ∙ e in
            ap (λ r. slice_get (row_in (mapped (λ row. row ++ o ∷ []) r)) j) here ∙ get-last os o j
            ∙ ap (λ r. if same_number (length (row_in r)) j then Some o else slice_get os j) (sym e)
            ∙ ap (λ r. if same_number (count s t) j then Some o else slice_get (row_in r) j) (sym here)
      at false is = refl

-- before that there is no object of this name
pub next_is_free : (s : StoreView) (t : ℕ) → object_at s (Made t (count s t)) ≡ None
next_is_free s t = is_past (row s t)

-- its thread has made one more
pub count-add_own : (s : StoreView) (t : ℕ) (o : ObjectView) → t < length s.made → count (add s t o) t ≡ suc (count s t)
count-add_own s t o le =
    ap (λ r. length (row_in r)) (get-changed_at t t (λ row. row ++ o ∷ []) s.made
    ∙ ap (λ b. if b then mapped (λ row. row ++ o ∷ []) (slice_get s.made t) else slice_get s.made t)
    (same_number-refl t))
    ∙ there (slice_get s.made t) refl where
      longer : (os : List ObjectView) → length (os ++ o ∷ []) ≡ suc (length os)
      longer [] = refl
      longer (x ∷ os) = ap suc (longer os)

      there : (r : Option (List ObjectView)) → slice_get s.made t ≡ r
          → length (row_in (mapped (λ row. row ++ o ∷ []) (slice_get s.made t))) ≡ suc (count s t)
      there None e = absurd (is_there s.made t le e)
      there (Some os) e =
          ap (λ r. length (row_in (mapped (λ row. row ++ o ∷ []) r))) e ∙ longer os
          ∙ ap (λ r. suc (length (row_in r))) (sym e)

-- other threads have not
pub count-add_other : (s : StoreView) (t u : ℕ) (o : ObjectView) → t ≢ u → count (add s t o) u ≡ count s u
count-add_other s t u o other =
    ap (λ r. length (row_in r)) (get-changed_at t u (λ row. row ++ o ∷ []) s.made
    ∙ ap (λ b. if b then mapped (λ row. row ++ o ∷ []) (slice_get s.made u) else slice_get s.made u)
    (same_number-false t u other))

-- a write makes nothing
pub count-write : (s : StoreView) (n : ObjectName) (f : ℕ) (d : Datum) (t : ℕ) → count (write s n f d) t ≡ count s t
count-write s (Global g) f d t = refl
count-write s (Made u n) f d t =
    ap (λ r. length (row_in r)) (get-changed_at u t (changed_at n (with_field f d)) s.made)
    ∙ in_row (same_number u t) (slice_get s.made t) where
      in_row : (b : Bool) (r : Option (List ObjectView))
          → length (row_in (if b then mapped (changed_at n (with_field f d)) r else r)) ≡ length (row_in r)
      in_row true None = refl
      in_row true (Some os) = length-changed_at n (with_field f d) os
      in_row false r = refl

-- and keeps the rows
pub rows-write : (s : StoreView) (n : ObjectName) (f : ℕ) (d : Datum) → length (write s n f d).made ≡ length s.made
rows-write s (Global g) f d = refl
rows-write s (Made u n) f d = length-changed_at u (changed_at n (with_field f d)) s.made

-- so does one object more
pub rows-add : (s : StoreView) (t : ℕ) (o : ObjectView) → length (add s t o).made ≡ length s.made
rows-add s t o = length-changed_at t (λ row. row ++ o ∷ []) s.made

-- stores that agree at each name, and have as many rows, are one
pub same_store : (s r : StoreView) → ((o : ObjectName) → object_at s o ≡ object_at r o) → length s.made ≡ length r.made
    → s ≡ r
same_store s r h e = of_one_kind (same_elements s.globals r.globals (λ g. h (Global g)))
    (rows s.made r.made e (λ t n. h (Made t n))) where
      of_one_kind : s.globals ≡ r.globals → s.made ≡ r.made → s ≡ r
      of_one_kind p q = λ i. record { globals = p i; made = q i }

      rows : (xs ys : List (List ObjectView)) → length xs ≡ length ys
          → ((t n : ℕ) → slice_get (row_in (slice_get xs t)) n ≡ slice_get (row_in (slice_get ys t)) n) → xs ≡ ys
      rows [] [] e h = refl
      rows [] (y ∷ ys) e h = absurd (omega (arith, e))
      rows (x ∷ xs) [] e h = absurd (omega (arith, e))
      rows (x ∷ xs) (y ∷ ys) e h =
          let p : x ≡ y = same_elements x y (h 0) in
          let q : xs ≡ ys = rows xs ys (omega (arith, e)) (λ t. h (suc t)) in
          cc
