-- The maximal locks among those with some numbers, in canonical order.
use Rattle.std.proofs.Common.{◌≡◌, ◌↔◌, ◌⊎◌, inl, inr, ℕ, ◌+◌, ◌<◌, List, [], ◌∷◌, ◌++◌, Some, Bool, true, false, not}
use Rattle.std.proofs.Common.{map, take, length, get_or, sym, ap, ◌∙◌, subst, true≢false}
use Rattle.std.proofs.{lemmas.List.{append-nil, map-append}, lemmas.List.Elements.{filter_more}}
use Rattle.std.proofs.{lemmas.Option.{slice_get_within, get_or_from_slice_get}, lemmas.Bool.{and_parts, and_from}}
use Rattle.std.specs.{Prelude.{slice_get, slice_index_or, cond}, List.{filter}}
use Rattle.sect_lemmas.specs.Lists.{Has}
use Rattle.sect_lemmas.proofs.{Membership.{Has-unmap}, Listing.{Has-map}}
use Rattle.sect_names.specs.{declared.lock.Lock.{Lock}, Schemes.{SchemeView}, Locks.{Covers, IsOutdone}}
use Rattle.sect_names.specs.Order.{AreInOrder, AreMaximal}
use Rattle.sect_names.proofs.shared.{Covering.{covers_antisym, covers_trans}, Maximals.{covered}, Telling.{lock_cases}}
use Rattle.sect_infer.specs.Numbers.{has_number, with_numbers}
use Rattle.sect_infer.specs.Numberings.{NumberingView, HasLock, AreNumbers, IsNumbering, is_under, lock_at, IsOrderOf}
use Rattle.sect_infer.specs.steps.Listing.{IsOrder, is_kept, listed}
use Rattle.sect_infer.proofs.{Apart.{Has-filter, with_all_has}, Undone.{told_by}}
use Rattle.sect_infer.proofs.shared.{Apart.{number_tells}, Undone.{under_is, is_under_is}, Bounding.{named}}
use Rattle.sect_names.specs.declared.lock.Lock.TheVariants as lock

-- the maximal locks with one property are those with another, where each that has the first has the second, and covers
-- of the second have the first
pub maximal_of : (s : SchemeView) (Given P : Lock → Type 0) (kept : List Lock) → ((l : Lock) → Given l → P l)
    → ((l : Lock) → P l → (big : Lock) × Given big × Covers s big l) → AreMaximal s Given kept → AreMaximal s P kept
maximal_of s Given P kept sound complete max = record {
  kept_are = λ l. (
    λ h. (let k = (max.kept_are l).0 h in (
      sound l k.0,
      λ out.
          let over = complete out.0 out.1 in
          elim (lock_cases over.0 l) [
            | inl e ↦ out.3 (covers_antisym s out.0 l out.2 (subst (λ o. Covers s o out.0) e over.2))
            | inr n ↦ k.1 (over.0, over.1, covers_trans s over.0 out.0 l over.2 out.2, n)
          ],
    )),
    λ h. (let over = complete l h.0 in
        elim (lock_cases over.0 l) [
          | inl e ↦ (max.kept_are l).1 (subst Given e over.1, λ out. h.1 (out.0, sound out.0 out.1, out.2, out.3))
          | inr n ↦ absurd (h.1 (over.0, sound over.0 over.1, over.2, n))
        ]),
  );
  covering = λ l p.
      let over = complete l p in
      let top = max.covering over.0 over.1 in
      (top.0, top.1, covers_trans s top.0 over.0 l top.2 over.2);
  in_order = max.in_order;
}

-- a part of a list in order is in order
order_filter : (f : ℕ → Lock) (p : ℕ → Bool) (xs : List ℕ) → AreInOrder (map f xs) → AreInOrder (map f (filter p xs))
order_filter f p [] o = tt
order_filter f p (x ∷ xs) o = go (p x) (order_filter f p xs o.1)
  where
    go : (b : Bool) → AreInOrder (map f (filter p xs)) → AreInOrder (map f (cond b (x ∷ filter p xs) (filter p xs)))
    go true rest = (
      λ m h. (let n = Has-unmap f (filter p xs) m h in
          o.0 m (subst (Has (map f xs)) n.2 (Has-map f xs n.0 ((Has-filter p xs n.0).0 n.1).0))),
      rest,
    )
    go false rest = rest

-- a test and its negation
negated : (b : Bool) → not b ≡ true → b ≡ true → ⊥
negated true e f = true≢false (sym e)
negated false e f = true≢false (sym f)

module _ (s : SchemeView) (t : NumberingView) (is : IsNumbering s t) (lists : List (List ℕ)) (order : List ℕ)
    (o : IsOrder t.keys lists order) (ns : List ℕ) (there : AreNumbers t.keys ns)
    (from : (n : ℕ) → Has ns n → (j : ℕ) × Has (slice_index_or lists j []) n) where
  -- the numbers, once each
  abbrev once : List ℕ
  once = with_numbers [] ns

  -- they are the same numbers, of the same locks
  same_has : (n : ℕ) → Has once n ↔ Has ns n
  same_has n = (
    λ h. elim ((with_all_has [] ns n).0 h) [ inl none ↦ absurd none | inr k ↦ k ],
    λ h. (with_all_has [] ns n).1 (inr h),
  )

  same_lock : (l : Lock) → HasLock t.keys once l ↔ HasLock t.keys ns l
  same_lock l = (λ h. (h.0, (same_has h.0).0 h.1, h.2), λ h. (h.0, (same_has h.0).1 h.1, h.2))

  -- a lock is listed where none of the others outdoes it
  list_is : (l : Lock) → Has (listed t order ns) l ↔ (HasLock t.keys once l × (IsOutdone s (HasLock t.keys once) l → ⊥))
  list_is l = (
    λ h. (let n = Has-unmap (lock_at t.keys) (filter (is_kept t.above once) order) l h in
        let kept = (Has-filter (is_kept t.above once) order n.0).0 n.1 in
        let tests = and_parts (has_number once n.0) (not (is_under t.above once n.0)) kept.1 in
        let has = (number_tells once n.0).0 tests.0 in
        let at : slice_get t.keys n.0 ≡ Some l = named t.keys n.0 (there n.0 ((same_has n.0).0 has))
        ∙ ap (λ x. Some x) n.2 in
        ((n.0, has, at), λ out. negated (is_under t.above once n.0) tests.1 (is_under_is s t is once n.0 l at out))),
    λ h. (let n = h.0 in
        let within = slice_get_within t.keys n.0 l n.2 in
        let list = from n.0 ((same_has n.0).0 n.1) in
        let free : not (is_under t.above once n.0) ≡ true =
        elim (told_by (is_under t.above once n.0))
        [ inl under ↦ absurd (h.1 (under_is s t is once n.0 l n.2 under)) | inr f ↦ f ] in
        let kept = (Has-filter (is_kept t.above once) order n.0).1 (
          o.all list.0 n.0 list.1 within,
          and_from (has_number once n.0) (not (is_under t.above once n.0))
              ((number_tells once n.0).1 n.1) free,
        ) in
        subst (Has (listed t order ns)) (get_or_from_slice_get t.keys n.0 l lock.All n.2)
        (Has-map (lock_at t.keys) (filter (is_kept t.above once) order) n.0 kept)),
  )

  -- a lock is listed or outdone
  list_told : (l : Lock) → HasLock t.keys once l → Has (listed t order ns) l ⊎ IsOutdone s (HasLock t.keys once) l
  list_told l h = elim (told_by (is_under t.above once h.0)) [
    | inl under ↦ inr (under_is s t is once h.0 l h.2 under)
    | inr free ↦ inl ((list_is l).1
        (h, λ out. negated (is_under t.above once h.0) free (is_under_is s t is once h.0 l h.2 out)))
  ]

  -- the listed locks are the maximal ones of those with the numbers
  pub listed_maximal : AreMaximal s (HasLock t.keys ns) (listed t order ns)
  listed_maximal = record {
    kept_are = λ l. (
      λ h. (let k = (list_is l).0 h in
          ((same_lock l).0 k.0, λ out. k.1 (out.0, (same_lock out.0).1 out.1, out.2, out.3))),
      λ h. (list_is l).1 ((same_lock l).1 h.0, λ out. h.1 (out.0, (same_lock out.0).0 out.1, out.2, out.3)),
    );
    covering = λ l h. covered s (HasLock t.keys once) (Has (listed t order ns)) list_told l ((same_lock l).1 h);
    in_order = order_filter (lock_at t.keys) (is_kept t.above once) order o.sorted;
  }

-- the next number of an order is listed, or not
module _ (keys : List Lock) (p : ℕ → Bool) (order : List ℕ) (i n : ℕ) (within : i < length order)
    (is : n ≡ get_or order i n) where
  -- what is picked with one number more
  picked : filter p (take (i + 1) order) ≡ filter p (take i order) ++ cond (p n) (n ∷ []) []
  picked = filter_more p order i n within ∙ ap (λ m. filter p (take i order) ++ cond (p m) (m ∷ []) []) (sym is)

  pub list_next : (locks : List Lock) (l : Lock) → p n ≡ true → slice_get keys n ≡ Some l
      → locks ≡ map (lock_at keys) (filter p (take i order))
      → locks ++ l ∷ [] ≡ map (lock_at keys) (filter p (take (i + 1) order))
  list_next locks l on at before =
      ap (λ ls. ls ++ l ∷ []) before
      ∙ ap (λ k. map (lock_at keys) (filter p (take i order)) ++ k ∷ [])
      (sym (get_or_from_slice_get keys n l lock.All at))
      ∙ sym (map-append (lock_at keys) (filter p (take i order)) (n ∷ []))
      ∙ ap (map (lock_at keys)) (sym (picked ∙ ap (λ b. filter p (take i order) ++ cond b (n ∷ []) []) on))

  pub list_skip : (locks : List Lock) → p n ≡ false → locks ≡ map (lock_at keys) (filter p (take i order))
      → locks ≡ map (lock_at keys) (filter p (take (i + 1) order))
  list_skip locks off before = before
      ∙ ap (map (lock_at keys)) (sym
      (picked ∙ ap (λ b. filter p (take i order) ++ cond b (n ∷ []) []) off ∙ append-nil (filter p (take i order))))

-- the numbers of lists, in the order of their locks
pub order_of_all : (keys : List Lock) (lists : List (List ℕ)) (given numbers order : List ℕ)
    → ((j n : ℕ) → Has (slice_index_or lists j []) n → Has given n)
    → ((n : ℕ) → Has numbers n ↔ ((n < length keys) × Has given n))
    → IsOrderOf keys numbers order → IsOrder keys lists order
order_of_all keys lists given numbers order each below of = record {
  sorted = of.sorted;
  numbers = λ n h. ((below n).0 (of.same n h)).0;
  all = λ j n h within. of.all n ((below n).1 (within, each j n h));
}
