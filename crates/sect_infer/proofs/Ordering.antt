-- Numbers in the canonical order of their locks.
use Rattle.std.proofs.Common.{◌≡◌, ℕ, ◌+◌, ◌<◌, List, [], ◌∷◌, Some, false, map, length, get_or, sym, ap, refl, ◌∙◌}
use Rattle.std.proofs.Common.{subst, arith, true≢false, nat_eq, Less, Equal, Greater, inl, inr}
use Rattle.std.proofs.{lemmas.Cmp.{nat_eq_equiv}, lemmas.List.{length-map}}
use Rattle.std.proofs.lemmas.List.Sorted.{IsPermutation-map, IsPermutation-sym, All-permutation}
use Rattle.std.proofs.lemmas.Map.Keys.{apart_from_distinct, IsDistinct-IsPermutation, sorted_from_all_adjacent}
use Rattle.std.proofs.lemmas.Option.{get_or_from_slice_get, slice_get_within, slice_get-map}
use Rattle.std.specs.{Prelude.{slice_get}, Option.{option_map}, declared.cmp.Ordering.{Ordering}}
use Rattle.std.specs.{Ordering.{ordering_then, ordering_reverse, is_lt, nat_cmp}, Cmp.{unsigned_Decides}}
use Rattle.std.specs.List.Sorted.{IsPermutation, IsSorted}
use Rattle.sect_lemmas.specs.Lists.{Has}
use Rattle.sect_lemmas.proofs.{Membership.{Has-get_or, Has-slice_get}, Places.{Has-index, at_of}}
use Rattle.sect_names.specs.{declared.lock.Lock.{Lock}, contracts.lock.LockOrd.TheImpl.{ghosts as the_lock_order}}
use Rattle.sect_names.specs.{contracts.lock.LockOrd.TheImpl.Laws.{total-law as the_lock_total}, Order.{AreInOrder}}
use Rattle.sect_names.proofs.shared.Ranking.{lock_level, in_order}
use Rattle.sect_infer.specs.{Numbers.{AreApart}, Numberings.{lock_at, IsOrderOf}}
use Rattle.sect_infer.specs.declared.order.NumberedLock.{NumberedLock}
use Rattle.sect_infer.specs.contracts.order.NumberedLockOrd.TheImpl.{ghosts as the_numbered_order}
use Rattle.sect_infer.proofs.shared.Apart.{distinct, apart_one}
use Rattle.sect_names.specs.declared.lock.Lock.TheVariants as lock

-- a list in another order has the same
pub permuted_has : {X : Type 0} (xs ys : List X) → IsPermutation xs ys → (x : X) → Has ys x → Has xs x
permuted_has xs ys p x h =
    let at = Has-index ys x h in
    let all = All-permutation (Has xs) xs ys p (λ k d within. Has-get_or xs k d within) in
    subst (Has xs) (get_or_from_slice_get ys at.0 x x at.1) (all at.0 x (slice_get_within ys at.0 x at.1))

abbrev pub number : NumberedLock → ℕ
number x = x.number

abbrev pub held : NumberedLock → Lock
held x = x.lock.now

-- an element of a list, in words of a list that is made of it
mapped_at : {X Y : Type 0} (f : X → Y) (xs : List X) (i : ℕ) (x : X) (d : Y) → slice_get xs i ≡ Some x
    → get_or (map f xs) i d ≡ f x
mapped_at f xs i x d at = get_or_from_slice_get (map f xs) i (f x) d (slice_get-map f xs i ∙ ap (option_map f) at)

module _ (keys : List Lock) where
  -- the locks of the numbers are those that are held
  named_all : (xs : List NumberedLock) → ((x : NumberedLock) → Has xs x → slice_get keys x.number ≡ Some x.lock.now)
      → map (lock_at keys) (map number xs) ≡ map held xs
  named_all [] told = refl
  named_all (x ∷ xs) told =
      ap (λ l. l ∷ map (lock_at keys) (map number xs))
      (get_or_from_slice_get keys x.number x.lock.now lock.All (told x (inl refl)))
      ∙ ap (λ ls. x.lock.now ∷ ls) (named_all xs (λ y h. told y (inr h)))

  module _ (apart : AreApart keys) (numbers : List ℕ) (once : AreApart numbers) (old locks : List NumberedLock)
      (same : map number old ≡ numbers)
      (told : (x : NumberedLock) → Has old x → slice_get keys x.number ≡ Some x.lock.now)
      (moved : IsPermutation old locks) (sorted : IsSorted the_numbered_order.cmp locks) where
    abbrev pub order : List ℕ
    order = map number locks

    permuted : IsPermutation numbers order
    permuted = subst (λ ns. IsPermutation ns order) same (IsPermutation-map number old locks moved)

    still : (x : NumberedLock) → Has locks x → slice_get keys x.number ≡ Some x.lock.now
    still x h = told x (permuted_has old locks moved x h)

    -- numbers that stand beside each other differ
    unlike : (k : ℕ) → k + 1 < length order → nat_eq (get_or order k 0) (get_or order (k + 1) 0) ≡ false
    unlike k within = apart_from_distinct nat_eq order k (k + 1) 0
        (IsDistinct-IsPermutation nat_eq nat_eq_equiv.symm numbers order permuted
        (distinct nat_eq_equiv unsigned_Decides numbers once)) (omega arith) within

    -- so of locks that stand beside each other the first is before the second
    beside : (k : ℕ) (x y : NumberedLock) → slice_get locks k ≡ Some x → slice_get locks (k + 1) ≡ Some y
        → the_lock_order.cmp x.lock.now y.lock.now ≡ Less
    beside k x y at_x at_y = go (the_lock_order.cmp y.lock.now x.lock.now) refl tested
      where
        within : k + 1 < length locks
        within = slice_get_within locks (k + 1) y at_y

        tested : is_lt (the_numbered_order.cmp y x) ≡ false
        tested = ap (λ z. is_lt (the_numbered_order.cmp z x)) (sym (get_or_from_slice_get locks (k + 1) y x at_y))
            ∙ ap (λ z. is_lt (the_numbered_order.cmp (get_or locks (k + 1) x) z))
            (sym (get_or_from_slice_get locks k x x at_x)) ∙ sorted k x (omega arith) within

        go : (o : Ordering) → the_lock_order.cmp y.lock.now x.lock.now ≡ o
            → is_lt (ordering_then o (nat_cmp y.number x.number)) ≡ false
            → the_lock_order.cmp x.lock.now y.lock.now ≡ Less
        go Less e off = absurd (true≢false off)
        go Equal e off =
            let one = apart_one keys y.number x.number x.lock.now apart
            (still y (Has-slice_get locks (k + 1) y at_y) ∙ ap (λ l. Some l) (lock_level y.lock.now x.lock.now e))
            (still x (Has-slice_get locks k x at_x)) in
            let differ : nat_eq x.number y.number ≡ false =
            ap (λ n. nat_eq n y.number) (sym (mapped_at number locks k x 0 at_x))
            ∙ ap (nat_eq (get_or order k 0)) (sym (mapped_at number locks (k + 1) y 0 at_y))
            ∙ unlike k (omega (arith, within, length-map locks number)) in
            absurd (true≢false (sym ((unsigned_Decides x.number y.number).1 (sym one)) ∙ differ))
        go Greater e off = the_lock_total.antisymm x.lock.now y.lock.now ∙ ap ordering_reverse e

    rises : (k : ℕ) → k + 1 < length (map held locks)
        → the_lock_order.cmp (get_or (map held locks) k lock.All) (get_or (map held locks) (k + 1) lock.All) ≡ Less
    rises k within =
        let x = at_of locks k (omega (arith, within, length-map locks held)) in
        let y = at_of locks (k + 1) (omega (arith, within, length-map locks held)) in
        ap (λ l. the_lock_order.cmp l (get_or (map held locks) (k + 1) lock.All))
        (mapped_at held locks k x.0 lock.All x.1)
        ∙ ap (the_lock_order.cmp x.0.lock.now) (mapped_at held locks (k + 1) y.0 lock.All y.1)
        ∙ beside k x.0 y.0 x.1 y.1

    -- numbers whose locks were sorted are in the order of these
    pub sorted_order : IsOrderOf keys numbers order
    sorted_order = record {
      sorted = subst AreInOrder (sym (named_all locks still))
          (in_order (map held locks) (sorted_from_all_adjacent the_lock_total (map held locks) lock.All rises));
      same = permuted_has numbers order permuted;
      all = permuted_has order numbers (IsPermutation-sym numbers order permuted);
    }
