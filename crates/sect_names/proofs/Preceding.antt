use Rattle.std.proofs.Common.{◌≡◌, ◌↔◌, Less, Equal, Greater, refl, sym, ap, ◌∙◌, subst}
use Rattle.std.specs.{declared.cmp.Ordering.{Ordering}, Ordering.{ordering_reverse}}
use Rattle.sect_names.specs.{declared.lock.Lock.{Lock}, contracts.lock.LockOrd.TheImpl.{ghosts as the_lock_order}}
use Rattle.sect_names.specs.{contracts.lock.LockOrd.TheImpl.Laws.{total-law as the_lock_total}, Order.{LockBefore}}
use Rattle.sect_names.proofs.shared.{Ranking.{lock_before, lock_level}, Uniqueness.{lock_once}}

-- The derived comparison of locks tells exactly which stands before which.

pub before_tells : (l m : Lock) → (the_lock_order.cmp l m ≡ Less) ↔ LockBefore l m
before_tells l m = (λ e. lock_before l m e, λ h. go h (the_lock_order.cmp l m) refl)
  where
    go : LockBefore l m → (o : Ordering) → the_lock_order.cmp l m ≡ o → the_lock_order.cmp l m ≡ Less
    go h Less e = e
    go h Equal e = let c = subst (LockBefore l) (sym (lock_level l m e)) h in absurd (lock_once l l c c)
    go h Greater e = absurd (lock_once l m h (lock_before m l (the_lock_total.antisymm m l ∙ ap ordering_reverse e)))
