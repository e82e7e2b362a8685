-- The canonical order of locks goes on.
use Rattle.sect_names.specs.declared.lock.Lock.{Lock}
use Rattle.sect_names.specs.{contracts.lock.LockOrd.TheImpl.Laws.{total-law as the_lock_total}, Order.{LockBefore}}
use Rattle.sect_names.proofs.Preceding.{before_tells}

-- what stands before a lock stands before those that follow it
pub lock_then : (l m n : Lock) → LockBefore l m → LockBefore m n → LockBefore l n
lock_then l m n h k =
    (before_tells l n).0 (the_lock_total.trans l m n ((before_tells l m).1 h) ((before_tells m n).1 k))
