use Rattle.std.proofs.Common.{◌≡◌, ◌↔◌, ◌⊎◌, ◌<◌, length, arith, inl, inr}
use Rattle.sect_lemmas.specs.Lists.{Has}
use Rattle.sect_names.specs.contracts.lock.LockPartialEq.TheImpl.{ghosts as the_lock_eq}
use Rattle.sect_names.proofs.shared.Telling.{lock_tells}
use Rattle.sect_lemmas.proofs.{Making.{last_of, so_far}, Inserting.{inserted}}
use Rattle.sect_check.proofs.covering.set_of.Goals as goal

pub loop-lock-preserved : goal.loop-lock-preserved
loop-lock-preserved c = λ x.
    let locks = c.args.locks.now in
    let i = c.loop-lock.lock-index in
    let l = c.lock-item.result in
    let within : i < length locks = omega arith in
    let put : Has c.insert.new.self.keys x ↔ (Has c.loop-lock.set.keys x ⊎ (x ≡ l)) =
    rw (c.in_ok-insert.ensures.keys, c.in_ok-try_clone.ensures)
    (inserted the_lock_eq.eq lock_tells c.loop-lock.set.keys l x) in (
      λ h. so_far locks i l x within c.lock-item.is
          (elim (put.0 h) [ inl a ↦ inl ((c.loop-lock.invariant x).0 a) | inr e ↦ inr e ]),
      λ h. put.1 (elim (last_of locks i l x within c.lock-item.is h)
          [ inl a ↦ inl ((c.loop-lock.invariant x).1 a) | inr e ↦ inr e ]),
    )
