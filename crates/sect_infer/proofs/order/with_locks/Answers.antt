use Rattle.std.proofs.Common.{◌≡◌, ◌∙◌, ◌<◌, [], ◌∷◌, ◌++◌, Some, inl, inr, length, get_or, sym, ap, subst, arith}
use Rattle.std.proofs.lemmas.List.{map-append, take_more}
use Rattle.std.specs.Prelude.{slice_get}
use Rattle.sect_lemmas.proofs.{Membership.{Has-get_or}, Inserting.{behind}}
use Rattle.sect_infer.specs.declared.order.NumberedLock.{NumberedLock}
use Rattle.sect_infer.proofs.Ordering.{number}
use Rattle.sect_infer.proofs.order.with_locks.Goals as goal

pub lock-requires : goal.lock-requires
lock-requires c =
    let i = c.loop-number.number-index in
    c.requires (get_or c.args.numbers.now i 0)
    (Has-get_or c.args.numbers.now i 0 (omega (arith, c.loop-number-test.true)))

pub loop-number-preserved : goal.loop-number-preserved
loop-number-preserved c =
    let keys = c.args.numbering.now.keys in
    let numbers = c.args.numbers.now in
    let i = c.loop-number.number-index in
    let locks = c.loop-number.locks.items in
    let within : i < length numbers = omega (arith, c.loop-number-test.true) in
    let x : NumberedLock = record { lock = c.lock.result; number = get_or numbers i 0 } in
    rw c.in_ok-push.ensures.items (record {
      numbers = map-append number locks (x ∷ [])
          ∙ ap (λ ns. ns ++ get_or numbers i 0 ∷ []) c.loop-number.invariant.numbers
          ∙ sym (take_more numbers i 0 within);
      locks = λ y h. elim ((behind locks x y).0 h) [
        | inl old ↦ c.loop-number.invariant.locks y old
        | inr e ↦ subst (λ (z : NumberedLock). slice_get keys z.number ≡ Some z.lock.now) (sym e) c.lock.ensures
      ];
    })
