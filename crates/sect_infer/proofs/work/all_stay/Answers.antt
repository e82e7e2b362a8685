use Rattle.std.proofs.Common.{◌≡◌, ◌↔◌, ◌<◌, length, get_or, inl, inr, arith, sym, ap, ◌∙◌, subst}
use Rattle.std.proofs.lemmas.List.{get_or_default}
use Rattle.std.specs.Prelude.{slice_get}
use Rattle.sect_lemmas.proofs.{Making.{last_of}, Membership.{Has-get_or}, Places.{one_at}}
use Rattle.sect_names.specs.{declared.lock.Lock.{Lock}, Locks.{IsLockOf}, Carrying.{CarriedBack}}
use Rattle.sect_infer.proofs.work.all_stay.Goals as goal

pub lock-requires : goal.lock-requires
lock-requires c = c.requires (get_or c.args.numbers.now c.loop-number.number-index 0)
    (Has-get_or c.args.numbers.now c.loop-number.number-index 0 (omega (arith, c.loop-number-test.true)))

pub loop-number-preserved : goal.loop-number-preserved
loop-number-preserved c = λ l h s of r.
    let numbers = c.args.numbers.now in
    let i = c.loop-number.number-index in
    let n = get_or numbers i 0 in
    let within : i < length numbers = omega (arith, c.loop-number-test.true) in
    elim (last_of numbers i n h.0 within (get_or_default numbers i 0 n within) h.1) [
      | inl k ↦ c.loop-number.invariant l (h.0, k, h.2) s of r
      | inr e ↦
          let same : c.lock.result.now ≡ l = one_at c.args.numbering.now.keys n c.lock.result.now l c.lock.ensures
          (ap (slice_get c.args.numbering.now.keys) (sym e) ∙ h.2) in
          subst (λ (x : Lock). IsLockOf s c.args.thread x
          → CarriedBack s c.args.thread c.args.label.now x r ↔ (r ≡ x)) same
          (λ o. c.leaves.ensures c.if-not-leaves.false s c.args.thread c.args.label.now c.of-change.ensures o r) of
    ]
