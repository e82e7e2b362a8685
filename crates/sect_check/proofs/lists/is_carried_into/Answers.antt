use Rattle.std.proofs.{Common.{◌↔◌, Bool, refl, sym, subst}, lemmas.Result.{IfOk-weaker}}
use Rattle.std.specs.Prelude.{IsTrue}
use Rattle.sect_lemmas.specs.Lists.{Has}
use Rattle.sect_names.specs.{declared.lock.Lock.{Lock}, Locks.{CoveredBy}, Carrying.{CarriedBack}}
use Rattle.sect_check.specs.Valid.{AreCovered}
use Rattle.sect_check.proofs.lists.is_carried_into.Goals as goal

pub returns-then-stays : goal.returns-then-stays
returns-then-stays c =
    let section = c.args.section in
    let s = section.scheme.now in
    let keys = c.args.above.locks.now in
    let l = c.args.lock.now in
    let stay = c.stays.ensures c.if-stays.true s c.requires.lawful in
    IfOk-weaker c.covers.result (λ (it : Bool). IsTrue it ↔ CoveredBy s keys l)
    (λ (it : Bool). IsTrue it ↔ ((r : Lock) → CarriedBack s section.thread c.args.label.now l r → CoveredBy s keys r))
    (λ it tells. (
      λ t r back. subst (CoveredBy s keys) (sym ((stay r).0 back)) (tells.0 t),
      λ all. tells.1 (all l ((stay l).1 refl)),
    )) c.covers.ensures

pub returns : goal.returns
returns c =
    let section = c.args.section in
    let s = section.scheme.now in
    let keys = c.args.above.locks.now in
    let l = c.args.lock.now in
    let carried = subst (λ ls. (r : Lock) → Has ls r ↔ CarriedBack s section.thread c.args.label.now l r)
    (sym c.as_slice.ensures.value) c.in_ok-carried.ensures in
    IfOk-weaker c.covers_each.result (λ (it : Bool). IsTrue it ↔ AreCovered s keys c.as_slice.result.now)
    (λ (it : Bool). IsTrue it ↔ ((r : Lock) → CarriedBack s section.thread c.args.label.now l r → CoveredBy s keys r))
    (λ it tells. (
      λ t r back. tells.0 t r ((carried r).1 back),
      λ all. tells.1 (λ r h. all r ((carried r).0 h)),
    )) c.covers_each.ensures
