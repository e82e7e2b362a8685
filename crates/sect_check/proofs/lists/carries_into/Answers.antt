use Rattle.std.proofs.Common.{refl, subst, ◌<◌, length, arith, sym, ◌∙◌, true≢false}
use Rattle.sect_names.specs.Locks.{CoveredBy}
use Rattle.sect_names.proofs.shared.Covering.{covers_refl}
use Rattle.sect_check.proofs.{Scanning.{item_has}, Generating.{carried_more}}
use Rattle.sect_check.proofs.lists.carries_into.Goals as goal

pub is_carried_into-requires-clause-lawful : goal.is_carried_into-requires-clause-lawful
is_carried_into-requires-clause-lawful c =
    let locks = c.args.list.locks.now in
    let within : c.loop-lock.lock-index < length locks = omega arith in
    c.requires.lawful c.lock-item.result
    (item_has locks c.loop-lock.lock-index c.lock-item.result within c.lock-item.is)

pub returns-then-leaves_all : goal.returns-then-leaves_all
returns-then-leaves_all c =
    let s = c.args.section.scheme.now in
    let thread = c.args.section.thread in
    let stay = c.leaves_all.ensures c.if-leaves_all.true s thread c.args.label c.of.ensures in (
      λ yes l r has back. subst (CoveredBy s c.args.above.locks.now)
          (sym ((stay l (c.requires.lawful l has) r).0 back))
          (l, c.requires.held c.if-list.true l has, covers_refl s l),
      λ all. refl,
    )

pub is_known-requires : goal.is_known-requires
is_known-requires c = λ t.
    let locks = c.args.list.locks.now in
    let within : c.loop-lock.lock-index < length locks = omega arith in
    c.requires.held t c.lock-item.result
    (item_has locks c.loop-lock.lock-index c.lock-item.result within c.lock-item.is)

pub returns-then-not-branch : goal.returns-then-not-branch
returns-then-not-branch c =
    let locks = c.args.list.locks.now in
    let within : c.loop-lock.lock-index < length locks = omega arith in
    let x = c.lock-item.result in
    let has = item_has locks c.loop-lock.lock-index x within c.lock-item.is in (
      λ t. absurd (true≢false (sym t)),
      λ all. absurd (true≢false (sym (c.in_ok-is_carried_into.ensures.1 (λ r back. all x r has back))
          ∙ c.if-not-branch.true)),
    )

pub loop-lock-preserved : goal.loop-lock-preserved
loop-lock-preserved c =
    let section = c.args.section in
    let locks = c.args.list.locks.now in
    let within : c.loop-lock.lock-index < length locks = omega arith in
    carried_more section.scheme.now section.thread c.args.label c.args.above.locks.now locks c.loop-lock.lock-index
    c.lock-item.result
    within c.lock-item.is c.loop-lock.invariant (c.in_ok-is_carried_into.ensures.0 c.if-not-branch.false)

pub loop-lock-preserved-then-is_known : goal.loop-lock-preserved-then-is_known
loop-lock-preserved-then-is_known c =
    let s = c.args.section.scheme.now in
    let keys = c.args.above.locks.now in
    let locks = c.args.list.locks.now in
    let within : c.loop-lock.lock-index < length locks = omega arith in
    let x = c.lock-item.result in
    let has = item_has locks c.loop-lock.lock-index x within c.lock-item.is in
    let stay = c.stays.ensures c.if-stays.true s (c.requires.lawful x has) in
    carried_more s c.args.section.thread c.args.label keys locks c.loop-lock.lock-index x within c.lock-item.is
    c.loop-lock.invariant
    (λ r back. subst (CoveredBy s keys) (sym ((stay r).0 back))
    (x, c.is_known.ensures c.if-is_known.true, covers_refl s x))
