use Rattle.std.proofs.{Common.{◌<◌, ◌≤◌, None, length, inr, sym, subst, arith}, lemmas.List.{take_all}}
use Rattle.sect_lemmas.specs.Lists.{Has}
use Rattle.sect_lemmas.proofs.Membership.{Has-get_or}
use Rattle.sect_names.specs.Chains.{link}
use Rattle.sect_chains.specs.steps.{Working.{kept_of, GoesOn}, Ordering.{AllBefore}}
use Rattle.sect_chains.proofs.Carrying.{IsOfEnd, end_none, end_next}
use Rattle.sect_chains.proofs.Spreading.{end_begin, end_before, end_more, end_done}
use Rattle.sect_chains.proofs.work.Searched.put_at_end.Goals as goal

pub put-requires-clause-generated : goal.put-requires-clause-generated
put-requires-clause-generated c =
    let last = c.args.self.last.now in
    let i = c.loop-lock.lock-index in
    let within : i < length last = omega (arith, c.loop-lock-test.true) in
    inr (c.exit.ensures.number, subst (Has last) (sym c.lock-item.is) (Has-get_or last i c.lock-item.result within))

pub put-requires-clause-before : goal.put-requires-clause-before
put-requires-clause-before c =
    let a = c.args.self in
    let last = a.last.now in
    let i = c.loop-lock.lock-index in
    let within : i < length last = omega (arith, c.loop-lock-test.true) in
    let l = c.lock-item.result in
    end_before a.scheme.now a.thread last a.flow.now c.args.trail.now c.loop-lock.trail i within c.requires.few
    (link c.exit.result l)
    (subst (λ j. AllBefore c.args.trail.now None (link j l)) (sym c.exit.ensures.number) (c.requires.before l))
    c.loop-lock.invariant.order

pub loop-lock-init : goal.loop-lock-init
loop-lock-init c =
    let a = c.args.self in
    let old = c.args.trail.now in
    record {
      kept = end_none a.scheme.now a.thread a.last.now a.flow.now old.numbering (kept_of old) c.requires.work;
      order = end_begin a.scheme.now a.thread a.last.now a.flow.now old c.requires.sorted;
    }

pub loop-lock-preserved : goal.loop-lock-preserved
loop-lock-preserved c =
    let a = c.args.self in
    let last = a.last.now in
    let i = c.loop-lock.lock-index in
    let old = c.args.trail.now in
    let mid = c.loop-lock.trail in
    let new = c.put.new.trail in
    let within : i < length last = omega (arith, c.loop-lock-test.true) in
    record {
      kept = end_next a.scheme.now a.thread last a.flow.now old.numbering (kept_of old) mid.numbering (kept_of mid)
          new.numbering (kept_of new) i c.exit.result c.lock-item.result within c.lock-item.is c.exit.ensures.number
          c.loop-lock.invariant.kept c.in_ok-put.ensures.kept;
      order = end_more a.scheme.now a.thread last a.flow.now old mid new i c.exit.result c.lock-item.result within
          c.lock-item.is c.exit.ensures.number c.loop-lock.invariant.order c.in_ok-put.ensures.order;
    }

pub returns-clause-kept : goal.returns-clause-kept
returns-clause-kept c =
    let a = c.args.self in
    let last = a.last.now in
    let i = c.loop-lock.lock-index in
    let past : length last ≤ i = omega (arith, c.loop-lock-test.false) in
    subst (λ ls. GoesOn a.scheme.now a.thread last a.flow.now c.args.trail.now c.loop-lock.trail
    (IsOfEnd a.scheme.now a.thread last a.flow.now ls)) (take_all i last past) c.loop-lock.invariant.kept

pub returns-clause-order : goal.returns-clause-order
returns-clause-order c =
    let a = c.args.self in
    let last = a.last.now in
    let i = c.loop-lock.lock-index in
    end_done a.scheme.now a.thread last a.flow.now c.args.trail.now c.loop-lock.trail i
    (omega (arith, c.loop-lock-test.false)) c.loop-lock.invariant.order
