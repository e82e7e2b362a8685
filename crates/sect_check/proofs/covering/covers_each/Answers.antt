use Rattle.std.proofs.Common.{◌≡◌, ◌<◌, length, arith, true, false, sym, ◌∙◌, true≢false, rules}
use Rattle.sect_names.specs.{declared.lock.Lock.{Lock}, Locks.{CoveredBy}}
use Rattle.sect_check.proofs.Scanning.{each_more, item_has}
use Rattle.sect_check.proofs.covering.covers_each.Goals as goal

pub returns-then-not-branch : goal.returns-then-not-branch
returns-then-not-branch c =
    let locks = c.args.locks.now in
    let within : c.loop-lock.lock-index < length locks = omega arith in
    let x = c.lock-item.result in
    let no : c.in_ok-covers.field-0 ≡ false = search rules in (
      λ t. absurd (true≢false (sym t)),
      λ all. absurd
          (true≢false
          (sym (c.in_ok-covers.ensures.1 (all x (item_has locks c.loop-lock.lock-index x within c.lock-item.is)))
          ∙ no)),
    )

pub loop-lock-preserved : goal.loop-lock-preserved
loop-lock-preserved c =
    let locks = c.args.locks.now in
    let within : c.loop-lock.lock-index < length locks = omega arith in
    let yes : c.in_ok-covers.field-0 ≡ true = search rules in
    each_more (λ (x : Lock). CoveredBy c.args.scheme.now c.args.above.locks.now x) locks c.loop-lock.lock-index
    c.lock-item.result within c.lock-item.is c.loop-lock.invariant
    (c.in_ok-covers.ensures.0 yes)
