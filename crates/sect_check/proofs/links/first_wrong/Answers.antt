use Rattle.std.proofs.Common.{arith, sym, ◌∙◌, true≢false}
use Rattle.sect_names.specs.Needed.{end_locks}
use Rattle.sect_check.specs.Faults.{ComesRight, EndsRight}
use Rattle.sect_check.proofs.{Scanning.{below_next}, Stepping.{chain_when}}
use Rattle.sect_check.proofs.links.first_wrong.Goals as goal

pub returns-then-not-branch : goal.returns-then-not-branch
returns-then-not-branch c = (
  λ right. true≢false (sym (c.in_ok-is_right.ensures.1 (right.1, right.2)) ∙ c.if-not-branch.true),
  λ m lt. (let r = c.loop-number.invariant m lt in (λ e. c.begins.ensures.0 c.if-not-begins.false, r.0, r.1)),
)

pub loop-number-preserved : goal.loop-number-preserved
loop-number-preserved c =
    let section = c.args.section in
    let s = section.scheme.now in
    let links = c.args.links.now in
    below_next (λ m. ComesRight s section.thread section.flow.now links m
    × EndsRight s section.thread (end_locks section.locking) section.flow.now links m) c.loop-number.number
    c.loop-number.invariant (c.in_ok-is_right.ensures.0 c.if-not-branch.false)

pub returns : goal.returns
returns c =
    let section = c.args.section in
    chain_when section.scheme.now section.thread (end_locks section.locking) section.flow.now c.args.lock.now
    c.args.links.now (c.begins.ensures.0 c.if-not-begins.false)
    (λ m lt. c.loop-number.invariant m (omega (arith, lt, c.loop-number-test.false)))
