use Rattle.std.proofs.Common.{arith, ◌≡◌, ◌++◌, ◌∷◌, [], slice_index_or, ap, ◌∙◌, sym, subst, add-one, take, drop, suc}
use Rattle.std.proofs.{Common.{◌+◌, Some, Err}, lemmas.List.{take_all}, Math.Seq.{split_at, take-suc}}
use Rattle.sect_types.specs.Whole.{in_order, begun}
use Rattle.sect_serial.specs.declared.whole.SerialFault.TheVariants.{NoSection}
use Rattle.sect_serial.specs.steps.Frames.{RanSection}
use Rattle.sect_serial.proofs.{RunLemmas.{in_order_more}, RefusalLemmas.{judged_only, judged_refuses, finished}}
use Rattle.sect_serial.proofs.whole.serial.Goals as goal

pub returns-then-not-branch-clause-judges : goal.returns-then-not-branch-clause-judges
returns-then-not-branch-clause-judges c =
    let i = c.loop-thread.thread-index in
    let order = c.args.order.now in
    let none = subst (λ b. RanSection c.args.program.now (slice_index_or order i 0) c.loop-thread.run b
    c.run_section.new.self) c.if-not-branch.true c.in_ok-run_section.ensures.ran in (
      take i order,
      drop (suc i) order,
      c.loop-thread.run,
      split_at order i 0 (omega arith),
      c.loop-thread.invariant.ran,
      none,
    )

pub returns-then-not-branch-clause-only : goal.returns-then-not-branch-clause-only
returns-then-not-branch-clause-only c =
    judged_only c.args.program.now c.args.fuel c.args.order.now
    (Err (NoSection (slice_index_or c.args.order.now c.loop-thread.thread-index 0)))
    (returns-then-not-branch-clause-judges c)

pub returns-then-not-branch-clause-refuses : goal.returns-then-not-branch-clause-refuses
returns-then-not-branch-clause-refuses c =
    judged_refuses c.args.program.now c.args.fuel c.args.order.now
    (Err (NoSection (slice_index_or c.args.order.now c.loop-thread.thread-index 0)))
    (returns-then-not-branch-clause-judges c)

pub loop-thread-preserved : goal.loop-thread-preserved
loop-thread-preserved c =
    let i = c.loop-thread.thread-index in
    let order = c.args.order.now in
    let p = c.args.program.now in
    let some = subst (λ b. RanSection p (slice_index_or order i 0) c.loop-thread.run b c.run_section.new.self)
    c.if-not-branch.false c.in_ok-run_section.ensures.ran in
    let more : take (i + 1) order ≡ take i order ++ slice_index_or order i 0 ∷ [] =
    rw add-one (take-suc order i 0 (omega arith)) in
    record {
      ran = ap (λ ts. in_order p ts (begun p c.args.fuel)) more
          ∙ in_order_more p (take i order) (slice_index_or order i 0) (begun p c.args.fuel) c.loop-thread.run
          c.run_section.new.self c.loop-thread.invariant.ran some;
      ready = c.in_ok-run_section.ensures.ready;
      many = c.in_ok-run_section.ensures.many ∙ c.loop-thread.invariant.many;
    }

pub returns-clause-judges : goal.returns-clause-judges
returns-clause-judges c =
    let p = c.args.program.now in
    let order = c.args.order.now in
    let ran : in_order p order (begun p c.args.fuel) ≡ Some c.loop-thread.run =
    ap (λ ts. in_order p ts (begun p c.args.fuel)) (sym (take_all c.loop-thread.thread-index order (omega arith)))
    ∙ c.loop-thread.invariant.ran in
    finished p c.args.fuel order c.loop-thread.run c.finish.result ran c.finish.ensures

pub returns-clause-only : goal.returns-clause-only
returns-clause-only c = judged_only c.args.program.now c.args.fuel c.args.order.now c.finish.result
    (returns-clause-judges c)

pub returns-clause-refuses : goal.returns-clause-refuses
returns-clause-refuses c = judged_refuses c.args.program.now c.args.fuel c.args.order.now c.finish.result
    (returns-clause-judges c)
