-- The turns so far are those of a beginning of the schedule.
use Rattle.std.proofs.Common.{◌≤◌, take, get_or, length, sym, ap, ◌∙◌, subst, arith, length-append}
use Rattle.std.proofs.lemmas.List.{take_all, take_more}
use Rattle.sect_emit.specs.Compiled.{program_of}
use Rattle.sect_world.specs.Worlds.{IsRefused}
use Rattle.sect_world.proofs.Scheduling.{SoFar, so_far_more, progress}
use Rattle.sect_world.proofs.shared.Unrun.{unrun}
use Rattle.sect_world.proofs.schedule.run_schedule.Goals as goal

pub returns-in-Err-clause-refused : goal.returns-in-Err-clause-refused
returns-in-Err-clause-refused c =
    let so = c.loop-thread.invariant.0 in
    let i = c.loop-thread.thread-index in
    let t = get_or c.args.schedule.now i 0 in
    unrun c.in-Err.fault c.args.schedule.now i _ c.loop-thread-test.true so.within
    (subst (λ z. IsRefused c.in-Err.fault t (length (program_of z).texts)) so.compiled c.in-Err.ensures.refused)

pub loop-thread-preserved : goal.loop-thread-preserved
loop-thread-preserved c =
    let inv = c.loop-thread.invariant in
    let more = ap length c.push_reserved.ensures.items ∙ length-append c.loop-thread.made.items _ in
    let next = so_far_more c.args.compiled.now c.args.fuel (take c.loop-thread.thread-index c.args.schedule.now)
    c.loop-thread.world c.counted_turn.new.world c.loop-thread.made.items c.push_reserved.new.self.items _
    c.in-Ok.count
    inv.0 c.in-Ok.ensures.counted c.in-Ok.ensures.within c.push_reserved.ensures.items in (
      subst (λ ts. SoFar c.args.compiled.now c.args.fuel ts c.counted_turn.new.world c.push_reserved.new.self.items)
          (sym (take_more c.args.schedule.now c.loop-thread.thread-index _ c.loop-thread-test.true)) next,
      omega (arith, more, inv.1, c.push_reserved.new.self.ok, c.loop-thread.made.ok),
      subst (λ n. length c.args.schedule.now ≤ n) (sym c.push_reserved.ensures.capacity) inv.2,
    )

pub returns-clause-ok : goal.returns-clause-ok
returns-clause-ok c =
    let inv = c.loop-thread.invariant in
    let whole = take_all c.loop-thread.thread-index c.args.schedule.now c.loop-thread-test.false in
    let so = subst (λ ts. SoFar c.args.compiled.now c.args.fuel ts c.loop-thread.world c.loop-thread.made.items) whole
    inv.0 in
    let r = c.facts.ensures in
    let f = c.finish.ensures in
    progress c.args.compiled.now c.args.fuel c.args.schedule.now c.loop-thread.world _ so f.events f.outcome f.serial
    r.run r.order r.going

pub returns-clause-within : goal.returns-clause-within
returns-clause-within c =
    let inv = c.loop-thread.invariant in
    let whole = take_all c.loop-thread.thread-index c.args.schedule.now c.loop-thread-test.false in
    (subst (λ ts. SoFar c.args.compiled.now c.args.fuel ts c.loop-thread.world c.loop-thread.made.items) whole
    inv.0).within
