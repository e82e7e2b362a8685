-- The next thread is the one of the next number.
use Rattle.std.proofs.Common.{ℕ, length, sym, ap, ◌∙◌, subst, arith, length-append}
use Rattle.sect_world.specs.Viewing.{IsFirst, AreFirst}
use Rattle.sect_world.proofs.Opening.{each_more}
use Rattle.sect_world.proofs.runner.first_runners.Goals as goal

pub loop-thread-preserved : goal.loop-thread-preserved
loop-thread-preserved c =
    let inv = c.loop-thread.invariant in
    let more = ap length c.in_ok-push.ensures.items ∙ length-append c.loop-thread.all.items _ in
    let first = subst (λ n. IsFirst c.args.compiled.now c.args.fuel n c.in_ok-first_runner.field-0) (sym {A = ℕ} inv.0)
    c.in_ok-first_runner.ensures in (
      omega (arith, more, inv.0),
      inv.1,
      subst (AreFirst c.args.compiled.now c.args.fuel) (sym c.in_ok-push.ensures.items)
          (each_more (IsFirst c.args.compiled.now c.args.fuel) c.loop-thread.all.items c.in_ok-first_runner.field-0
          inv.2 first),
    )
