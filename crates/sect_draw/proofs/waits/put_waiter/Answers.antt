use Rattle.std.proofs.Common.{length, sym, ap, ◌∙◌, arith}
use Rattle.sect_types.specs.Programs.{ProgramView}
use Rattle.sect_draw.proofs.Wishing.{wisher_there}
use Rattle.sect_draw.proofs.waits.put_waiter.Goals as goal

pub put_thread_name-requires : goal.put_thread_name-requires
put_thread_name-requires c =
    let there = wisher_there c.args.world.now.state c.args.waiter c.in-Some.wish
    (sym c.first_wish.ensures ∙ c.in-Some.is)
    in
    let program = ap (λ (p : ProgramView). length p.texts) c.program.ensures in
    omega (arith, there, program, c.thread_count-count.ensures.count, c.thread_count-count.ensures.texts)
