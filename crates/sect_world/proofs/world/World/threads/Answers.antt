-- Each runner stands for a thread.
use Rattle.std.proofs.Common.{length, ap, arith}
use Rattle.sect_emit.specs.Compiled.{program_of}
use Rattle.sect_world.specs.Worlds.{WorldView}
use Rattle.sect_world.proofs.Viewing.{length-threads_of}
use Rattle.sect_world.proofs.world.World.threads.Goals as goal

pub returns : goal.returns
returns c =
    let w = c.self.inside in
    let world = c.self.invariant.0 in
    let many = length-threads_of w.compiled.now (program_of w.compiled.now).texts w.moment.runners.items
    w.moment.table.held
    world.as_many world.as_many_held in
    let seen = ap (λ (z : WorldView). length z.state.threads) c.self.view_is in
    omega (arith, many, seen, world.as_many, c.len.ensures, w.moment.runners.ok)
