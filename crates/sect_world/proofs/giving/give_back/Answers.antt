-- A release brings no more grants than there are threads.
use Rattle.std.proofs.Common.{length, ap, ◌∙◌, arith}
use Rattle.sect_world.proofs.Leaving.{length-released}
use Rattle.sect_world.proofs.giving.give_back.Goals as goal

pub take_grants-requires-clause-room : goal.take_grants-requires-clause-room
take_grants-requires-clause-room c =
    let few = c.release_all.ensures.few in
    let listed = ap length c.as_slice.ensures in
    let same = ap length c.release_all.ensures.held ∙ length-released c.args.event.thread c.args.table.now in
    omega (arith, few, listed, same, c.push_reserved.ensures.room, c.requires.room)

pub take_grants-requires-clause-place : goal.take_grants-requires-clause-place
take_grants-requires-clause-place c =
    let few = c.release_all.ensures.few in
    let listed = ap length c.as_slice.ensures in
    let same = ap length c.release_all.ensures.held ∙ length-released c.args.event.thread c.args.table.now in
    omega (arith, few, listed, same, c.clear.ensures.len, c.clear.ensures.capacity, c.requires.place)
