use Rattle.sect_lemmas.proofs.Membership.{Has-get_or}
use Rattle.sect_draw.proofs.cells.put_lets.Goals as goal

pub put_thread_name-requires : goal.put_thread_name-requires
put_thread_name-requires c =
    c.requires _ (Has-get_or c.args.events.now c.loop-event.event-index _ c.loop-event-test.true)
