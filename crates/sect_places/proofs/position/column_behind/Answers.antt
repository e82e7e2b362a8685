use Rattle.std.proofs.Common.{sym}
use Rattle.sect_places.proofs.Columns.{no_feed, last_feed}
use Rattle.sect_places.proofs.position.column_behind.Goals as goal

pub returns-in-Some : goal.returns-in-Some
returns-in-Some c =
    sym (last_feed c.args.column c.args.bytes.now c.in-Some.feed c.in-Some.ensures.0.high c.in-Some.ensures.0.after
    c.in-Some.ensures.1)

pub returns-in-None : goal.returns-in-None
returns-in-None c = sym (no_feed c.args.column c.args.bytes.now c.in-None.ensures)
