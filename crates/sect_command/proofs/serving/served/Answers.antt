-- A session that ends with the status 1 was broken off.
use Rattle.std.proofs.Common.{inr}
use Rattle.sect_command.proofs.Ending.{conversation_of}
use Rattle.sect_command.proofs.serving.served.Goals as goal

pub returns-in-Ok : goal.returns-in-Ok
returns-in-Ok g c =
    let session = c.in-Ok.ensures.session in
    let written = conversation_of (g.I.Read.remaining c.args.input) session.0 c.in-Ok.status session.2 in
    inr (c.in-Ok.ensures.status, (session.0, session.1, written))
