-- Guards may be read by several threads at a time.
use denote.Param.Send.{IsSync}
use Rattle.sect_hints.specs.contracts.guarding.Guards as shown
use Rattle.sect_hints.proofs.guarding.Guards.TheSendSync as sent

pub guards_sync : IsSync shown.the_row
guards_sync = sent.the_sync
