-- The locks of a section may be read by several threads at a time.
use denote.Param.Send.{IsSync}
use Rattle.sect_infer.specs.contracts.locks.Locks as shown
use Rattle.sect_infer.proofs.locks.Locks.TheSendSync as sent

pub locks_sync : IsSync shown.the_row
locks_sync = sent.the_sync
