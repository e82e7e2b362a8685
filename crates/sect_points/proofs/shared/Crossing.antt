-- Classes may be read by several threads at a time.
use denote.Param.Send.{IsSync}
use Rattle.sect_points.specs.contracts.path_classes.Classes as shown
use Rattle.sect_points.proofs.path_classes.Classes.TheSendSync as sent

pub classes_sync : IsSync shown.the_row
classes_sync = sent.the_sync
