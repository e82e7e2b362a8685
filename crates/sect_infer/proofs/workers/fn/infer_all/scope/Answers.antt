use Rattle.std.proofs.Common.{rules}
use denote.Param.Send.{IsSend, IsSync, sendable, param_send}
use Rattle.sect_names.proofs.shared.Crossing.{scheme_sync}
use Rattle.sect_infer.proofs.workers.fn.infer_all.scope.Lts.{arg-5-2}
use Rattle.std.proofs.alloc.Global.TheSendSync as heap
use Rattle.sect_infer.proofs.workers.fn.infer_all.scope.Goals as goal

pub spawn_with-requires-send-F : goal.spawn_with-requires-send-F
spawn_with-requires-send-F g c κs within =
    let seen : IsSync g.row.S = search (rules, sendable) depth 30 in
    let job : IsSend (arg-5-2 g.row.R g.row.S g.R.laws g.S.laws g.R.Threads-dict g.R.Wait-dict g.S.Seen-dict κs) =
    search (sendable, scheme_sync, heap.the_send) depth 30 parts 0 in
    param_send 2 _ job
