use Rattle.std.proofs.Common.{rules}
use denote.Param.Send.{IsSync, sendable}
use Rattle.sect_emit.proofs.shared.Crossing.{compiled_sync}
use Rattle.sect_run.proofs.gate.Passage.TheSendSync as PassageSend
use Rattle.sect_run.proofs.share.Post.TheSendSync as PostSend
use Rattle.sect_run.proofs.worker.Shared.TheSendSync as SharedSend
use Rattle.sect_run.proofs.worker.fn.start_workers.scope.Goals as goal

pub spawn-requires-send-F : goal.spawn-requires-send-F
spawn-requires-send-F g c κs within =
    let compiled = compiled_sync in
    let rt : IsSync g.row.R = search (rules, sendable) depth 30 in
    let gate : IsSync g.row.G = search (rules, sendable) depth 30 in
    search (sendable, PostSend.the_send, SharedSend.the_sync, PassageSend.the_sync) depth 30
