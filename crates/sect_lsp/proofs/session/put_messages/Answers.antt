use Rattle.std.proofs.Common.{◌++◌, ◌∙◌, subst}
use Rattle.std.specs.Io.KnownBytes.{Appends}
use Rattle.sect_lsp.specs.Framing.{frame}
use Rattle.sect_lsp.proofs.Going.{sent_one_more, appends_more}
use Rattle.sect_lsp.proofs.session.put_messages.Goals as goal

pub loop-message-preserved : goal.loop-message-preserved
loop-message-preserved g c =
    let so_far = c.loop-message.invariant in
    let told = c.in_ok-text.ensures in (
      so_far.0 ++ frame told.0,
      sent_one_more c.args.messages.now c.loop-message.message-index c.message-item.result so_far.0 told.0
          c.loop-message-test.true c.message-item.is so_far.1 told.1,
      appends_more (g.O.Write.contents c.args.output.now) (g.O.Write.contents c.loop-message.output)
          (g.O.Write.contents c.write_all.new.self) so_far.0 (frame told.0) so_far.2
          (subst (Appends (g.O.Write.contents c.loop-message.output) (g.O.Write.contents c.write_all.new.self))
          (c.as_bytes.ensures.value ∙ told.2) c.in_ok-write_all.ensures.bytes),
    )
