-- What a request is answered, seen as data.
use Rattle.serde_json.specs.View.{view}
use Rattle.sect_lsp.specs.{declared.reply.Reply.{Reply}, Protocol.{ReplyView, Result, Error}}
use Rattle.sect_lsp.specs.declared.reply.Reply.TheVariants as reply

abbrev pub reply_view : Reply → ReplyView
reply_view (reply.Result value) = Result (view value)
reply_view (reply.Error why) = Error why
