use Rattle.std.proofs.Common.{ℕ, List, map, take}
use Rattle.std.specs.Io.KnownBytes.{Appends}
use Rattle.serde_json.specs.View.{view}
use Rattle.sect_lsp.specs.Sessions.{AreSent}
use Rattle.sect_lsp.proofs.session.put_messages.Given as goal

-- the messages so far were written
abbrev pub invariant-loop-message : goal.invariant-loop-message
invariant-loop-message g l =
    (sent : List ℕ) × AreSent (map view (take l.message-index l.messages)) sent
    × Appends (g.O.Write.contents l.fn.output) (g.O.Write.contents l.output) sent
