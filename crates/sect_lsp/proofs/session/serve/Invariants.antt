use Rattle.std.proofs.Common.{◌≡◌, ℕ, List, false, IfSome}
use Rattle.std.specs.Io.KnownBytes.{Appends}
use Rattle.sect_lsp.specs.Sessions.{is_ended}
use Rattle.sect_lsp.specs.steps.Underway.{IsUnderway}
use Rattle.sect_lsp.proofs.session.serve.Given as goal

-- the session goes on, and some bytes were written
abbrev pub invariant-loop-turn : goal.invariant-loop-turn
invariant-loop-turn g l = record {
  underway : IfSome (g.I.Read.remaining l.fn.input) (λ bytes. IsUnderway bytes (g.O.Write.contents l.fn.output)
      (g.O.Write.contents l.output) l.inbox (g.I.Read.remaining l.input) l.server);
  written : (sent : List ℕ) × Appends (g.O.Write.contents l.fn.output) (g.O.Write.contents l.output) sent;
  on : is_ended l.server.phase ≡ false;
}
