use Rattle.std.proofs.Common.{◌≡◌, ◌≤◌, drop}
use Rattle.sect_lsp.specs.{Framing.{number_from}, declared.limits.TheConstants.{MOST_MESSAGE}}
use Rattle.sect_lsp.proofs.framing.number_at.Given as goal

-- what is left goes on with the number
abbrev pub invariant-loop-byte : goal.invariant-loop-byte
invariant-loop-byte l = record {
  same : number_from 0 l.bytes ≡ number_from l.value (drop l.byte-index l.bytes);
  most : l.value ≤ MOST_MESSAGE;
}
