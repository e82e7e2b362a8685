use Rattle.std.proofs.Common.{◌≡◌, ◌++◌, drop}
use Rattle.sect_command.specs.Requests.{turns_of}
use Rattle.sect_command.proofs.turns.repeated.Given as goal

abbrev pub invariant-loop-place : goal.invariant-loop-place
invariant-loop-place l = record {
  added : l.turns.items ++ turns_of (drop l.place l.counts) (drop l.place l.threads) ≡ turns_of l.counts l.threads;
}
