use Rattle.std.proofs.Common.{◌-◌}
use Rattle.sect_places.specs.steps.Standing.{IsSought}
use Rattle.sect_places.proofs.words.from_token.Given as goal

abbrev pub invariant-loop-passed : goal.invariant-loop-passed
invariant-loop-passed l = IsSought l.text.bytes.now l.tree l.fn.number l.here (l.fn.sought.left - l._passed)
