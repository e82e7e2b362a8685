use Rattle.std.proofs.Common.{◌≡◌, drop}
use Rattle.sect_lint.specs.Arguments.{differing}
use Rattle.sect_lint.proofs.arguments.differing.Given as goal

abbrev pub invariant-loop-declared : goal.invariant-loop-declared
invariant-loop-declared l =
    differing l.names l.call (drop l.declared-index l.parameters) l.values l.places
    ≡ differing l.names l.call l.parameters l.tokens l.spans
