use Rattle.std.proofs.Common.{◌≡◌, ◌++◌, false, length}
use Rattle.sect_cert.specs.Zeros.{plain_from}
use Rattle.sect_cert.proofs.zeros.without_zeros.Given as goal

abbrev pub invariant-loop-first : goal.invariant-loop-first
invariant-loop-first l = l.text.items ++ plain_from l.inside l.rest ≡ plain_from false l.line

abbrev pub decreases-loop-first : goal.decreases-loop-first
decreases-loop-first l = length l.rest
