use Rattle.std.proofs.Common.{◌≡◌, ◌<◌, length}
use Rattle.sect_cert.specs.steps.Numbers.{decimal_from}
use Rattle.sect_cert.proofs.numbers.decimal.Given as goal

abbrev pub invariant-loop-first : goal.invariant-loop-first
invariant-loop-first l = (decimal_from l.number l.rest ≡ decimal_from 0 l.digits) × (l.number < 4294967296)

abbrev pub decreases-loop-first : goal.decreases-loop-first
decreases-loop-first l = length l.rest
