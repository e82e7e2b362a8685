use Rattle.std.proofs.Common.{◌≡◌, ◌<◌, length}
use Rattle.sect_front.specs.steps.Recognition.{decimal_from}
use Rattle.sect_front.proofs.lexer.decimal.Given as goal

abbrev pub invariant-loop-first : goal.invariant-loop-first
invariant-loop-first l = (decimal_from l.value l.rest ≡ decimal_from 0 l.digits) × (l.value < 9223372036854775808)

abbrev pub decreases-loop-first : goal.decreases-loop-first
decreases-loop-first l = length l.rest
