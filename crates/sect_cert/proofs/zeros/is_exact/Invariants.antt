use Rattle.std.proofs.Common.{◌≡◌, false, length}
use Rattle.sect_cert.specs.Zeros.{is_exact_from}
use Rattle.sect_front.specs.Words.{is_name_byte}
use Rattle.sect_cert.proofs.zeros.is_exact.Given as goal

abbrev pub invariant-loop-first : goal.invariant-loop-first
invariant-loop-first l = is_exact_from (is_name_byte l.before) l.rest ≡ is_exact_from false l.line

abbrev pub decreases-loop-first : goal.decreases-loop-first
decreases-loop-first l = length l.rest
