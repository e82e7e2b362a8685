use Rattle.std.proofs.Common.{◌∷◌, length}
use Rattle.sect_cert.specs.Parts.{parts}
use Rattle.sect_cert.specs.steps.Again.{IsAfter}
use Rattle.sect_cert.proofs.Verdict.{IsReading}
use Rattle.sect_cert.proofs.reading.read_lines.Given as goal

abbrev pub invariant-loop-next : goal.invariant-loop-next
invariant-loop-next l = record {
  reading : IsReading (parts 10 l.bytes) (l.text ∷ l.others) l.stage l.line;
  after : IsAfter l.stage l.before;
}

abbrev pub decreases-loop-next : goal.decreases-loop-next
decreases-loop-next l = length l.others
