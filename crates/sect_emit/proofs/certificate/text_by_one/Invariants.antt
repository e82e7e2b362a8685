use Rattle.sect_emit.specs.steps.Certifying.{IsBegun}
use Rattle.sect_emit.proofs.certificate.text_by_one.Given as goal

abbrev pub invariant-loop-section : goal.invariant-loop-section
invariant-loop-section l = IsBegun l.scheme l.section l.text.items
