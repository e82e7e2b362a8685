use Rattle.std.proofs.Common.{◌≡◌}
use Rattle.sect_infer.specs.steps.Sharing.{AreFound, dealt, sections_in}
use Rattle.sect_infer.proofs.workers.share.Given as goal

abbrev pub invariant-loop-section : goal.invariant-loop-section
invariant-loop-section g l = record {
  sections : sections_in l.found.items ≡ dealt l.workers l.worker l.section;
  found : AreFound l.scheme l.found.items;
}
