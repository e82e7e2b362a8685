use Rattle.sect_json.specs.steps.Sectioned.{AreSectionsSoFar}
use Rattle.sect_json.proofs.inspected_sections.put_sections.Given as goal

abbrev pub invariant-loop-section : goal.invariant-loop-section
invariant-loop-section l = AreSectionsSoFar l.of l.section l.initial.out.items l.out.items
