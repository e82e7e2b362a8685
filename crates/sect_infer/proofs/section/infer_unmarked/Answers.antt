use Rattle.std.proofs.{Common.{◌≡◌, Some, sym}, lemmas.Result.{IfOk-weaker}}
use Rattle.std.specs.Prelude.{slice_get}
use Rattle.sect_types.specs.Sections.{sections_of, section_shown}
use Rattle.sect_names.proofs.shared.Ending.{section_read}
use Rattle.sect_infer.specs.Sets.{AreUnmarkedAt}
use Rattle.sect_infer.specs.steps.Found.{IsFound}
use Rattle.sect_infer.proofs.{Finding.{inferred_of, found_lawful}, section.infer_unmarked.Goals.{After-section-flow}}
use Rattle.sect_infer.proofs.section.infer_unmarked.Goals as goal

-- the section and its graph are those of this number
section_at : (c : After-section-flow) → (slice_get (sections_of c.args.scheme.now.program.texts) c.args.section
    ≡ Some (section_shown c.section-thread.result))
    × (slice_get c.args.scheme.now.graphs.sections c.args.section ≡ Some c.section-flow.result.now)
section_at c = section_read c.args.scheme.now c.args.section _ _ _ _ c.program-2.ensures
    c.section-thread.ensures.section c.graph.ensures c.section-flow.ensures

pub found-requires : goal.found-requires
found-requires c = let at = section_at (goal.at.found-requires c).After-section-flow in
    c.only_the_programs.ensures (section_shown c.section-thread.result) c.section-flow.result.now at.0 at.1

pub returns : goal.returns
returns c =
    let s = c.args.scheme.now in
    let here = section_shown c.section-thread.result in
    let flow = c.section-flow.result.now in
    let at = section_at (goal.at.returns c).After-section-flow in
    IfOk-weaker c.found.result (IsFound s here.thread flow) (AreUnmarkedAt s c.args.section)
    (λ locks f of g section_is flow_is.
    let same_section : here ≡ of = cc in
    let same_graph : flow ≡ g = cc in
    rw (sym same_section, sym same_graph) (
      inferred_of s here.thread flow here.body
          (c.facts.ensures.graphed.sections c.args.section here flow at.0 at.1) locks f,
      found_lawful s here.thread flow (c.only_the_programs.ensures here flow at.0 at.1) locks.at f.found,
    ))
    c.found.ensures
