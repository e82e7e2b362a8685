use Rattle.std.proofs.Common.{◌≡◌, ◌≤◌, Some, length, sym, ap, ◌∙◌, subst, arith}
use Rattle.std.specs.Prelude.{slice_get}
use Rattle.sect_types.specs.Sections.{sections_of, section_shown}
use Rattle.sect_front.specs.declared.tree.Locking.{Locking}
use Rattle.sect_names.specs.{Needed.{end_of, end_locks}, Laws.{AreLawful}}
use Rattle.sect_names.proofs.shared.Ending.{section_read, end_is}
use Rattle.sect_chains.specs.steps.Trails.{AreTops}
use Rattle.sect_chains.proofs.section.numbered_chains.Goals.{After-entry}
use Rattle.sect_front.specs.declared.tree.Locking.TheVariants as locking
use Rattle.sect_chains.proofs.section.numbered_chains.Goals as goal

-- the end generates one lock at most
few_at_end : (l : Locking) → length (end_locks l) ≤ 1
few_at_end locking.Inferred = omega arith
few_at_end locking.All = omega arith

-- the section and its graph are those of this number
section_at : (c : After-entry) → (slice_get (sections_of c.args.scheme.now.program.texts) c.args.section
    ≡ Some (section_shown c.section-thread.result))
    × (slice_get c.args.scheme.now.graphs.sections c.args.section ≡ Some c.section-flow.result.now)
section_at c = section_read c.args.scheme.now c.args.section _ _ _ _ c.program-2.ensures
    c.section-thread.ensures.section c.graph.ensures c.section-flow.ensures

-- the last locks are what the section's end generates
last_is : (c : After-entry) → end_of c.args.scheme.now c.args.section ≡ c.as_slice.result.now
last_is c = end_is c.args.scheme.now c.args.section _ c.locking.result c.program-3.ensures c.locking.ensures
    ∙ sym (c.as_slice.ensures.value ∙ c.in_ok-last.ensures)

pub found-requires-clause-within : goal.found-requires-clause-within
found-requires-clause-within c =
    let at = section_at (goal.at.found-requires-clause-within c).After-entry in
    c.only_the_programs.ensures.within _ _ at.0 at.1

pub found-requires-clause-respects : goal.found-requires-clause-respects
found-requires-clause-respects c =
    let at = section_at (goal.at.found-requires-clause-respects c).After-entry in
    c.only_the_programs.ensures.respects _ _ at.0 at.1

pub found-requires-clause-lawful : goal.found-requires-clause-lawful
found-requires-clause-lawful c =
    let entry = (goal.at.found-requires-clause-lawful c).After-entry in
    let at = section_at entry in
    subst (λ ls. AreLawful c.args.scheme.now c.section-thread.result.thread ls c.section-flow.result.now)
    (last_is entry) (c.only_the_programs.ensures.lawful _ _ at.0 at.1)

pub found-requires-clause-tops : goal.found-requires-clause-tops
found-requires-clause-tops c =
    let entry = (goal.at.found-requires-clause-tops c).After-entry in
    let at = section_at entry in
    let s = c.args.scheme.now in
    let t = c.section-thread.result.thread in
    let g = c.section-flow.result.now in
    subst (AreTops s t c.as_slice.result.now g) (sym c.entry.ensures)
    (subst (λ ls. AreTops s t ls g c.args.locks.now.entry) (last_is entry)
    (c.needed_locks_have_trails.ensures _ _ at.0 at.1))

pub found-requires-clause-few : goal.found-requires-clause-few
found-requires-clause-few c =
    let few = few_at_end c.locking.result in
    omega (arith, few, ap length (c.as_slice.ensures.value ∙ c.in_ok-last.ensures))
