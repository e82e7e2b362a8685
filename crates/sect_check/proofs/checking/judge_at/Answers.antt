use Rattle.std.proofs.Common.{◌≡◌, List, sym, subst}
use Rattle.sect_types.specs.Sections.{section_shown}
use Rattle.sect_names.specs.{declared.lock.Lock.{Lock}, Needed.{end_locks, end_of}}
use Rattle.sect_check.specs.{Meaning.{IsSectionAt}, Valid.{IsValidSection}, Faults.{IsFaultOf}}
use Rattle.sect_names.proofs.shared.Ending.{section_read, end_is}
use Rattle.sect_check.proofs.{Judging.{judged_ok, judged_err}, checking.judge_at.Goals.{After-section-flow}}
use Rattle.sect_check.proofs.checking.judge_at.Goals as goal

-- the section and its graph are those of this number
section_at : (c : After-section-flow) → IsSectionAt c.args.scheme.now c.args.number
    (section_shown c.section-thread.result) c.section-flow.result.now
section_at c = section_read c.args.scheme.now c.args.number _ _ _ _ c.program.ensures c.section-thread.ensures.section
    c.graph.ensures c.section-flow.ensures

-- what its end generates
last_is : (c : After-section-flow) → end_locks c.locking-locking.result ≡ end_of c.args.scheme.now c.args.number
last_is c = sym (end_is c.args.scheme.now c.args.number _ c.locking-locking.result c.program-2.ensures
    c.locking-locking.ensures)

pub returns-in-Err : goal.returns-in-Err
returns-in-Err c =
    let s = c.args.scheme.now in
    let t = c.section-thread.result.thread in
    let g = c.section-flow.result.now in
    let at = (goal.at.returns-in-Err c).After-section-flow in
    let here = subst (λ (last : List Lock). IsFaultOf s t last g c.args.claims.now c.in-Err.fault) (last_is at)
    c.in-Err.ensures in
    rw c.of_section.ensures (judged_err (Unit {0}) s c.args.number c.args.claims.now c.in-Err.fault
    (section_shown c.section-thread.result, g, section_at at, here))

pub judge_section-requires-clause-shape : goal.judge_section-requires-clause-shape
judge_section-requires-clause-shape c =
    c.requires.shape _ _ (section_at (goal.at.judge_section-requires-clause-shape c).After-section-flow)

pub judge_section-requires-clause-within : goal.judge_section-requires-clause-within
judge_section-requires-clause-within c =
    let at = section_at (goal.at.judge_section-requires-clause-within c).After-section-flow in
    (c.facts.ensures.graphed.sections c.args.number _ _ at.0 at.1).within

pub returns-in-Ok : goal.returns-in-Ok
returns-in-Ok c =
    let s = c.args.scheme.now in
    let t = c.section-thread.result.thread in
    let g = c.section-flow.result.now in
    let at = (goal.at.returns-in-Ok c).After-section-flow in
    let right = subst (λ (last : List Lock). IsValidSection s t last g c.args.claims.now) (last_is at)
    c.in-Ok.ensures in
    judged_ok s c.args.number (section_shown c.section-thread.result) g c.args.claims.now c.in-Ok.field-0
    (section_at at) right

pub judge_section-requires-clause-lawful : goal.judge_section-requires-clause-lawful
judge_section-requires-clause-lawful c =
    c.requires.lawful _ _ (section_at (goal.at.judge_section-requires-clause-lawful c).After-section-flow)

pub judge_section-requires-clause-chains : goal.judge_section-requires-clause-chains
judge_section-requires-clause-chains c =
    c.requires.chains _ _ (section_at (goal.at.judge_section-requires-clause-chains c).After-section-flow)
