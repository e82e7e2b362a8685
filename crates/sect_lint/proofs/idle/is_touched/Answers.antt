use Rattle.std.proofs.{Common.{◌≡◌, ◌≤◌, ◌∙◌, Some, length, slice_get, sym, ap, arith}, lemmas.List.{take_all}}
use Rattle.std.specs.List.{list_any}
use Rattle.sect_types.specs.Sections.{sections_of}
use Rattle.sect_lint.specs.Idle.{is_touched_in}
use Rattle.sect_lint.proofs.Touching.{none_yet, found_at}
use Rattle.sect_lint.proofs.idle.is_touched.Goals as goal

pub section-requires : goal.section-requires
section-requires c =
    let count : c.section_count-section-end.result ≡ length (sections_of c.args.scheme.now.program.texts) =
    rw c.program.ensures at c.section_count-section-end.ensures.count in
    rw c.graph-graph.ensures (omega (arith, c.loop-section-test.true, count, c.facts.ensures.graphed.section_count))

pub returns-then-is_touched_in : goal.returns-then-is_touched_in
returns-then-is_touched_in c =
    let flows = c.args.scheme.now.graphs.sections in
    let at : slice_get flows c.loop-section.section ≡ Some c.section.result.now =
    rw c.graph-graph.ensures at c.section.ensures in
    sym (found_at (is_touched_in c.args.of) flows c.loop-section.section c.section.result.now at
    (sym c.is_touched_in.ensures ∙ c.if-is_touched_in.true))

pub loop-section-preserved : goal.loop-section-preserved
loop-section-preserved c =
    let flows = c.args.scheme.now.graphs.sections in
    let at : slice_get flows c.loop-section.section ≡ Some c.section.result.now =
    rw c.graph-graph.ensures at c.section.ensures in
    none_yet (is_touched_in c.args.of) flows c.loop-section.section c.section.result.now at c.loop-section.invariant
    (sym c.is_touched_in.ensures ∙ c.if-is_touched_in.false)

pub returns : goal.returns
returns c =
    let flows = c.args.scheme.now.graphs.sections in
    let count : c.section_count-section-end.result ≡ length (sections_of c.args.scheme.now.program.texts) =
    rw c.program.ensures at c.section_count-section-end.ensures.count in
    let all : length flows ≤ c.loop-section.section =
    omega (arith, c.loop-section-test.false, count, c.facts.ensures.graphed.section_count) in
    sym (ap (list_any (is_touched_in c.args.of)) (sym (take_all c.loop-section.section flows all))
    ∙ c.loop-section.invariant)
