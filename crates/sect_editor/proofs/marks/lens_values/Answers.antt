use Rattle.std.proofs.Common.{◌≡◌, length, ap, ◌∙◌, arith}
use Rattle.sect_types.specs.{Programs.{ProgramView}, Sections.{sections_of}}
use Rattle.sect_names.specs.Schemes.{SchemeView}
use Rattle.sect_editor.specs.Marks.{lenses_at}
use Rattle.sect_editor.proofs.Listing.{value_more, numbers_more, numbers_all}
use Rattle.sect_editor.proofs.marks.lens_values.Goals as goal

pub loop-section-preserved : goal.loop-section-preserved
loop-section-preserved c =
    let m = c.args.marked.now in
    let values = c.loop-section.values.items in
    let more = c.push.new.self.items in
    numbers_more (lenses_at m.compiled.now m.source.now m.spans.now c.args.pairs.now) c.loop-section.section
    values more c.loop-section.invariant
    (value_more values more c.in_ok-section_lens.field-0 _ c.in_ok-push.ensures.items c.in_ok-section_lens.ensures)

pub returns : goal.returns
returns c =
    let m = c.args.marked.now in
    let program = c.program.ensures ∙ ap (λ (s : SchemeView). s.program) c.scheme.ensures in
    let count = c.section_count-section-end.ensures.count
    ∙ ap (λ (p : ProgramView). length (sections_of p.texts)) program in
    let all : c.loop-section.section ≡ length (sections_of m.compiled.now.scheme.program.texts) =
    omega (arith, c.loop-section-test.false, c.loop-section.auto.section-end, count) in
    numbers_all (lenses_at m.compiled.now m.source.now m.spans.now c.args.pairs.now) c.loop-section.section
    (length (sections_of m.compiled.now.scheme.program.texts)) c.loop-section.values all c.loop-section.invariant
