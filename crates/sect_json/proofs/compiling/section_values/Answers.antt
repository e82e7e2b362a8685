use Rattle.std.proofs.Common.{◌≡◌, length, map, ap, ◌∙◌, arith}
use Rattle.std.specs.List.{range_with_len}
use Rattle.sect_types.specs.{Programs.{ProgramView}, Sections.{sections_of}}
use Rattle.sect_names.specs.Schemes.{SchemeView}
use Rattle.sect_json.specs.Compiling.{section_json}
use Rattle.sect_json.proofs.Rows.{range_more}
use Rattle.sect_json.proofs.compiling.section_values.Goals as goal

pub loop-section-preserved : goal.loop-section-preserved
loop-section-preserved c =
    range_more (section_json c.args.compiled.now) c.loop-section.section c.loop-section.values.items
    c.push.new.self.items c.in_ok-section_value.field-0 c.loop-section.invariant c.in_ok-push.ensures.items
    c.in_ok-section_value.ensures

pub returns : goal.returns
returns c =
    let v = c.args.compiled.now in
    let program = c.program.ensures ∙ ap (λ (s : SchemeView). s.program) c.scheme.ensures in
    let count = c.section_count-section-end.ensures.count
    ∙ ap (λ (p : ProgramView). length (sections_of p.texts)) program in
    let all : c.loop-section.section ≡ length (sections_of v.scheme.program.texts) =
    omega (arith, c.loop-section-test.false, c.loop-section.auto.section-end, count) in
    c.loop-section.invariant ∙ ap (λ n. map (section_json v) (range_with_len 0 n)) all
