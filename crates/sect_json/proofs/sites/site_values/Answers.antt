use Rattle.std.proofs.Common.{◌≡◌, ◌++◌, length, map, ap, ◌∙◌, arith}
use Rattle.std.specs.List.{flat_map, range_with_len}
use Rattle.serde_json.specs.View.{view}
use Rattle.sect_types.specs.{Programs.{ProgramView}, Sections.{sections_of}}
use Rattle.sect_names.specs.Schemes.{SchemeView}
use Rattle.sect_emit.specs.Compiled.{program_of}
use Rattle.sect_json.specs.{Values.{by_place}, Sites.{global_json, section_sites}}
use Rattle.sect_json.proofs.Rows.{lists_more}
use Rattle.sect_json.proofs.sites.site_values.Goals as goal

pub loop-section-preserved : goal.loop-section-preserved
loop-section-preserved c =
    let of = c.args.of.now in
    let globals = by_place (global_json of.compiled.now of.source.now of.names.now) 0
    (program_of of.compiled.now).source.globals in
    lists_more (section_sites of.compiled.now of.source.now of.spans.now.sections) c.loop-section.section globals
    (map view c.loop-section.values.items) (map view c.put_section.new.values.items) c.loop-section.invariant
    c.in_ok-put_section.ensures

pub returns : goal.returns
returns c =
    let of = c.args.of.now in
    let v = of.compiled.now in
    let globals = by_place (global_json v of.source.now of.names.now) 0 (program_of v).source.globals in
    let program = c.program-program.ensures ∙ ap (λ (s : SchemeView). s.program) c.scheme.ensures in
    let count = c.section_count-section-end.ensures.count
    ∙ ap (λ (p : ProgramView). length (sections_of p.texts)) program in
    let all : c.loop-section.section ≡ length (sections_of v.scheme.program.texts) =
    omega (arith, c.loop-section-test.false, c.loop-section.auto.section-end, count) in
    c.loop-section.invariant
    ∙ ap (λ n. globals ++ flat_map (section_sites v of.source.now of.spans.now.sections) (range_with_len 0 n)) all
