use Rattle.std.proofs.Common.{◌≡◌, ◌++◌, length, map, ap, ◌∙◌, arith}
use Rattle.std.specs.List.{flat_map, range_with_len}
use Rattle.serde_json.specs.View.{view}
use Rattle.sect_types.specs.{Programs.{ProgramView}, Sections.{sections_of}}
use Rattle.sect_names.specs.Schemes.{SchemeView}
use Rattle.sect_editor.specs.Symbols.{section_symbols}
use Rattle.sect_editor.proofs.Listing.{numbers_behind}
use Rattle.sect_editor.proofs.symbols.put_marked_sections.Goals as goal

pub loop-section-preserved : goal.loop-section-preserved
loop-section-preserved c =
    let m = c.args.marked.now in
    numbers_behind (section_symbols m.compiled.now m.source.now m.spans.now) c.loop-section.section
    (map view c.args.values.now.items) (map view c.loop-section.values.items) (map view c.put_section.new.values.items)
    c.loop-section.invariant c.in_ok-put_section.ensures

pub returns : goal.returns
returns c =
    let m = c.args.marked.now in
    let program = c.program.ensures ∙ ap (λ (s : SchemeView). s.program) c.scheme.ensures in
    let count = c.section_count-section-end.ensures.count
    ∙ ap (λ (p : ProgramView). length (sections_of p.texts)) program in
    let all : c.loop-section.section ≡ length (sections_of m.compiled.now.scheme.program.texts) =
    omega (arith, c.loop-section-test.false, c.loop-section.auto.section-end, count) in
    c.loop-section.invariant
    ∙ ap (λ n. map view c.args.values.now.items
    ++ flat_map (section_symbols m.compiled.now m.source.now m.spans.now) (range_with_len 0 n)) all
