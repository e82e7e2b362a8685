use Rattle.std.proofs.Common.{◌≡◌, ◌++◌, List, ℕ, length, map, ap, ◌∙◌, arith}
use Rattle.std.specs.{List.{flat_map, range_with_len}, String.{string_bytes}}
use Rattle.sect_front.specs.declared.tree.GlobalObject.{GlobalObject}
use Rattle.sect_types.specs.{Programs.{ProgramView}, Sections.{sections_of}}
use Rattle.sect_names.specs.Schemes.{SchemeView}
use Rattle.sect_emit.specs.Compiled.{program_of}
use Rattle.sect_legend.specs.Legend.{mark_of, section_sites}
use Rattle.sect_legend.proofs.shared.Numbers.{more_given}
use Rattle.sect_legend.proofs.sites.site_names.Goals as goal

pub loop-section-preserved : goal.loop-section-preserved
loop-section-preserved c =
    let of = c.args.places.now in
    let globals : List (List ℕ) = map (λ (g : GlobalObject). g.name) (program_of of.compiled.now).source.globals in
    more_given (section_sites of.compiled.now (mark_of of) of.source.now of.spans.now.sections) c.loop-section.section
    globals (map string_bytes c.loop-section.names.items) (map string_bytes c.put_section.new.names.items)
    c.loop-section.invariant c.in_ok-put_section.ensures

pub returns : goal.returns
returns c =
    let of = c.args.places.now in
    let v = of.compiled.now in
    let globals : List (List ℕ) = map (λ (g : GlobalObject). g.name) (program_of v).source.globals in
    let program = c.program-program.ensures ∙ ap (λ (s : SchemeView). s.program) c.scheme.ensures in
    let count = c.section_count-section-end.ensures.count
    ∙ ap (λ (p : ProgramView). length (sections_of p.texts)) program in
    let all : c.loop-section.section ≡ length (sections_of v.scheme.program.texts) =
    omega (arith, c.loop-section-test.false, c.loop-section.auto.section-end, count) in
    c.loop-section.invariant
    ∙ ap (λ n. globals
    ++ flat_map (section_sites v (mark_of of) of.source.now of.spans.now.sections) (range_with_len 0 n)) all
