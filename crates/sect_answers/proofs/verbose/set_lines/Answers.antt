use Rattle.std.proofs.Common.{◌≡◌, [], length, ap, ◌∙◌, arith}
use Rattle.std.specs.{List.{flat_map, range_with_len}, String.{string_bytes}}
use Rattle.sect_types.specs.{Programs.{ProgramView}, Sections.{sections_of}}
use Rattle.sect_names.specs.Schemes.{SchemeView}
use Rattle.sect_legend.specs.Legend.{mark_of}
use Rattle.sect_legend.proofs.shared.Numbers.{more_given}
use Rattle.sect_answers.specs.Verbose.{set_line}
use Rattle.sect_answers.proofs.verbose.set_lines.Goals as goal

pub loop-section-preserved : goal.loop-section-preserved
loop-section-preserved c =
    let of = c.args.places.now in
    more_given (set_line of.compiled.now (mark_of of) of.source.now of.spans.now.heads) c.loop-section.section []
    (string_bytes c.loop-section.text) (string_bytes c.put_set_line.new.text) c.loop-section.invariant
    c.in_ok-put_set_line.ensures

pub returns : goal.returns
returns c =
    let of = c.args.places.now in
    let v = of.compiled.now in
    let program = c.program.ensures ∙ ap (λ (s : SchemeView). s.program) c.scheme.ensures in
    let count = c.section_count-section-end.ensures.count
    ∙ ap (λ (p : ProgramView). length (sections_of p.texts)) program in
    let all : c.loop-section.section ≡ length (sections_of v.scheme.program.texts) =
    omega (arith, c.loop-section-test.false, c.loop-section.auto.section-end, count) in
    c.loop-section.invariant
    ∙ ap (λ n. flat_map (set_line v (mark_of of) of.source.now of.spans.now.heads) (range_with_len 0 n)) all
