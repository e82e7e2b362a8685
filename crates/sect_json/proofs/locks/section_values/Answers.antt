use Rattle.std.proofs.Common.{◌<◌, length, ap, ◌∙◌, arith}
use Rattle.sect_lemmas.proofs.Places.{at_of}
use Rattle.sect_types.specs.{Programs.{ProgramView}, Sections.{sections_of}}
use Rattle.sect_names.specs.Schemes.{SchemeView}
use Rattle.sect_json.specs.Locks.{section_json}
use Rattle.sect_json.proofs.Rows.{by_place_more}
use Rattle.sect_json.proofs.locks.section_values.Goals as goal

pub loop-section-preserved : goal.loop-section-preserved
loop-section-preserved c =
    let v = c.args.compiled.now in
    let i = c.loop-section.section in
    let program = c.program.ensures ∙ ap (λ (s : SchemeView). s.program) c.scheme.ensures in
    let count = c.section_count-section-end.ensures.count
    ∙ ap (λ (p : ProgramView). length (sections_of p.texts)) program in
    let within : i < length v.sets =
    omega (arith, c.loop-section-test.true, count, c.facts.ensures.compiled.set_count) in
    let here = at_of v.sets i within in
    record {
      added = by_place_more v.sets i here.0 here.1 (section_json v.scheme.program.source) c.loop-section.values.items
          c.push.new.self.items c.in_ok-section_value.field-0 _ c.loop-section.invariant.added
          c.in_ok-push.ensures.items (c.in_ok-section_value.ensures here.0 here.1);
    }
