use Rattle.std.proofs.Common.{◌≡◌, length, ap, arith}
use Rattle.sect_types.specs.{Sections.{sections_of}, Programs.{ProgramView}}
use Rattle.sect_emit.proofs.Written.{all_written}
use Rattle.sect_emit.proofs.certificate.text_by_one.Goals as goal

pub put_words-requires-clause-inferred : goal.put_words-requires-clause-inferred
put_words-requires-clause-inferred c = λ of g at graph.
    (c.in_ok-locks.ensures.locks of g at graph, c.in_ok-locks.ensures.lawful of at)

pub returns : goal.returns
returns c =
    let s = c.args.scheme.now in
    let n = c.loop-section.section in
    let past = c.loop-section-test.false in
    let within = c.loop-section.auto.section-end in
    let all : n ≡ length (sections_of s.program.texts) = omega (
      arith,
      past,
      within,
      c.section_count-count.ensures.count,
      ap (λ (p : ProgramView). length (sections_of p.texts)) c.program.ensures,
    ) in
    let most = c.facts.ensures.most in
    let few = c.section_count-count.ensures.few in
    all_written s n c.loop-section.text.items _ all (omega (arith, most)) (omega (arith, within, few))
    c.loop-section.invariant c.in_ok-end_cert.ensures
