use Rattle.std.proofs.Common.{◌∙◌, ◌++◌, ◌∷◌, [], take, sym, ap, arith}
use Rattle.std.proofs.lemmas.List.{take_more, take_all, length-take-le}
use Rattle.sect_cert.specs.{declared.certificate.CertSection.{CertSection}, Texts.{begun_text}}
use Rattle.sect_cert.proofs.WriteLaws.{next_section_written}
use Rattle.sect_cert.proofs.writing.put_sections.Goals as goal

pub loop-number-preserved : goal.loop-number-preserved
loop-number-preserved c = λ k count begun.
    let sections = c.args.sections.now in
    let n = c.loop-number.number in
    let within = c.loop-number-test.true in
    let more = take_more sections n c.index-sections-number.result within
    ∙ ap (λ (x : CertSection). take n sections ++ x ∷ []) (sym c.index-sections-number.is) in
    next_section_written k count n (take n sections) c.index-sections-number.result c.loop-number.out.items _
    c.in_ok-put_lines.ensures (length-take-le n sections (omega (arith, within)))
    (c.loop-number.invariant k count begun)
    ∙ ap (begun_text k count) (sym more)

pub returns : goal.returns
returns c = λ k count begun.
    c.loop-number.invariant k count begun
    ∙ ap (begun_text k count) (take_all c.loop-number.number c.args.sections.now c.loop-number-test.false)
