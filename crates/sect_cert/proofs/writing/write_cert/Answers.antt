use Rattle.std.proofs.Common.{◌≡◌, ◌∙◌, ap}
use Rattle.sect_cert.specs.Texts.{certificate_text, begun_text}
use Rattle.sect_cert.proofs.Versions.{only}
use Rattle.sect_cert.proofs.writing.write_cert.Goals as goal

-- all that is written
whole : (c : goal.In_ok-end_cert) → c.end_cert.new.out.items ≡ certificate_text c.args.cert.now
whole c =
    let cert = c.args.cert.now in
    let count = c.len.result in
    c.in_ok-end_cert.ensures cert
    (c.in_ok-put_sections.ensures cert.k count c.in_ok-text.ensures
    ∙ ap (begun_text cert.k count) c.as_slice.ensures
    ∙ ap (λ n. begun_text cert.k n cert.sections) c.len.ensures)

pub returns-clause-text : goal.returns-clause-text
returns-clause-text c = whole c

pub returns-clause-reads_back : goal.returns-clause-reads_back
returns-clause-reads_back c = λ h answer judged. only _ answer judged c.args.cert.now h (whole c)
