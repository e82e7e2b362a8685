use Rattle.std.proofs.Common.{◌≡◌, ◌<◌, ◌≤◌, Some, length, arith, sym, ap, ◌∙◌, subst, refl}
use Rattle.std.proofs.lemmas.Option.{slice_get_read}
use Rattle.std.specs.Prelude.{slice_get}
use Rattle.sect_types.specs.{Programs.{ProgramView}, Sections.{sections_of}}
use Rattle.sect_check.specs.Meaning.{DenotesAll}
use Rattle.sect_check.proofs.{Judging.{passes_on, valid_more, all_valid}, Denoting.{all_lawful, all_lawful_chains}}
use Rattle.sect_check.proofs.Numbering.{all_shaped}
use Rattle.sect_check.proofs.checking.judge_cert.Goals.{After-section_count-section-end, After-index-claims-section}
use Rattle.sect_check.proofs.checking.judge_cert.Goals as goal

-- the claims are what the certificate says, and the sections are the program's
denoted : (c : After-section_count-section-end)
    → DenotesAll c.args.scheme.now c.args.cert.now c.as_slice-claims.result.now
    × (c.section_count-section-end.result ≡ length (sections_of c.args.scheme.now.program.texts))
denoted c = (
  subst (DenotesAll c.args.scheme.now c.args.cert.now) (sym c.as_slice-claims.ensures) c.in-Ok.ensures,
  c.section_count-section-end.ensures.count
      ∙ ap (λ (p : ProgramView). length (sections_of p.texts)) c.program.ensures,
)

-- the claims that are judged are the section's
claims_read : (c : After-index-claims-section)
    → DenotesAll c.args.scheme.now c.args.cert.now c.as_slice-claims.result.now
    × (c.section_count-section-end.result ≡ length (sections_of c.args.scheme.now.program.texts))
    → slice_get c.as_slice-claims.result.now c.loop-section.section ≡ Some c.index-claims-section.result
claims_read c d =
    let all = c.as_slice-claims.result.now in
    let within : c.loop-section.section < length all =
    omega (arith, c.loop-section-test.true, d.1, d.0.count, d.0.sections) in
    slice_get_read all (length all) c.loop-section.section c.index-claims-section.result refl within
    c.index-claims-section.is

pub returns-in_err-judge_at : goal.returns-in_err-judge_at
returns-in_err-judge_at c =
    let at = goal.at.returns-in_err-judge_at c in
    let d = denoted at.After-section_count-section-end in
    passes_on c.args.scheme.now c.args.cert.now c.as_slice-claims.result.now d.0 c.loop-section.section
    c.index-claims-section.result (claims_read at.After-index-claims-section d) c.loop-section.invariant (Unit {0})
    c.from_residual.result c.in_err-judge_at.field-0.0 c.from_residual.ensures.1 c.in_err-judge_at.ensures

pub loop-section-preserved : goal.loop-section-preserved
loop-section-preserved c =
    let at = goal.at.loop-section-preserved c in
    let d = denoted at.After-section_count-section-end in
    valid_more c.args.scheme.now c.args.cert.now c.as_slice-claims.result.now d.0 c.loop-section.section
    c.index-claims-section.result (claims_read at.After-index-claims-section d) c.loop-section.invariant
    c.in_ok-judge_at.field-0 c.in_ok-judge_at.ensures

pub returns : goal.returns
returns c =
    let s = c.args.scheme.now in
    let d = denoted (goal.at.returns c).After-section_count-section-end in
    let past : length (sections_of s.program.texts) ≤ c.loop-section.section =
    omega (arith, d.1, c.loop-section-test.false) in
    all_valid s c.args.cert.now c.as_slice-claims.result.now d.0 c.loop-section.section past c.loop-section.invariant

pub judge_at-requires-clause-shape : goal.judge_at-requires-clause-shape
judge_at-requires-clause-shape c =
    let at = goal.at.judge_at-requires-clause-shape c in
    let d = denoted at.After-section_count-section-end in
    all_shaped c.args.scheme.now c.args.cert.now c.requires c.as_slice-claims.result.now d.0 c.loop-section.section
    c.index-claims-section.result (claims_read at.After-index-claims-section d)

pub judge_at-requires-clause-lawful : goal.judge_at-requires-clause-lawful
judge_at-requires-clause-lawful c =
    let at = goal.at.judge_at-requires-clause-lawful c in
    let d = denoted at.After-section_count-section-end in
    all_lawful c.args.scheme.now c.args.cert.now c.as_slice-claims.result.now d.0 c.loop-section.section
    c.index-claims-section.result (claims_read at.After-index-claims-section d)

pub judge_at-requires-clause-chains : goal.judge_at-requires-clause-chains
judge_at-requires-clause-chains c =
    let at = goal.at.judge_at-requires-clause-chains c in
    let d = denoted at.After-section_count-section-end in
    all_lawful_chains c.args.scheme.now c.args.cert.now c.as_slice-claims.result.now d.0 c.loop-section.section
    c.index-claims-section.result (claims_read at.After-index-claims-section d)
