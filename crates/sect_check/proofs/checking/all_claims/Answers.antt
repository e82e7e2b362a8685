use Rattle.std.proofs.Common.{◌≡◌, ◌<◌, List, length, arith, ap, ◌∙◌, subst}
use Rattle.sect_types.specs.{Programs.{ProgramView}, Sections.{sections_of}, Sight.{names_of_globals}}
use Rattle.sect_cert.specs.declared.certificate.CertSection.{CertSection}
use Rattle.sect_check.specs.{declared.claims.Claims.{Claims}, Meaning.{DenotesAll}}
use Rattle.sect_check.specs.steps.Resolving.{DenotesAt}
use Rattle.sect_check.proofs.{Resolving.{passes}, Judging.{first_more, denotes_all, none_denoted}}
use Rattle.sect_types.proofs.shared.Repeating.{globals_apart}
use Rattle.sect_hints.specs.Names.{AreDifferent}
use Rattle.sect_check.proofs.checking.all_claims.Goals as goal

pub names_of-requires : goal.names_of-requires
names_of-requires c =
    let source = c.program-3.result.now.source in
    let same : source.globals ≡ c.globals.result.now = cc in
    subst (λ gs. AreDifferent (names_of_globals gs)) same (globals_apart source c.tree-tree.ensures.typed)

pub returns-in_err-claims_at : goal.returns-in_err-claims_at
returns-in_err-claims_at c =
    let s = c.args.scheme.now in
    let a = c.args.cert.now in
    let n = c.loop-section.section in
    let within : n < length a.sections = omega (arith, c.loop-section-test.true, c.if-len-count.false, c.len.ensures) in
    passes c.from_residual-in_err-claims_at.result c.in_err-claims_at.field-0.0 (DenotesAt s c.as_slice.result.now n)
    (DenotesAll s a) c.from_residual-in_err-claims_at.ensures.1 c.in_err-claims_at.ensures
    (λ bad. none_denoted s a n within
    (subst (λ (l : List CertSection). (d : Claims) → DenotesAt s l n d → ⊥) c.as_slice.ensures bad))

pub loop-section-preserved : goal.loop-section-preserved
loop-section-preserved c =
    let s = c.args.scheme.now in
    let n = c.loop-section.section in
    rw c.in_ok-push.ensures.items (first_more s c.args.cert.now.sections n c.loop-section.all.items
    c.in_ok-claims_at.field-0 c.loop-section.invariant
    (subst (λ (l : List CertSection). DenotesAt s l n c.in_ok-claims_at.field-0) c.as_slice.ensures
    c.in_ok-claims_at.ensures))

pub returns : goal.returns
returns c =
    let s = c.args.scheme.now in
    let a = c.args.cert.now in
    let count : c.section_count-count.result ≡ length (sections_of s.program.texts) =
    c.section_count-count.ensures.count
    ∙ ap (λ (p : ProgramView). length (sections_of p.texts)) c.program-2.ensures in
    let same : length a.sections ≡ c.section_count-count.result = omega (arith, c.if-len-count.false, c.len.ensures) in
    rw c.from_vec.ensures (denotes_all s a c.loop-section.all.items c.loop-section.section
    (omega (arith, c.if-cert-k.false, c.k.ensures)) (same ∙ count)
    (omega (arith, same, c.loop-section-test.false, c.loop-section.auto.section-end)) c.loop-section.invariant)
