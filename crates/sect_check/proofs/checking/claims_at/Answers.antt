use Rattle.std.proofs.{Common.{length, refl, subst}, lemmas.Option.{slice_get_read}}
use Rattle.sect_types.specs.Sections.{section_shown}
use Rattle.sect_names.proofs.shared.Ending.{section_read}
use Rattle.sect_check.specs.Meaning.{DenotesSection}
use Rattle.sect_check.specs.steps.Resolving.{NamingView, Resolves}
use Rattle.sect_check.proofs.Judging.{denotes_at}
use Rattle.sect_check.proofs.checking.claims_at.Goals as goal

pub returns : goal.returns
returns c =
    let sections = c.args.sections.now in
    let section = c.index-sections-number.result in
    let denotes = subst
    (λ (n : NamingView).
    Resolves c.claims_of.result (DenotesSection n.scheme n.thread c.section-flow.result.now section))
    c.new-naming.ensures c.claims_of.ensures in
    denotes_at c.args.scheme.now sections c.args.number (section_shown c.section-thread.result)
    c.section-flow.result.now section
    (section_read c.args.scheme.now c.args.number _ _ _ _ c.program-2.ensures c.section-thread.ensures.section
    c.graph.ensures c.section-flow.ensures)
    (slice_get_read sections (length sections) c.args.number section refl c.requires.there
    c.index-sections-number.is) c.claims_of.result denotes
