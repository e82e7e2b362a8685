use Rattle.std.proofs.Common.{◌≡◌, ◌<◌, length, subst, ap, ◌∙◌, arith}
use Rattle.sect_types.specs.{Programs.{ProgramView}, Sections.{sections_of}}
use Rattle.sect_names.specs.Schemes.{SchemeView}
use Rattle.sect_answers.specs.Graphing.{HasSection}
use Rattle.sect_answers.proofs.graph.program_graph.Goals as goal

pub returns-then-number-count-clause-only : goal.returns-then-number-count-clause-only
returns-then-number-count-clause-only c = λ s accepted there.
    let own = c.in_ok-compiled.compiled.scheme in
    let same : s.program ≡ own.program = c.texts_have_one_program.ensures c.args.source.now own.program s.program
    c.in_ok-compiled.ensures.compiled.accepted.text accepted.text in
    let program = c.program.ensures ∙ ap (λ (z : SchemeView). z.program) c.scheme.ensures in
    let asked : c.in-Some.number < length (sections_of s.program.texts) = subst (HasSection s) c.in-Some.is there in
    let mine = ap (λ (p : ProgramView). length (sections_of p.texts)) same in
    let count = ap (λ (p : ProgramView). length (sections_of p.texts)) program in
    absurd (omega (arith, asked, mine, count, c.section_count-count.ensures.count, c.if-number-count.true))
