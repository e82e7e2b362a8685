use Rattle.std.proofs.Common.{length, ap, ◌∙◌}
use Rattle.sect_types.specs.{Programs.{ProgramView}, Sections.{sections_of}}
use Rattle.sect_names.specs.Schemes.{SchemeView}
use Rattle.sect_answers.proofs.explain.placed_explanation.Goals as goal

pub explanation-requires : goal.explanation-requires
explanation-requires c =
    ap length c.as_slice.ensures.value ∙ c.in_ok-lines.ensures.count
    ∙ ap (λ (p : ProgramView). length (sections_of p.texts))
    (c.program.ensures ∙ ap (λ (s : SchemeView). s.program) c.scheme.ensures)
