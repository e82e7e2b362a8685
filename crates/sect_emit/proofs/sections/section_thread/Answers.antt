use Rattle.std.proofs.Common.{◌≡◌, Some, sym, ap, ◌∙◌, subst}
use Rattle.std.specs.Prelude.{slice_get}
use Rattle.sect_types.specs.{Programs.{ProgramView}, Sections.{SectionView, sections_of, section_shown}}
use Rattle.sect_names.specs.Schemes.{SchemeView}
use Rattle.sect_emit.proofs.Explained.{section_here}
use Rattle.sect_emit.proofs.sections.section_thread.Goals as goal

pub returns : goal.returns
returns c =
    let i = c.args.section in
    let s = section_shown c.section.result in
    let program = c.program.ensures ∙ ap (λ (s : SchemeView). s.program) c.scheme.ensures in
    let here = subst (λ (p : ProgramView). slice_get (sections_of p.texts) i ≡ Some s) program
    c.section.ensures.section in
    ap (λ (x : SectionView). x.thread) (sym (section_here c.args.compiled.now i s here))
