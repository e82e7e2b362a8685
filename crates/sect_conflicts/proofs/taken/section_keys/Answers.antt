use Rattle.std.proofs.Common.{◌≡◌, ◌∙◌, [], Some, arith, sym, ap, subst}
use Rattle.std.specs.Prelude.{slice_get, slice_index_or}
use Rattle.sect_types.specs.Sections.{SectionView, sections_of}
use Rattle.sect_emit.specs.Compiled.{program_of}
use Rattle.sect_conflicts.specs.declared.profile.Profile.{Profile}
use Rattle.sect_conflicts.specs.{Conflicts.{Selects, set_at}, Taken.{IsKeyMet, IsPathMet}}
use Rattle.sect_conflicts.proofs.Profiling.{profile_here}
use Rattle.sect_conflicts.proofs.taken.section_keys.Goals as goal

pub returns : goal.returns
returns c =
    let p = c.args.compiled.now in
    let i = c.args.section in
    let x = c.index-profiles-section.result in
    let mine = profile_here p c.args.profiles.now c.requires.profiles i x
    (omega (arith, c.requires.within, c.requires.profiles.0)) c.index-profiles-section.is in
    let of_section = λ (s : SectionView) (at : slice_get (sections_of (program_of p).texts) i ≡ Some s).
    sym (ap (λ (z : Profile). z.thread) c.index-profiles-section.is) ∙ mine.thread s at in
    record {
      part = λ s at. subst (λ u. Selects (IsKeyMet p u) (slice_index_or p.parts i []) c.in_ok-part.part.items)
          (of_section s at) c.in_ok-part.ensures;
      paths = λ s at. subst (λ u. Selects (IsPathMet p u) (set_at p i) c.in_ok-paths.paths.items)
          (of_section s at) c.in_ok-paths.ensures;
    }
