use Rattle.std.proofs.Common.{◌≡◌, ap, ◌∙◌, refl, subst, Some}
use Rattle.std.specs.Prelude.{slice_get}
use Rattle.sect_types.specs.{Programs.{ProgramView}, Sections.{sections_of, section_shown}}
use Rattle.sect_names.specs.Schemes.{SchemeView}
use Rattle.sect_conflicts.specs.steps.Profiles.{AreSitesOfLocks}
use Rattle.sect_conflicts.proofs.Profiling.{is_profile}
use Rattle.sect_conflicts.proofs.profile.profile_of.Goals as goal

pub returns : goal.returns
returns c =
    let p = c.args.compiled.now in
    let set = c.set-locks.result.now in
    let sites = c.in_ok-sites.sites in
    let of = section_shown c.section-thread.result in
    let at = subst (λ (q : ProgramView). slice_get (sections_of q.texts) c.args.section ≡ Some of)
    (c.program.ensures ∙ ap (λ (s : SchemeView). s.program) c.scheme.ensures) c.section-thread.ensures.section in
    is_profile p c.facts.ensures.compiled c.args.section set c.part.result.now c.set-locks.ensures c.part.ensures of at
    (record { thread = c.section-thread.result.thread; always = c.in_ok-always.always; sites = sites }) refl
    c.in_ok-always.ensures
    (subst (λ s. AreSitesOfLocks s set sites.items) c.scheme-2.ensures c.in_ok-sites.ensures)
