use Rattle.std.proofs.Common.{◌≡◌, ap, sym, refl, ◌∙◌, subst, Some}
use Rattle.std.specs.{Option.{IsSome}, Prelude.{slice_get}}
use Rattle.sect_types.specs.{Sections.{section_shown, AllNumbered, section_from, sections_of}, Sound.{AreSound}}
use Rattle.sect_types.specs.Programs.{ProgramView}
use Rattle.sect_types.proofs.NumberedSections.{found}
use Rattle.sect_types.proofs.shared.SectionSound.{section_sound}
use Rattle.sect_types.proofs.program.Program.section.Goals as goal

pub unwrap-requires : goal.unwrap-requires
unwrap-requires c =
    let texts = ap (λ (p : ProgramView). p.texts) c.self.view_is in
    let f = found c.args.self.now.texts c.args.number c.find.result
    (subst (AllNumbered 0) texts c.self.invariant.0.numbers.numbered)
    (c.find.ensures ∙ ap (section_from c.args.number 0) (c.as_slice.ensures.value ∙ texts)) c.requires in
    subst IsSome (sym f.1) refl

pub returns-clause-section : goal.returns-clause-section
returns-clause-section c =
    let texts = ap (λ (p : ProgramView). p.texts) c.self.view_is in
    let f = found c.args.self.now.texts c.args.number c.find.result
    (subst (AllNumbered 0) texts c.self.invariant.0.numbers.numbered)
    (c.find.ensures ∙ ap (section_from c.args.number 0) (c.as_slice.ensures.value ∙ texts)) c.requires in
    cc (f.1, f.2, c.unwrap.ensures)

pub returns-clause-thread : goal.returns-clause-thread
returns-clause-thread c =
    let p = c.args.self.now in
    let texts = ap (λ (p : ProgramView). p.texts) c.self.view_is in
    let f = found p.texts c.args.number c.find.result (subst (AllNumbered 0) texts c.self.invariant.0.numbers.numbered)
    (c.find.ensures ∙ ap (section_from c.args.number 0) (c.as_slice.ensures.value ∙ texts)) c.requires in
    let here : slice_get (sections_of p.texts) c.args.number ≡ Some (section_shown c.unwrap.result) =
    cc (f.1, f.2, c.unwrap.ensures) in
    let sound = subst (λ (q : ProgramView). AreSound q.records q.globals q.locals q.texts) c.self.view_is
    c.self.invariant.0.numbers.sound in
    (section_sound p.records p.globals p.locals p.texts c.args.number (section_shown c.unwrap.result) sound here).0

pub returns-clause-sound : goal.returns-clause-sound
returns-clause-sound c =
    let p = c.args.self.now in
    let texts = ap (λ (p : ProgramView). p.texts) c.self.view_is in
    let f = found p.texts c.args.number c.find.result (subst (AllNumbered 0) texts c.self.invariant.0.numbers.numbered)
    (c.find.ensures ∙ ap (section_from c.args.number 0) (c.as_slice.ensures.value ∙ texts)) c.requires in
    let here : slice_get (sections_of p.texts) c.args.number ≡ Some (section_shown c.unwrap.result) =
    cc (f.1, f.2, c.unwrap.ensures) in
    let sound = subst (λ (q : ProgramView). AreSound q.records q.globals q.locals q.texts) c.self.view_is
    c.self.invariant.0.numbers.sound in
    (section_sound p.records p.globals p.locals p.texts c.args.number (section_shown c.unwrap.result) sound here).1
