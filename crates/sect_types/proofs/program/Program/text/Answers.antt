use Rattle.std.proofs.{Common.{◌<◌, ap, sym, ◌∙◌, subst, length, Some, arith}, lemmas.Option.{slice_get-get_or}}
use Rattle.std.specs.Prelude.{slice_get}
use Rattle.sect_types.specs.{Sound.{AreSound}, Programs.{ProgramView}}
use Rattle.sect_types.proofs.SectionSound.{text_sound}
use Rattle.sect_types.proofs.program.Program.text.Goals as goal

pub returns-clause-sound : goal.returns-clause-sound
returns-clause-sound c =
    let p = c.args.self.now in
    let sound : AreSound p.records p.globals p.locals p.texts =
    subst (λ (q : ProgramView). AreSound q.records q.globals q.locals q.texts) c.self.view_is
    c.self.invariant.0.numbers.sound in
    let texts = ap (λ (q : ProgramView). q.texts) c.self.view_is in
    let within : c.args.thread < length c.self.inside.texts.items = omega (arith, ap length texts, c.requires) in
    let at = slice_get-get_or c.self.inside.texts.items c.args.thread c.index.result.now within
    ∙ ap Some (sym c.index.ensures) in
    text_sound p.records p.globals p.locals p.texts c.args.thread c.index.result.now sound
    (ap (λ ts. slice_get ts c.args.thread) (sym texts) ∙ at)
