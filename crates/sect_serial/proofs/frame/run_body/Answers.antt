use Rattle.std.proofs.Common.{◌≡◌, ap, sym, ◌∙◌, subst, None, true}
use Rattle.sect_lemmas.proofs.Options.{not_some}
use Rattle.sect_types.specs.{Programs.{environment_at}, Sound.{IsSound}, Meaning.{found_at, looks}}
use Rattle.sect_serial.specs.steps.Moves.{Stepped}
use Rattle.sect_serial.proofs.SoundLemmas.{sound_stepped, left_stepped, left_now}
use Rattle.sect_serial.proofs.frame.run_body.Goals as goal

pub steps-preserved : goal.steps-preserved
steps-preserved c =
    let p = c.args.program.now in
    let t = c.args.thread in
    let k = c.steps.rest in
    let w = c.steps.work in
    let s = c.steps.store in
    let e = environment_at p t in
    let none : c.in_ok-fault.fault ≡ None =
    not_some c.in_ok-fault.fault (sym c.is_some-in-steps.ensures ∙ c.if-is_some.false) in
    record {
      sound =
          subst (IsSound e true) (sym (ap (λ (x : Stepped). x.text) c.in_ok-fault.ensures))
          (sound_stepped e true p t k (found_at s (looks k w)) w s c.steps.invariant.sound);
      same =
          sym (left_stepped p t k w s c.step.new.rest c.step.new.work c.step.new.store c.in_ok-fault.fault
          c.in_ok-fault.ensures ∙ ap (left_now p t c.step.new.rest c.step.new.work c.step.new.store) none)
          ∙ c.steps.invariant.same;
    }
