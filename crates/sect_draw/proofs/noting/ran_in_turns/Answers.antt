-- The turns so far are those of a beginning of the schedule.
use Rattle.std.proofs.Common.{length, take, get_or, sym, subst}
use Rattle.std.proofs.lemmas.List.{take_more}
use Rattle.sect_emit.specs.Compiled.{program_of}
use Rattle.sect_world.specs.Worlds.{IsRefused}
use Rattle.sect_world.proofs.shared.Unrun.{unrun}
use Rattle.sect_draw.specs.steps.Turning.{kept_shown}
use Rattle.sect_draw.proofs.Charted.{Led, none_led, led_more}
use Rattle.sect_draw.proofs.noting.ran_in_turns.Goals as goal

pub loop-thread-init : goal.loop-thread-init
loop-thread-init c = record {
  led = none_led c.args.compiled.now c.args.fuel c.in_ok-world.world (kept_shown c.in_ok-kept.kept)
      c.in_ok-world.ensures c.in_ok-kept.ensures.noted;
  there = c.in_ok-kept.ensures.there;
}

pub returns-in-Err-clause-refuses : goal.returns-in-Err-clause-refuses
returns-in-Err-clause-refuses c =
    let led = c.loop-thread.invariant.led in
    let i = c.loop-thread.thread-index in
    let t = get_or c.args.schedule.now i 0 in
    unrun c.in-Err.fault c.args.schedule.now i _ c.loop-thread-test.true led.within
    (subst (λ z. IsRefused c.in-Err.fault t (length (program_of z).texts)) led.gone.compiled c.in-Err.ensures.refused)

pub loop-thread-preserved : goal.loop-thread-preserved
loop-thread-preserved c =
    let v = c.args.compiled.now in
    let schedule = c.args.schedule.now in
    let i = c.loop-thread.thread-index in
    let noted = c.in-Ok.ensures.noted in
    record {
      led = subst (λ ts. Led v c.args.fuel ts c.noted_turn.new.world (kept_shown c.noted_turn.new.kept))
          (sym (take_more schedule i 0 c.loop-thread-test.true))
          (led_more v c.args.fuel (take i schedule) c.loop-thread.world c.noted_turn.new.world
          (kept_shown c.loop-thread.kept) (kept_shown c.noted_turn.new.kept) (get_or schedule i 0) noted.0
          c.loop-thread.invariant.led noted.2 c.in-Ok.ensures.within);
      there = c.in-Ok.ensures.there;
    }
