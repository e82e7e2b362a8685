-- Each turn leads on, until the thread is through.
use Rattle.std.proofs.Common.{◌<◌, ◌∙◌, length, refl, sym, subst, true≢false}
use Rattle.sect_types.specs.Whole.{run_section}
use Rattle.sect_emit.specs.Compiled.{program_of}
use Rattle.sect_world.specs.{Kept.{IsWellKept}, Runs.{order_of}}
use Rattle.sect_draw.specs.{steps.Turning.{kept_shown}, steps.Resting.{run_of, left_by, gone_through}}
use Rattle.sect_draw.proofs.{Going.{goes_more, goes_nowhere}, OnItsWay.{sets_out}, Through.{led_through, led_nearer}}
use Rattle.sect_draw.proofs.noting.run_on.Goals as goal

pub turns-init : goal.turns-init
turns-init c =
    let old = c.args.world.now in
    record {
      gone = goes_nowhere old old (kept_shown c.args.kept.now) (kept_shown c.args.kept.now) refl refl;
      there = c.requires.there;
      order = refl;
      way = λ within. sets_out old.compiled c.args.thread old.state c.requires.rests within;
    }

pub turns-preserved : goal.turns-preserved
turns-preserved c =
    let t = c.args.thread in
    let old = c.args.world.now in
    let w = c.turns.world in
    let v = c.noted_turn.new.world in
    let r = run_of old.state in
    let section = run_section (program_of old.compiled) t r in
    let inv = c.turns.invariant in
    let noted = c.in-Ok.ensures.noted in
    let kept : IsWellKept w.compiled w.state =
    c.states_are_well_kept.ensures.kept w.compiled c.facts.ensures.compiled w.fuel w.trace w.state
    c.facts.ensures.run in
    let there : t < length w.state.threads = subst (λ n. t < n) (sym kept.as_many) c.in-Ok.ensures.within in
    let led = led_nearer old.compiled t (gone_through (program_of old.compiled) t r) (left_by t section) w v
    (kept_shown c.turns.kept) (kept_shown c.noted_turn.new.kept) noted.0 inv.gone.compiled noted.2 (inv.way there)
    kept c.in-Ok.made.turned noted.1.turned
    (λ last. true≢false (sym (c.is_last.ensures.1 last) ∙ c.if-is_last.false)) (order_of old.trace) inv.order in
    record {
      gone = goes_more old w v (kept_shown c.args.kept.now) (kept_shown c.turns.kept)
          (kept_shown c.noted_turn.new.kept) t noted.0 inv.gone noted.2;
      there = c.in-Ok.ensures.there;
      order = led.0;
      way = λ within. led.1;
    }

pub turns-smaller : goal.turns-smaller
turns-smaller c =
    let t = c.args.thread in
    let old = c.args.world.now in
    let w = c.turns.world in
    let v = c.noted_turn.new.world in
    let r = run_of old.state in
    let section = run_section (program_of old.compiled) t r in
    let inv = c.turns.invariant in
    let noted = c.in-Ok.ensures.noted in
    let kept : IsWellKept w.compiled w.state =
    c.states_are_well_kept.ensures.kept w.compiled c.facts.ensures.compiled w.fuel w.trace w.state
    c.facts.ensures.run in
    let there : t < length w.state.threads = subst (λ n. t < n) (sym kept.as_many) c.in-Ok.ensures.within in
    (led_nearer old.compiled t (gone_through (program_of old.compiled) t r) (left_by t section) w v
    (kept_shown c.turns.kept) (kept_shown c.noted_turn.new.kept) noted.0 inv.gone.compiled noted.2 (inv.way there)
    kept c.in-Ok.made.turned noted.1.turned
    (λ last. true≢false (sym (c.is_last.ensures.1 last) ∙ c.if-is_last.false)) (order_of old.trace) inv.order).2

pub returns-then-is_last-clause-led : goal.returns-then-is_last-clause-led
returns-then-is_last-clause-led c =
    goes_more c.args.world.now c.turns.world c.noted_turn.new.world (kept_shown c.args.kept.now)
    (kept_shown c.turns.kept) (kept_shown c.noted_turn.new.kept) c.args.thread c.in-Ok.ensures.noted.0
    c.turns.invariant.gone c.in-Ok.ensures.noted.2

pub returns-then-is_last-clause-through : goal.returns-then-is_last-clause-through
returns-then-is_last-clause-through c =
    let t = c.args.thread in
    let old = c.args.world.now in
    let w = c.turns.world in
    let v = c.noted_turn.new.world in
    let r = run_of old.state in
    let section = run_section (program_of old.compiled) t r in
    let inv = c.turns.invariant in
    let noted = c.in-Ok.ensures.noted in
    let kept : IsWellKept w.compiled w.state =
    c.states_are_well_kept.ensures.kept w.compiled c.facts.ensures.compiled w.fuel w.trace w.state
    c.facts.ensures.run in
    let there : t < length w.state.threads = subst (λ n. t < n) (sym kept.as_many) c.in-Ok.ensures.within in
    let led = led_through old.compiled t (gone_through (program_of old.compiled) t r) (left_by t section) w v
    (kept_shown c.turns.kept) (kept_shown c.noted_turn.new.kept) noted.0 inv.gone.compiled noted.2 (inv.way there)
    kept c.in-Ok.made.turned noted.1.turned (c.is_last.ensures.0 c.if-is_last.true) (order_of old.trace) inv.order in
    record { rests = led.0; order = led.1 }

pub returns-then-is_last-clause-within : goal.returns-then-is_last-clause-within
returns-then-is_last-clause-within c =
    subst (λ d. c.args.thread < length (program_of d).texts) c.turns.invariant.gone.compiled c.in-Ok.ensures.within
