-- The turns so far are those of a beginning of the schedule.
use Rattle.std.proofs.Common.{◌≡◌, ◌≤◌, ◌+◌, [], ◌∷◌, ◌++◌, take, get_or, length, sym, ap, ◌∙◌, subst, arith}
use Rattle.std.proofs.{Common.{length-append}, lemmas.List.{take_more, length-take}}
use Rattle.std.specs.{Prelude.{option_map}}
use Rattle.sect_emit.specs.Compiled.{program_of}
use Rattle.sect_world.specs.Worlds.{IsRefused, WorldView}
use Rattle.sect_world.proofs.shared.Unrun.{unrun}
use Rattle.sect_draw.specs.{Chart.{heading, turn_row}}
use Rattle.sect_draw.specs.{Placing.{places_shown}, steps.Turning.{kept_shown}}
use Rattle.sect_draw.proofs.Charted.{SoFar, none_so_far, so_far_more}
use Rattle.sect_draw.proofs.charting.chart.Goals as goal

pub loop-number-init : goal.loop-number-init
loop-number-init c =
    let v = c.args.compiled.now in
    let world = c.in_ok-world.ensures in
    let row = c.in_ok-heading.field-0 in
    let told = c.in_ok-heading.ensures.row ∙ ap (λ (w : WorldView). heading (program_of w.compiled)) world in
    let as_many = ap (λ (w : WorldView). length (program_of w.compiled).texts) world in
    let many : length row.items ≡ 1 + length (program_of v).texts =
    omega (arith, c.in_ok-heading.ensures.count, as_many, row.ok) in
    let rows = c.push_reserved.ensures.items
    ∙ ap (λ rs. rs ++ row ∷ []) c.in_ok-rows.ensures.items in
    record {
      so = none_so_far v c.args.fuel (option_map places_shown c.args.places) c.in_ok-world.world
          (kept_shown c.in_ok-kept.kept) row c.push_reserved.new.self.items world c.in_ok-kept.ensures.noted rows told
          many;
      there = c.in_ok-kept.ensures.there;
      count = (let n = ap length rows in let k = c.push_reserved.new.self.ok in omega (arith, n, k));
      room = omega (arith, c.push_reserved.ensures.capacity, c.in_ok-rows.ensures.capacity);
    }

pub returns-in-Err-clause-refuses : goal.returns-in-Err-clause-refuses
returns-in-Err-clause-refuses c =
    let led = c.loop-number.invariant.so.led in
    let i = c.loop-number.number in
    let t = get_or c.args.schedule.now i 0 in
    unrun c.in-Err.fault c.args.schedule.now i _ c.loop-number-test.true led.within
    (subst (λ z. IsRefused c.in-Err.fault t (length (program_of z).texts)) led.gone.compiled c.in-Err.ensures.refused)

pub loop-number-preserved : goal.loop-number-preserved
loop-number-preserved c =
    let inv = c.loop-number.invariant in
    let v = option_map places_shown c.args.places in
    let schedule = c.args.schedule.now in
    let i = c.loop-number.number in
    let t = get_or schedule i 0 in
    let row = c.in-Ok.row in
    let charted = c.in-Ok.ensures.charted in
    let before : i ≡ length (take i schedule) = omega (arith, length-take i schedule, c.loop-number-test.true) in
    let told = charted.2 ∙ ap (λ n. turn_row c.loop-number.world.compiled v n charted.0) before in
    let many : length row.items ≡ 1 + length (program_of c.loop-number.world.compiled).texts =
    omega (arith, c.in-Ok.ensures.count, row.ok) in
    let more = ap length c.push_reserved-in-Ok.ensures.items ∙ length-append c.loop-number.rows.items (row ∷ []) in
    record {
      so = subst (λ ts. SoFar c.args.compiled.now c.args.fuel v ts c.charted_turn.new.world
          (kept_shown c.charted_turn.new.kept) c.push_reserved-in-Ok.new.self.items)
          (sym (take_more schedule i 0 c.loop-number-test.true))
          (so_far_more c.args.compiled.now c.args.fuel v (take i schedule) c.loop-number.world c.charted_turn.new.world
          (kept_shown c.loop-number.kept) (kept_shown c.charted_turn.new.kept) c.loop-number.rows.items
          c.push_reserved-in-Ok.new.self.items row t charted.0 inv.so charted.1 told many c.in-Ok.ensures.within
          c.push_reserved-in-Ok.ensures.items);
      there = c.in-Ok.ensures.there;
      count = (let k = c.push_reserved-in-Ok.new.self.ok in let m = c.loop-number.rows.ok in
          omega (arith, more, inv.count, k, m));
      room = subst (λ n. 1 + length schedule ≤ n) (sym c.push_reserved-in-Ok.ensures.capacity) inv.room;
    }
