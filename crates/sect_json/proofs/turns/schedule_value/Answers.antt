-- The turns so far are those of a beginning of the schedule.
use Rattle.std.proofs.Common.{◌≤◌, [], ◌∷◌, take, map, get_or, length, sym, ap, ◌∙◌, subst, arith}
use Rattle.std.proofs.{Common.{length-append}, lemmas.List.{take_all, take_more}}
use Rattle.serde_json.specs.View.{view}
use Rattle.sect_types.specs.Programs.{ProgramView}
use Rattle.sect_store.specs.Outcomes.{OutcomeView}
use Rattle.sect_names.specs.Schemes.{SchemeView}
use Rattle.sect_emit.specs.Compiled.{program_of}
use Rattle.sect_world.specs.{Runs.{order_of}, Worlds.{IsRefused, outcome_at}}
use Rattle.sect_world.proofs.shared.Unrun.{unrun}
use Rattle.sect_json.specs.{Outcomes.{outcome_json}, Turns.{turns_with, leavers}}
use Rattle.sect_json.proofs.Scheduled.{SoFar, none_so_far, so_far_more}
use Rattle.sect_json.proofs.turns.schedule_value.Goals as goal

pub loop-thread-init : goal.loop-thread-init
loop-thread-init c =
    let of = c.args.of.now in
    record {
      so = none_so_far of.compiled.now of.source.now of.spans.now c.args.fuel c.in_ok-world.world
          c.in_ok-turns.turns.items c.in_ok-world.ensures c.in_ok-turns.ensures.items;
      count = (let n = ap length c.in_ok-turns.ensures.items in let k = c.in_ok-turns.turns.ok in
          omega (arith, n, k));
      room = omega (arith, c.in_ok-turns.ensures.capacity);
    }

pub told_turn-requires-clause-printer : goal.told_turn-requires-clause-printer
told_turn-requires-clause-printer c =
    c.in_ok-printer.ensures ∙ (c.program.ensures ∙ ap (λ (s : SchemeView). s.program) c.scheme.ensures)

pub told_turn-requires-clause-compiled : goal.told_turn-requires-clause-compiled
told_turn-requires-clause-compiled c = c.loop-thread.invariant.so.compiled

pub returns-in-Err-clause-refuses : goal.returns-in-Err-clause-refuses
returns-in-Err-clause-refuses c =
    let so = c.loop-thread.invariant.so in
    let i = c.loop-thread.thread-index in
    let t = get_or c.args.schedule.now i 0 in
    unrun c.in-Err.fault c.args.schedule.now i _ c.loop-thread-test.true so.within
    (subst (λ z. IsRefused c.in-Err.fault t (length (program_of z).texts)) so.compiled c.in-Err.ensures.refused)

pub loop-thread-preserved : goal.loop-thread-preserved
loop-thread-preserved c =
    let of = c.args.of.now in
    let inv = c.loop-thread.invariant in
    let schedule = c.args.schedule.now in
    let i = c.loop-thread.thread-index in
    let t = get_or schedule i 0 in
    let turn = c.in-Ok.turn in
    let told = c.in-Ok.ensures.told in
    let more = ap length c.push_reserved.ensures.items ∙ length-append c.loop-thread.turns.items (turn ∷ []) in
    record {
      so = subst (λ ts. SoFar of.compiled.now of.source.now of.spans.now c.args.fuel ts c.told_turn.new.world
          c.push_reserved.new.self.items) (sym (take_more schedule i 0 c.loop-thread-test.true))
          (so_far_more of.compiled.now of.source.now of.spans.now c.args.fuel (take i schedule) c.loop-thread.world
          c.told_turn.new.world c.loop-thread.turns.items c.push_reserved.new.self.items turn t told.0 inv.so told.1
          told.2 c.in-Ok.ensures.within c.push_reserved.ensures.items);
      count = (let k = c.push_reserved.new.self.ok in let m = c.loop-thread.turns.ok in
          omega (arith, more, inv.count, k, m));
      room = subst (λ n. length schedule ≤ n) (sym c.push_reserved.ensures.capacity) inv.room;
    }

pub returns-clause-answers : goal.returns-clause-answers
returns-clause-answers c =
    let of = c.args.of.now in
    let schedule = c.args.schedule.now in
    let w = c.loop-thread.world in
    let so = subst (λ ts. SoFar of.compiled.now of.source.now of.spans.now c.args.fuel ts w c.loop-thread.turns.items)
    (take_all c.loop-thread.thread-index schedule c.loop-thread-test.false) c.loop-thread.invariant.so in
    let at_end = outcome_at w.state (leavers so.turns) in
    let program = c.in_ok-printer.ensures ∙ (c.program.ensures ∙ ap (λ (s : SchemeView). s.program) c.scheme.ensures) in
    let come = c.finish-run.ensures.outcome
    ∙ ap (outcome_at w.state) (c.facts.ensures.order ∙ ap order_of so.trace) in
    let outcome = c.in_ok-outcome.ensures
    ∙ (ap (λ (p : ProgramView). outcome_json p c.finish-run.result.outcome) program
    ∙ ap (λ (o : OutcomeView). outcome_json (program_of of.compiled.now) o) come) in
    record {
      turns = so.turns;
      threads = so.threads;
      state = w.state;
      lead = so.lead;
      told = c.in_ok-told_schedule.ensures
          ∙ (ap (λ o. turns_with o (map view c.loop-thread.turns.items)) outcome
          ∙ ap (turns_with (outcome_json (program_of of.compiled.now) at_end)) so.told);
    }
