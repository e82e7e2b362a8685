-- What the turns so far have led to, and that they have left sections in this order.
use Rattle.std.proofs.Common.{true≢false, ◌≡◌, ◌∙◌, ◌≤◌, ◌<◌, ℕ, List, Bool, true, length, get_or, refl, sym, ap}
use Rattle.std.proofs.{Common.{subst, arith}, lemmas.Bool.Decides.{Decides-eqb}}
use Rattle.std.specs.Prelude.{nat_eq, IsSome}
use Rattle.sect_lemmas.proofs.Results.{given}
use Rattle.sect_types.specs.Whole.{begun}
use Rattle.sect_emit.specs.Compiled.{program_of}
use Rattle.sect_world.specs.{Kept.{IsWellKept}, Schedules.{IsUnrun}, Worlds.{WorldView, IsRefused, first_world}}
use Rattle.sect_world.proofs.shared.Unrun.{unrun}
use Rattle.sect_draw.specs.{Chart.{nothing_noted}, Placing.{AreThere}, steps.Turning.{kept_shown}}
use Rattle.sect_draw.proofs.{Going.{goes_nowhere, goes_then, ran_so}, OnItsWay.{rests_so}}
use Rattle.sect_draw.proofs.Ordered.{none_through, one_through, next_there, none_behind, one_behind, all_behind}
use Rattle.sect_draw.proofs.Ordered.{within_more, only_memory, memory_gives}
use Rattle.sect_draw.proofs.noting.ran_in_order.Goals.{else-all_ended-via-then-all_ended+else-eq}
use Rattle.sect_draw.proofs.noting.ran_in_order.Goals.{else-all_ended-via-else-all_ended}
use Rattle.sect_draw.proofs.noting.ran_in_order.Goals as goal
use Rattle.std.specs.Cmp.Lexicographic.{pointwise, pointwise_decides}

same : (a b : List ℕ) (r : Bool) → r ≡ pointwise nat_eq a b → r ≡ true → a ≡ b
same a b r is e = (pointwise_decides Decides-eqb a b).0 (sym is ∙ e)

pub loop-thread-init : goal.loop-thread-init
loop-thread-init c =
    let v = c.args.compiled.now in
    let w = c.in_ok-world.world in
    let is = c.in_ok-world.ensures in
    record {
      within = λ z none. absurd none;
      gone = goes_nowhere (first_world v c.args.fuel) w (nothing_noted (length (program_of v).texts))
          (kept_shown c.in_ok-kept.kept) is
          (c.in_ok-kept.ensures.noted
          ∙ ap (λ (x : WorldView). nothing_noted (length (program_of x.compiled).texts)) is);
      there = c.in_ok-kept.ensures.there;
      rests = rests_so w.state (begun (program_of v) c.args.fuel) (ap (λ (x : WorldView). x.state) is);
      through = none_through v c.args.fuel c.args.order.now w is;
    }

pub loop-thread-preserved : goal.loop-thread-preserved
loop-thread-preserved c =
    let v = c.args.compiled.now in
    let order = c.args.order.now in
    let w = c.loop-thread.world in
    let inv = c.loop-thread.invariant in
    let goes = c.in_ok-run_on.ensures.through in
    record {
      gone = goes_then (first_world v c.args.fuel) w c.run_on.new.world
          (nothing_noted (length (program_of v).texts)) (kept_shown c.loop-thread.kept)
          (kept_shown c.run_on.new.kept) inv.gone c.in_ok-run_on.ensures.led;
      there = c.in_ok-run_on.ensures.there;
      rests = rests_so c.run_on.new.world.state _ goes.rests;
      within = within_more order c.loop-thread.thread-index (length (program_of v).texts) c.loop-thread-test.true
          inv.within (subst (λ z. get_or order c.loop-thread.thread-index 0 < length (program_of z).texts)
          inv.gone.compiled c.in_ok-run_on.ensures.within);
      through = one_through (program_of v) c.args.fuel order c.loop-thread.thread-index w
          c.run_on.new.world inv.through c.loop-thread-test.true (ap program_of inv.gone.compiled) goes;
    }

pub loop-thread-2-init : goal.loop-thread-2-init
loop-thread-2-init c =
    let inv = c.loop-thread.invariant in
    record {
      gone = inv.gone;
      there = inv.there;
      rests = inv.rests;
      behind = none_behind (program_of c.args.compiled.now) c.args.fuel c.args.order.now c.loop-thread.thread-index
          c.loop-thread.world inv.rests inv.through
          (omega (arith, c.loop-thread-test.false, c.loop-thread.auto.thread-index-end));
    }

pub loop-thread-2-preserved : goal.loop-thread-2-preserved
loop-thread-2-preserved c =
    let v = c.args.compiled.now in
    let w = c.loop-thread-2.world in
    let inv = c.loop-thread-2.invariant in
    let goes = c.in_ok-run_on-2.ensures.through in
    record {
      gone = goes_then (first_world v c.args.fuel) w c.run_on-in-loop-thread-2.new.world
          (nothing_noted (length (program_of v).texts)) (kept_shown c.loop-thread-2.kept)
          (kept_shown c.run_on-in-loop-thread-2.new.kept) inv.gone c.in_ok-run_on-2.ensures.led;
      there = c.in_ok-run_on-2.ensures.there;
      rests = rests_so c.run_on-in-loop-thread-2.new.world.state _ goes.rests;
      behind = one_behind (program_of v) c.args.fuel c.args.order.now c.loop-thread-2.thread w
          c.run_on-in-loop-thread-2.new.world inv.behind (ap program_of inv.gone.compiled) goes;
    }

pub returns-then-eq-clause-answers : goal.returns-then-eq-clause-answers
returns-then-eq-clause-answers c =
    let world = c.loop-thread-2.world in
    let kept = c.loop-thread-2.kept in
    let gone = c.loop-thread-2.invariant.gone in (
      ran_so c.args.compiled.now c.args.fuel c.args.order.now world (kept_shown kept) kept.ran.items gone
          (c.all_ended.ensures.0 c.if-all_ended.true) c.facts-2.ensures.order
          (sym c.order.ensures ∙ same c.order.result.now c.args.order.now c.eq.result c.eq.ensures c.if-eq.true) refl,
      subst (λ z. AreThere z kept.ran.items) gone.compiled c.loop-thread-2.invariant.there,
    )

-- an entry of the order that is no thread, where whole sections in this order come to an end
pub returns-in_err-run_on-clause-found : goal.returns-in_err-run_on-clause-found
returns-in_err-run_on-clause-found c = λ end whole.
    let p = program_of c.args.compiled.now in
    let w = c.loop-thread.world in
    let order = c.args.order.now in
    let i = c.loop-thread.thread-index in
    let kept : IsWellKept w.compiled w.state =
    c.states_are_well_kept.ensures.kept w.compiled c.facts.ensures.compiled w.fuel w.trace w.state
    c.facts.ensures.run in
    let there = subst (λ n. get_or order i 0 < n) kept.as_many
    (next_there p c.args.fuel order i w c.loop-thread.invariant.through c.loop-thread-test.true whole.0 whole.1) in
    let fault = c.in_err-run_on.field-0.0 in
    memory_gives c.from_residual-in_err-run_on.result (λ found. IsSome found) fault
    (only_memory fault (get_or order i 0) (length (program_of w.compiled).texts) there
    c.in_err-run_on.ensures.refused) c.from_residual-in_err-run_on.ensures.1

pub returns-in_err-run_on-clause-refuses : goal.returns-in_err-run_on-clause-refuses
returns-in_err-run_on-clause-refuses c =
    let inv = c.loop-thread.invariant in
    let order = c.args.order.now in
    let i = c.loop-thread.thread-index in
    let t = get_or order i 0 in
    let fault = c.in_err-run_on.field-0.0 in
    let count = length (program_of c.args.compiled.now).texts in
    given c.from_residual-in_err-run_on.result (λ why. IsUnrun why order count) fault
    (unrun fault order i count c.loop-thread-test.true inv.within
    (subst (λ z. IsRefused fault t (length (program_of z).texts)) inv.gone.compiled c.in_err-run_on.ensures.refused))
    c.from_residual-in_err-run_on.ensures.1

-- where whole sections come to an end, all threads have ended, and have left sections in this order
pub returns-clause-found : goal.returns-clause-found
returns-clause-found c = λ end whole.
    let p = program_of c.args.compiled.now in
    let w = c.loop-thread-2.world in
    let order = c.args.order.now in
    let n = c.loop-thread-2.thread in
    let inv = c.loop-thread-2.invariant in
    let kept : IsWellKept w.compiled w.state =
    c.states_are_well_kept.ensures.kept w.compiled c.facts-2.ensures.compiled w.fuel w.trace w.state
    c.facts-2.ensures.run in
    let texts : length (program_of w.compiled).texts ≡ c.thread_count-thread-end.result =
    ap (λ z. length (program_of z).texts) (inv.gone.compiled ∙ sym c.loop-thread.invariant.gone.compiled)
    ∙ sym c.thread_count-thread-end.ensures.texts in
    let few : length w.state.threads ≤ n =
    omega (arith, kept.as_many, texts, c.loop-thread-2-test.false, c.loop-thread-2.auto.thread-end) in
    let come = all_behind p c.args.fuel order n w inv.behind few end whole in
    absurd (elim c.else-all_ended.branch [
      | else-all_ended-via-then-all_ended+else-eq e ↦
          true≢false (sym (e.eq.ensures ∙ (pointwise_decides Decides-eqb e.order.result.now order).1
          (e.order.ensures ∙ (c.facts-2.ensures.order ∙ come.1))) ∙ e.if-eq.false)
      | else-all_ended-via-else-all_ended e ↦ true≢false (sym (c.all_ended.ensures.1 come.0) ∙ e.if-all_ended.false)
    ])
