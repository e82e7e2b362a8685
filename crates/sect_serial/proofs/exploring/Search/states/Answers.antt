use Rattle.std.proofs.Common.{◌≡◌, sym, subst, arith, inl, inr, ℕ, List, []}
use Rattle.std.proofs.{lemmas.Bool.{cases_lt}, lemmas.Option.{slice_get_within}}
use Rattle.sect_types.specs.Whole.{RunView, begun}
use Rattle.sect_serial.specs.{Exploring.{IsBefore}, steps.States.{AreStates, GoesOn, IsKeptBy}}
use Rattle.sect_serial.proofs.StateLemmas.{none_states, begun_leads, states_keep, kept_is_there, grows_kept, grows_on}
use Rattle.sect_serial.proofs.AheadLemmas.{first_ahead, none_behind}
use Rattle.sect_serial.proofs.exploring.Search.states.Goals as goal

pub keep-requires-clause-leads : goal.keep-requires-clause-leads
keep-requires-clause-leads c =
    let p = c.args.self.now.program.now in
    begun_leads p c.args.self.now.fuel c.new.result c.in_ok-run.run' c.new.ensures c.in_ok-run.ensures.begun
    c.in_ok-run.ensures.ready c.in_ok-run.ensures.many

pub keep-requires-clause-states : goal.keep-requires-clause-states
keep-requires-clause-states c =
    let s = c.args.self.now in
    subst (AreStates s.program.now s.fuel s.most) (sym c.new-states.ensures) (none_states s.program.now s.fuel s.most)

pub places-init : goal.places-init
places-init c =
    let p = c.args.self.now.program.now in
    let fuel = c.args.self.now.fuel in
    let most = c.args.self.now.most in
    let es = c.new-states.result in
    let o = c.new.result in
    let r = c.in_ok-run.run' in
    let fs = c.keep.new.states in
    let none : AreStates p fuel most es =
    subst (AreStates p fuel most) (sym c.new-states.ensures) (none_states p fuel most) in
    let led = begun_leads p fuel o r c.new.ensures c.in_ok-run.ensures.begun c.in_ok-run.ensures.ready
    c.in_ok-run.ensures.many in
    let kept = c.in_ok-keep.ensures in
    let behind = none_behind es o c.new-states.ensures in
    record {
      states = states_keep p fuel most es fs r o none led behind kept;
      first = subst (IsKeptBy fs (begun p fuel)) c.new.ensures
          (subst (λ x. IsKeptBy fs x o) c.in_ok-run.ensures.begun (kept_is_there most es fs r o behind kept));
      followed = λ n lt. absurd (omega (arith, lt));
      ahead = first_ahead most r o es fs c.new-states.ensures c.new.ensures kept;
    }

pub places-preserved : goal.places-preserved
places-preserved c =
    let p = c.args.self.now.program.now in
    let fuel = c.args.self.now.fuel in
    let es = c.places.states in
    let n = c.places.place in
    let fs = c.follow.new.states in
    let i = c.places.invariant in
    let long = c.len.ensures in
    let test = c.places-test.true in
    let done = c.in_ok-follow.ensures in
    record {
      states = done.states;
      first = grows_kept es fs (begun p fuel) [] done.grown i.first;
      followed = λ m lt t. elim (cases_lt m n) [
        | inl less ↦ grows_on p es fs m t done.grown (omega (arith, less, long, test)) (i.followed m less t)
        | inr more ↦ subst (λ (k : ℕ). GoesOn p fs k t) (let e : n ≡ m = omega (arith, lt, more) in e) (done.followed t)
      ];
      ahead = done.ahead;
    }

pub returns : goal.returns
returns c =
    let es = c.places.states in
    let i = c.places.invariant in
    let long = c.len.ensures in
    let test = c.places-test.false in
    record {
      states = i.states;
      first = i.first;
      closed = λ n t. λ e r at ran.
          i.followed n (let lt = slice_get_within es n e at in omega (arith, lt, long, test)) t e r at ran;
    }
