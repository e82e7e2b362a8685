use Rattle.std.proofs.Common.{◌≡◌, ◌∙◌, ◌++◌, ◌∷◌, [], ap, sym, subst, arith, inl, inr, length, List, ℕ, Some, None}
use Rattle.std.proofs.{Common.{slice_get}, lemmas.Bool.{cases_lt}}
use Rattle.std.specs.Map.Iter.{deref_pair}
use Rattle.sect_lemmas.proofs.{Membership.{Has-slice_get}, Options.{none_or_some}}
use Rattle.sect_types.specs.Whole.{RunView, run_section}
use Rattle.sect_serial.specs.steps.Frames.{AreReady, RanSection}
use Rattle.sect_serial.proofs.StateLemmas.{no_thread, followed_none, followed_some, kept_leads, states_keep, grows_more}
use Rattle.sect_serial.proofs.{StateLemmas.{kept_grows, grows_none}, AheadLemmas.{behind_all, ahead_next, ahead_kept, later_kept}}
use Rattle.sect_serial.proofs.exploring.Search.follow.Goals.{then-branch+in_ok-push+in_ok-keep, else-branch}
use Rattle.sect_serial.proofs.exploring.Search.follow.Goals as goal

pub run_section-requires : goal.run_section-requires
run_section-requires c =
    let es = c.loop-thread.states in
    let e : RunView × List ℕ = deref_pair c.at.result in
    let led = c.loop-thread.invariant.states.led e (Has-slice_get es c.args.place e c.at.ensures) in
    subst (λ (r : RunView). AreReady c.args.self.now.program.now 0 r.frames) (sym c.in_ok-next.ensures) led.ready

pub keep-requires-clause-leads : goal.keep-requires-clause-leads
keep-requires-clause-leads c =
    let p = c.args.self.now.program.now in
    let t = c.loop-thread.thread in
    let e : RunView × List ℕ = deref_pair c.at.result in
    let led = c.loop-thread.invariant.states.led e (Has-slice_get c.loop-thread.states c.args.place e c.at.ensures) in
    let r = c.run_section.new.self in
    let ran : run_section p t e.0 ≡ Some r =
    ap (run_section p t) (sym c.in_ok-next.ensures)
    ∙ subst (λ b. RanSection p t c.in_ok-next.next b r) c.if-branch.true c.in_ok-run_section.ensures.ran in
    kept_leads p c.args.self.now.fuel t e r c.push.new.self led ran c.in_ok-run_section.ensures.ready
    (c.in_ok-run_section.ensures.many ∙ ap (λ (x : RunView). length x.frames) c.in_ok-next.ensures)
    (c.in_ok-push.ensures ∙ ap (λ (o : List ℕ). o ++ t ∷ []) c.in_ok-longer.ensures)

pub loop-thread-init : goal.loop-thread-init
loop-thread-init c = record {
  states = c.requires.states;
  grown = grows_none c.args.states.now;
  followed = λ t lt. absurd (omega (arith, lt));
  ahead = c.requires.ahead c.args.place (omega arith);
  later = λ k le. c.requires.ahead k (omega (arith, le));
}

pub loop-thread-preserved : goal.loop-thread-preserved
loop-thread-preserved c =
    let p = c.args.self.now.program.now in
    let fuel = c.args.self.now.fuel in
    let most = c.args.self.now.most in
    let t = c.loop-thread.thread in
    let es = c.loop-thread.states in
    let i = c.loop-thread.invariant in
    let e : RunView × List ℕ = deref_pair c.at.result in
    let at : slice_get es c.args.place ≡ Some e = c.at.ensures in
    let led = i.states.led e (Has-slice_get es c.args.place e at) in
    elim c.if-branch.branch [
      | then-branch+in_ok-push+in_ok-keep w ↦
          let r = c.run_section.new.self in
          let ran : run_section p t e.0 ≡ Some r =
          ap (run_section p t) (sym c.in_ok-next.ensures)
          ∙ subst (λ b. RanSection p t c.in_ok-next.next b r) w.if-branch.true c.in_ok-run_section.ensures.ran in
          let longer = w.push.new.self in
          let is : longer ≡ e.1 ++ t ∷ [] =
          w.in_ok-push.ensures ∙ ap (λ (o : List ℕ). o ++ t ∷ []) c.in_ok-longer.ensures in
          let many = c.in_ok-run_section.ensures.many
          ∙ ap (λ (x : RunView). length x.frames) c.in_ok-next.ensures in
          let new = kept_leads p fuel t e r longer led ran c.in_ok-run_section.ensures.ready many is in
          let kept = w.in_ok-keep.ensures in
          let behind = behind_all es c.args.place t e longer at is i.ahead in
          rw (w.states-is) (record {
            states = states_keep p fuel most es w.keep.new.states r longer i.states new behind kept;
            grown = grows_more c.args.states.now es w.keep.new.states i.grown
                (kept_grows most es w.keep.new.states r longer kept);
            followed = followed_some p most es w.keep.new.states c.args.place t e r longer i.followed at ran is
                i.ahead kept;
            ahead = ahead_kept es c.args.place t e longer at is i.ahead r most w.keep.new.states kept;
            later = later_kept es c.args.place t e longer at is i.ahead r most w.keep.new.states i.states.rising
                i.later kept;
          })
      | else-branch w ↦
          let none : run_section p t e.0 ≡ None =
          ap (run_section p t) (sym c.in_ok-next.ensures)
          ∙ subst (λ b. RanSection p t c.in_ok-next.next b c.run_section.new.self) w.if-branch.false
          c.in_ok-run_section.ensures.ran in
          rw (w.states-is) (record {
            states = i.states;
            grown = i.grown;
            followed = followed_none p es c.args.place t i.followed e at none;
            ahead = ahead_next es c.args.place t i.ahead;
            later = i.later;
          })
    ]

pub returns : goal.returns
returns c =
    let p = c.args.self.now.program.now in
    let es = c.loop-thread.states in
    let states = c.loop-thread.invariant.states in
    let count = c.thread_count-thread-end.ensures.count in
    let all = c.loop-thread-test.false in
    record {
      states = states;
      grown = c.loop-thread.invariant.grown;
      followed = λ t e r at ran. elim (cases_lt t c.loop-thread.thread) [
        | inl lt ↦ c.loop-thread.invariant.followed t lt e r at ran
        | inr ge ↦ absurd (none_or_some r (sym (no_thread p t e.0
            (let many = (states.led e (Has-slice_get es c.args.place e at)).many in
            omega (arith, many, count, all, ge))) ∙ ran))
      ];
      ahead = c.loop-thread.invariant.later;
    }
