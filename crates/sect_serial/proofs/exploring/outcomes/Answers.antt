use Rattle.std.proofs.Common.{sym, subst, arith}
use Rattle.sect_serial.specs.Exploring.{Explores, HasStates}
use Rattle.sect_serial.proofs.StateLemmas.{all_outcomes, all_states}
use Rattle.sect_serial.proofs.exploring.outcomes.Goals as goal

pub returns : goal.returns
returns c =
    let p = c.args.program.now in
    let fuel = c.args.fuel in
    let most = c.args.most in
    let es = c.in_ok-states.states in
    let all = c.in_ok-states.ensures in
    let found = c.in_ok-ends.ends in
    let few = all.states.few in
    let count = c.len.ensures in
    subst (Explores p fuel most) (sym c.new.ensures) (record {
      outcomes = all_outcomes p fuel most es found all c.in_ok-ends.ensures;
      states = subst (HasStates p fuel) (sym count) (all_states p fuel most es all);
      few = omega (arith, few, count);
    })
