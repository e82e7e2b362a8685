use Rattle.std.proofs.Common.{subst, sym}
use Rattle.sect_endings.specs.steps.Sets.{In}
use Rattle.sect_endings.proofs.Judging.{walk_state, fair_round, round_trapped}
use Rattle.sect_endings.proofs.verdict.verdict_of.Goals as goal

pub round_of-requires-clause-inside : goal.round_of-requires-clause-inside
round_of-requires-clause-inside c =
    let found = rw c.in-Some.is at c.in_ok-run.ensures in
    let s = c.in-Some.run'.state in
    subst (λ z. In z s) (sym c.deref-in-Some.ensures.value)
    (c.in_ok-fair.ensures.all.traps s (walk_state c.args.graph.now c.in-Some.run'.order.items 0 s c.requires found.0)
    found.1)

pub returns-in-Some : goal.returns-in-Some
returns-in-Some c =
    let found = rw c.in-Some.is at c.in_ok-run.ensures in
    let g = c.args.graph.now in
    let n = c.threads-in-Some.result in
    let r = c.in_ok-round.round in
    let told = c.in_ok-round.ensures in (
      told.0,
      told.1.there,
      fair_round g n c.in-Some.run'.state r.before.items r.round.items told.0
          c.threads-in-Some.ensures told.1,
      round_trapped g n c.in-Some.run'.state r.before.items r.round.items told.0 told.1 found.1,
    )

pub returns-then-has : goal.returns-then-has
returns-then-has c =
    let none = rw c.in_default.is at c.in_ok-run.ensures in
    let g = c.args.graph.now in
    let n = c.threads-then-has.result in
    let r = c.in_ok-round-2.round in
    let told = c.in_ok-round-2.ensures in
    (told.0, told.1.there, fair_round g n 0 r.before.items r.round.items told.0 c.threads-then-has.ensures told.1, none)
