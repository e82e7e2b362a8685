use Rattle.std.proofs.lemmas.Grind.{common_steps}
use Rattle.std.proofs.Common.{◌≡◌, ◌<◌, ◌+◌, ◌-◌, length, get_or, subst, sym, arith}
use Rattle.std.proofs.lemmas.List.{get_or_read}
use Rattle.sect_endings.specs.steps.Walking.{IsSeen}
use Rattle.sect_endings.proofs.{Walks.{running_begun, running_on, round_seen}, Marked.{in_there}}
use Rattle.sect_endings.proofs.rounds.round_of.Goals as goal

pub round-init : goal.round-init
round-init c = running_begun c.args.graph.now c.args.within.now c.args.threads c.args.run.state c.args.run.order.items
    c.resize.new.self.items c.requires.inside c.requires.there
    (grind (arith, common_steps, c.in_ok-resize.ensures.items, c.new-seen.ensures.items, c.states.ensures))

pub round-preserved : goal.round-preserved
round-preserved c = running_on c.args.graph.now c.args.within.now c.args.threads c.args.run.state c.round.run.state
    c.circle.new.run.state (c.len.result + 1) c.round.run.order.items c.circle.new.run.order.items c.round.seen.items
    c.round.invariant c.requires.size c.in_ok-circle.ensures (omega arith)

pub cut-requires : goal.cut-requires
cut-requires c =
    let seen = c.round.seen.items in
    let s = c.round.run.state in
    let there : s < length seen = (let i = in_there c.args.within.now s c.round.invariant.inside in
    omega (arith, c.requires.size, c.round.invariant.size)) in
    let first : c.index.result.now ≡ get_or seen s 0 = get_or_read seen s c.index.result.now there c.index.ensures 0 in
    let at : c.index-2.result.now ≡ get_or seen s 0 =
    get_or_read seen s c.index-2.result.now there c.index-2.ensures 0 in
    let place = c.round.invariant.seen_at s (omega (arith, c.round-test.false)) in
    omega (arith, place.inside)

pub returns : goal.returns
returns c =
    let seen = c.round.seen.items in
    let s = c.round.run.state in
    let there : s < length seen = (let i = in_there c.args.within.now s c.round.invariant.inside in
    omega (arith, c.requires.size, c.round.invariant.size)) in
    let first : c.index.result.now ≡ get_or seen s 0 = get_or_read seen s c.index.result.now there c.index.ensures 0 in
    let at : c.index-2.result.now ≡ get_or seen s 0 =
    get_or_read seen s c.index-2.result.now there c.index-2.ensures 0 in
    let place = c.round.invariant.seen_at s (omega (arith, c.round-test.false)) in (
      s,
      round_seen c.args.graph.now c.args.threads c.args.run.state s (c.index-2.result.now - 1)
          c.round.run.order.items c.in_ok-round.round.before.items c.in_ok-round.round.round.items
          (subst (λ k. IsSeen c.args.graph.now c.args.threads c.args.run.state c.round.run.order.items s (k - 1) s)
          (sym at)
          place) c.in_ok-round.ensures.before c.in_ok-round.ensures.round,
    )
