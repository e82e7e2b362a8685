-- The stretch outside sections is added.
use Rattle.std.proofs.{Common.{◌<◌, ◌∙◌, length, refl, sym, ap, subst, arith}, lemmas.Option.{slice_get_read}}
use Rattle.sect_world.specs.{Worlds.{WorldView}, Locals.{IsLocalStretch, locals_of}}
use Rattle.sect_world.proofs.{Viewing.{runner_there, still_room}, Committing.{AddsInto, committed_outside}}
use Rattle.sect_world.proofs.world.World.commit_local.Goals as goal

pub index-requires : goal.index-requires
index-requires c =
    let t = c.args.stretch.now.thread in
    let there = subst (λ (z : WorldView). t < length z.state.threads) (sym c.self.view_is) c.requires.thread in
    omega (arith, runner_there _ _ _ _ _ _ _ _ c.self.invariant.0 t there, c.self.inside.moment.runners.ok)

pub go_to-requires : goal.go_to-requires
go_to-requires c =
    let t = c.args.stretch.now.thread in
    let there = subst (λ (z : WorldView). t < length z.state.threads) (sym c.self.view_is) c.requires.thread in
    omega (arith, runner_there _ _ _ _ _ _ _ _ c.self.invariant.0 t there, c.self.inside.moment.runners.ok)

added : (c : goal.After-clear)
    → AddsInto c.self.inside.compiled.now c.self.inside.moment.fuel
    (locals_of c.args.stretch.now.steps c.args.stretch.now.thread) c.self.inside.moment.trace.items
    c.self.inside.moment.order.items c.self.inside.moment.store
    c.self.inside.moment.output.items c.self.inside.moment.runners.items c.self.inside.moment.table
    c.self.inside.moment.let_in.granted.items c.push_many.new.self.items c.self.inside.moment.store
    c.go_to.new.runners.items c.clear.new.self.items
added c =
    let l = c.args.stretch.now in
    let m = c.self.inside.moment in
    let there = subst (λ (z : WorldView). c.args.stretch.now.thread < length z.state.threads) (sym c.self.view_is)
    c.requires.thread in
    let local = subst (λ (z : WorldView). IsLocalStretch z.compiled c.args.stretch.now) (sym c.self.view_is)
    c.requires.stretch in
    let r = c.index.result.now in
    let at = slice_get_read c.self.inside.moment.runners.items _ c.args.stretch.now.thread c.index.result.now refl
    (runner_there _ _ _ _ _ _ _ _ c.self.invariant.0 c.args.stretch.now.thread there) c.index.ensures in
    let stands = c.stands_outside.ensures in
    committed_outside _ _ _ _ _ _ _ _ c.self.invariant.0 l local r at (stands.phase c.if-not-stands_outside.false)
    (stands.node c.if-not-stands_outside.false) (stands.alive c.if-not-stands_outside.false)
    (stands.work c.if-not-stands_outside.false) m.let_in.granted.items _ _ _ _ c.in_ok-work.work
    c.in_ok-reserve.ensures.items c.push_many.ensures (c.go_to.ensures r at) c.in_ok-work.ensures c.clear.ensures.items

pub invariant_of-self-2 : goal.invariant_of-self-2
invariant_of-self-2 c = (
  (added c).world,
  still_room _ _ _ _ _ _ _ _ c.self.invariant.0.as_many_held (added c).world.as_many_held refl
      c.clear.ensures.capacity c.self.invariant.1,
  c.self.invariant.2,
)

pub returns-clause-ok : goal.returns-clause-ok
returns-clause-ok c = rw (← c.self.view_is) (added c).added
