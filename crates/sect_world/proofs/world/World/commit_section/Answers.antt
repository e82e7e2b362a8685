-- The stretch is added.
use Rattle.std.proofs.{Common.{◌<◌, ◌∙◌, length, refl, sym, ap, subst, arith}, lemmas.Option.{slice_get_read}}
use Rattle.sect_store.specs.Parts.{written}
use Rattle.sect_world.specs.{Worlds.{WorldView}, Acting.{IsApart, acts_of}}
use Rattle.sect_world.proofs.{Viewing.{runner_there, still_room}, Committing.{AddsInto, committed}}
use Rattle.sect_world.proofs.world.World.commit_section.Goals as goal

pub index-requires : goal.index-requires
index-requires c =
    let t = c.args.apart.now.thread in
    let there = subst (λ (z : WorldView). t < length z.state.threads) (sym c.self.view_is) c.requires.thread in
    omega (arith, runner_there _ _ _ _ _ _ _ _ c.self.invariant.0 t there, c.self.inside.moment.runners.ok)

pub take_place-requires : goal.take_place-requires
take_place-requires c =
    let t = c.args.apart.now.thread in
    let there = subst (λ (z : WorldView). t < length z.state.threads) (sym c.self.view_is) c.requires.thread in
    omega (arith, runner_there _ _ _ _ _ _ _ _ c.self.invariant.0 t there, c.self.inside.moment.runners.ok)

added : (c : goal.After-clear)
    → AddsInto c.self.inside.compiled.now c.self.inside.moment.fuel
    (acts_of c.args.apart.now.acts c.args.apart.now.thread) c.self.inside.moment.trace.items
    c.self.inside.moment.order.items c.self.inside.moment.store
    c.self.inside.moment.output.items c.self.inside.moment.runners.items c.self.inside.moment.table
    c.self.inside.moment.let_in.granted.items c.push_many.new.self.items c.write_all.new.self
    c.take_place.new.runners.items c.clear.new.self.items
added c =
    let a = c.args.apart.now in
    let m = c.self.inside.moment in
    let there = subst (λ (z : WorldView). c.args.apart.now.thread < length z.state.threads) (sym c.self.view_is)
    c.requires.thread in
    let apart = subst (λ (z : WorldView). IsApart z.compiled c.args.apart.now) (sym c.self.view_is) c.requires.apart in
    let r = c.index.result.now in
    let at = slice_get_read c.self.inside.moment.runners.items _ c.args.apart.now.thread c.index.result.now refl
    (runner_there _ _ _ _ _ _ _ _ c.self.invariant.0 c.args.apart.now.thread there) c.index.ensures in
    committed _ _ _ _ _ _ _ _ c.self.invariant.0 a apart r at (c.stands.ensures.phase c.if-not-stands.false)
    (c.stands.ensures.work c.if-not-stands.false) (c.stands.ensures.known c.if-not-stands.false)
    m.let_in.granted.items _ _ _ _ _ c.in_ok-work.work c.in_ok-reserve.ensures.items c.push_many.ensures
    (c.write_all.ensures ∙ ap (written m.store) c.as_slice.ensures.value) (c.take_place.ensures r at)
    c.in_ok-work.ensures c.clear.ensures.items

pub invariant_of-self-2 : goal.invariant_of-self-2
invariant_of-self-2 c = (
  (added c).world,
  still_room _ _ _ _ _ _ _ _ c.self.invariant.0.as_many_held (added c).world.as_many_held refl
      c.clear.ensures.capacity c.self.invariant.1,
  c.self.invariant.2,
)

pub returns-clause-ok : goal.returns-clause-ok
returns-clause-ok c = rw (← c.self.view_is) (added c).added
