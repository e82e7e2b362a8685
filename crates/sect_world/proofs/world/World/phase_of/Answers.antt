-- A runner's phase says where its thread is.
use Rattle.std.proofs.{Common.{◌≡◌, ◌<◌, length, refl, sym, subst, arith}, lemmas.Option.{slice_get_read}}
use Rattle.sect_emit.specs.State.{ThreadState, IsThread}
use Rattle.sect_world.specs.{Worlds.{WorldView}, Viewing.{position_of, IsSited}}
use Rattle.sect_world.proofs.Viewing.{runner_there, place_of}
use Rattle.sect_world.proofs.world.World.phase_of.Goals as goal

pub index-requires : goal.index-requires
index-requires c =
    let there = subst (λ (z : WorldView). c.args.thread < length z.state.threads) (sym c.self.view_is) c.requires in
    omega (arith, runner_there _ _ _ _ _ _ _ _ c.self.invariant.0 c.args.thread there, c.self.inside.moment.runners.ok)

pub returns-clause-place : goal.returns-clause-place
returns-clause-place c =
    let there = subst (λ (z : WorldView). c.args.thread < length z.state.threads) (sym c.self.view_is) c.requires in
    let r = c.index.result.now in
    let at = slice_get_read c.self.inside.moment.runners.items _ c.args.thread r refl
    (runner_there _ _ _ _ _ _ _ _ c.self.invariant.0 c.args.thread there) c.index.ensures in
    subst (λ (z : WorldView). (th : ThreadState) × IsThread z.state c.args.thread th
    × (th.position ≡ position_of z.compiled r.phase)) c.self.view_is
    (place_of _ _ _ _ _ _ _ _ c.self.invariant.0 c.args.thread r at)

pub returns-clause-sited : goal.returns-clause-sited
returns-clause-sited c =
    let there = subst (λ (z : WorldView). c.args.thread < length z.state.threads) (sym c.self.view_is) c.requires in
    let r = c.index.result.now in
    let at = slice_get_read c.self.inside.moment.runners.items _ c.args.thread r refl
    (runner_there _ _ _ _ _ _ _ _ c.self.invariant.0 c.args.thread there) c.index.ensures in
    subst (λ (z : WorldView). IsSited z.compiled r.phase) c.self.view_is (c.self.invariant.0.sited c.args.thread r at)
