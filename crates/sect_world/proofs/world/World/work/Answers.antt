-- A runner knows what its thread works with.
use Rattle.std.proofs.{Common.{◌≡◌, ◌<◌, length, refl, sym, subst, arith}, lemmas.Option.{slice_get_read}}
use Rattle.sect_world.specs.{Sights.{work_of}, Worlds.{WorldView}}
use Rattle.sect_world.proofs.{Viewing.{runner_there}, Stands.{works_so}}
use Rattle.sect_world.proofs.world.World.work.Goals as goal

pub index-requires : goal.index-requires
index-requires c =
    let there = subst (λ (z : WorldView). c.args.thread < length z.state.threads) (sym c.self.view_is) c.requires in
    omega (arith, runner_there _ _ _ _ _ _ _ _ c.self.invariant.0 c.args.thread there, c.self.inside.moment.runners.ok)

pub returns : goal.returns
returns c =
    let there = subst (λ (z : WorldView). c.args.thread < length z.state.threads) (sym c.self.view_is) c.requires in
    let r = c.index.result.now in
    let at = slice_get_read c.self.inside.moment.runners.items _ c.args.thread r refl
    (runner_there _ _ _ _ _ _ _ _ c.self.invariant.0 c.args.thread there) c.index.ensures in
    subst (λ (z : WorldView). r.work ≡ work_of z.state c.args.thread) c.self.view_is
    (works_so _ _ _ _ _ _ _ _ c.self.invariant.0 c.args.thread r at)
