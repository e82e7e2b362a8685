-- A runner knows what its thread wants.
use Rattle.std.proofs.{Common.{◌≡◌, sym, subst, arith}, lemmas.Bool.Decides.{Decides-ltb, not_from_Decides}}
use Rattle.sect_emit.specs.State.{ThreadState, IsThread, Entered}
use Rattle.sect_world.specs.{Worlds.{WorldView}, Waiting.{Asks}}
use Rattle.sect_world.proofs.{Viewing.{runs_here, read_here}, TurnPlaces.{asks_first, wants_none}}
use Rattle.sect_modes.specs.{declared.key.Key.{Key}, declared.mode.Mode.{Mode}}
use Rattle.sect_world.proofs.world.World.wants_more.Goals as goal

pub index-runner-requires : goal.index-runner-requires
index-runner-requires c =
    let h = subst (λ (z : WorldView). (th : ThreadState) × IsThread z.state c.args.thread th × (th.position ≡ Entered))
    (sym c.self.view_is) c.requires in
    omega (
      arith,
      (runs_here _ _ _ _ _ _ _ _ c.self.invariant.0 c.args.thread h.0 h.1).0,
      c.self.inside.moment.runners.ok,
    )

pub returns-clause-asks : goal.returns-clause-asks
returns-clause-asks c more =
    let h = subst (λ (z : WorldView). (th : ThreadState) × IsThread z.state c.args.thread th × (th.position ≡ Entered))
    (sym c.self.view_is) c.requires in
    let r = c.index-runner.result.now in
    let at = read_here _ _ _ _ _ _ _ _ c.self.invariant.0 c.args.thread h.0 h.1 r c.index-runner.ensures in
    subst (λ (z : WorldView). (k : Key) × (m : Mode) × Asks z.state c.args.thread k m) c.self.view_is
    (asks_first _ _ _ _ _ _ _ _ c.self.invariant.0 c.args.thread h.0 h.1 r at h.2
    (omega (arith, (Decides-ltb _ _).0 more, c.len.ensures, r.wanted.ok)))

pub returns-clause-none : goal.returns-clause-none
returns-clause-none c no_more th there =
    let here = subst (λ (z : WorldView). IsThread z.state c.args.thread th) (sym c.self.view_is) there in
    let r = c.index-runner.result.now in
    let at = read_here _ _ _ _ _ _ _ _ c.self.invariant.0 c.args.thread th here r c.index-runner.ensures in
    wants_none _ _ _ _ _ _ _ _ c.self.invariant.0 c.args.thread th here r at
    (omega (arith, not_from_Decides _ (Decides-ltb _ _) no_more, c.len.ensures, r.wanted.ok))
