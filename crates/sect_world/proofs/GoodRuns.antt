-- The states of runs are good, so accesses are held.
use Rattle.std.proofs.Common.{true, ◌≡◌, ℕ, List, [], ◌∷◌, ◌++◌, refl, sym, ap, ◌∙◌, subst}
use Rattle.sect_lemmas.proofs.Replaced.{slice_get-map}
use Rattle.sect_world.proofs.{LongerRuns.{run_on}, MetPlans.{beginnings_are_held}, KeptStates.{runs_are_well_kept}}
use Rattle.sect_world.proofs.{KeptPointed.{pointed_thread, stands_inside}, HeldAccesses.{next_access_is_held}}
use Rattle.sect_world.proofs.GoodStates.{none_held, event_keeps}
use Rattle.sect_types.specs.{Statements.{TextView}, declared.expansion.action.Field.{Field}}
use Rattle.sect_types.specs.declared.meaning.store.ObjectName.{ObjectName}
use Rattle.sect_types.specs.{declared.meaning.store.Datum.TheVariants.{Refers}, Whole.{FrameView, first_frames}}
use Rattle.sect_points.specs.Paths.{PathView}
use Rattle.sect_names.specs.{declared.lock.Effect.{Effect}, Needed.{end_of}, Along.{NeededIn, GoesBy}}
use Rattle.sect_emit.specs.{Plan.{path_datum}, Compiled.{CompiledView, IsCompiled, program_of}}
use Rattle.sect_emit.specs.State.{Outside, Running, ThreadState, State, IsThread, outside, start}
use Rattle.sect_world.specs.{declared.event.Event.{Event}, Runs.{RunsTo, IsRun}, Held.{HoldsEnough, may_read}}
use Rattle.sect_world.specs.{Laws.{AccessesAreHeld, StatesAreWellKept}, Kept.{HaveTheirClass, IsWellKept}}
use Rattle.sect_world.specs.Secured.{Good}
use Rattle.sect_emit.proofs.shared.TypedPrograms.{typed_program}
use Rattle.sect_names.specs.declared.lock.Lock.TheVariants as lock

module _ (c : CompiledView) where
  -- at the start all threads are outside and hold nothing
  start_outside : (fuel t : ℕ) (th : ThreadState) → IsThread (start c fuel) t th → (f : FrameView) × (th ≡ outside f)
  start_outside fuel t th at =
      let f = slice_get-map outside (first_frames fuel (program_of c).texts (program_of c).locals) t th at in
      (f.0, sym f.2)

  start_is_good : (fuel : ℕ) → IsWellKept c (start c fuel) → Good c (start c fuel)
  start_is_good fuel kept = record {
    kept = kept;
    classes = λ t th at. let f = start_outside fuel t th at in
        subst (λ (x : ThreadState). HaveTheirClass c (start c fuel).store x.held) (sym f.1)
        (none_held c (start c fuel).store);
    secured = λ t th i k at running. let f = start_outside fuel t th at in
        let p : Outside ≡ Running i k = sym (ap (λ (x : ThreadState). x.position) f.1) ∙ running in absurd cc;
  }

  module _ (ok : IsCompiled c) (kept : StatesAreWellKept c) (fuel : ℕ) where
    run_goes_on : (before : List Event) (s : State) → IsRun c fuel before s → Good c s
        → (es : List Event) (after : State) → RunsTo c s es after → Good c after
    run_goes_on before s run good [] after is = subst (Good c) is good
    run_goes_on before s run good (e ∷ es) after (between, happens, more) =
        let longer : IsRun c fuel (before ++ e ∷ []) between = run_on c fuel before s between e run happens in
        run_goes_on (before ++ e ∷ []) between longer
        (event_keeps c ok s between e good happens (kept fuel (before ++ e ∷ []) between longer)) es after more

    -- each state of a run is good
    pub states_are_good : (trace : List Event) (s : State) → IsRun c fuel trace s → Good c s
    states_are_good trace s run = run_goes_on [] (start c fuel) refl
        (start_is_good fuel (kept fuel [] (start c fuel) refl)) trace s run

  -- in a good state each thread holds enough for its next access
  pub good_holds_enough : IsCompiled c → (s : State) → Good c s → (t : ℕ) → HoldsEnough c s t
  good_holds_enough ok s good t th i k a at running is =
      next_access_is_held c ok.scheme (typed_program c ok) t s.store th.frame.work
      (pointed_thread c s good.kept t th at) th.held i k (stands_inside c s good.kept t th at i k running)
      (good.secured t th i k at running) th.frame.work.fuel a is

-- in each state of a run each thread holds enough for its next access
pub accesses_are_held : (c : CompiledView) → IsCompiled c → AccessesAreHeld c
accesses_are_held c ok fuel trace s run t =
    good_holds_enough c ok s (states_are_good c ok (runs_are_well_kept c ok) fuel trace s run) t

-- each state of a run is good
pub runs_are_good : (c : CompiledView) → IsCompiled c → (fuel : ℕ) (trace : List Event) (s : State)
    → IsRun c fuel trace s → Good c s
runs_are_good c ok = states_are_good c ok (runs_are_well_kept c ok)

module _ (c : CompiledView) (ok : IsCompiled c) (fuel : ℕ) (trace : List Event) (s : State) (run : IsRun c fuel trace s)
  where
    -- a thread in a section may read what a beginning of a path denotes that it still needs
    pub needed_beginnings_are_held : (t : ℕ) (th : ThreadState) (i : ℕ) (k : TextView) → IsThread s t th
        → th.position ≡ Running i k
        → (p q : PathView) (f : Field) (e : Effect) → NeededIn c.scheme t (end_of c.scheme i) k (lock.Path p e)
        → GoesBy p q f → (o : ObjectName) → path_datum s.store th.frame.work.locals q ≡ Refers o
        → may_read c s.store th.held o ≡ true
    needed_beginnings_are_held t th i k at running p q f e needed goes o is =
        let good = runs_are_good c ok fuel trace s run in
        (beginnings_are_held c ok.scheme (typed_program c ok) t s.store th.frame.work
        (pointed_thread c s good.kept t th at) th.held i k
        (stands_inside c s good.kept t th at i k running) (good.secured t th i k at running) p q f e needed goes o
        is).1
