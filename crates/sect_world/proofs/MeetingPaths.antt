-- Plans that are made in two states of a run.
use Rattle.std.proofs.Common.{◌≡◌, ◌∙◌, ℕ, List, [], ◌∷◌, ◌++◌, sym, subst}
use Rattle.sect_types.specs.{Statements.{TextView, Section}, Meaning.{Next, On, Off}}
use Rattle.sect_emit.specs.{Compiled.{CompiledView, IsCompiled}, Pointed.{ObjectsStay}}
use Rattle.sect_emit.specs.State.{ThreadState, State, IsThread}
use Rattle.sect_conflicts.specs.Laws.{IsSectionOver, PlansClashWherePathsMeet}
use Rattle.sect_world.specs.declared.event.Deed.{Deed}
use Rattle.sect_world.specs.declared.event.Deed.TheVariants.{Local, Enter, Take, Begin, Again, Act, Leave}
use Rattle.sect_world.specs.declared.event.Event.{Event}
use Rattle.sect_world.specs.{Events.{step_in, changed_by, MayDo}, Kept.{IsWellKept}, Runs.{RunsTo, IsRun}}
use Rattle.sect_world.specs.Together.{StandsBefore, ClashWherePathsMeet}
use Rattle.sect_world.proofs.{AllowedChanges.{sites_stay}, KeptPointed.{pointed_thread, its_section}}
use Rattle.sect_world.proofs.{KeptStates.{runs_are_well_kept}, LongerRuns.{run_on}, Together.{same_stays}}

module _ (c : CompiledView) where
  module _ (s : State) (kept : IsWellKept c s) (t : ℕ) (th : ThreadState) (at : IsThread s t th) where
    as_they_were : ObjectsStay s.store s.store
    as_they_were = same_stays c s.store

    stay_by : (n : Next) → ObjectsStay s.store (changed_by t n s.store)
    stay_by (On rest w change) = sites_stay t s.store (pointed_thread c s kept t th at).row change
    stay_by (Off why w) = as_they_were

    -- an event takes no object away
    deed_stays : (d : Deed) (after : State) → MayDo c s t th d after → ObjectsStay s.store after.store
    deed_stays Local after (free, begins, is) = subst (λ (x : State). ObjectsStay s.store x.store) (sym is) as_they_were
    deed_stays Enter after (i, body, rest, free, text, is) =
        subst (λ (x : State). ObjectsStay s.store x.store) (sym is) as_they_were
    deed_stays (Take k m) after (rest, entered, wanted, lets, is) =
        subst (λ (x : State). ObjectsStay s.store x.store) (sym is) as_they_were
    deed_stays Begin after (i, body, rest, ready, meets, is) =
        subst (λ (x : State). ObjectsStay s.store x.store) (sym is) as_they_were
    deed_stays Again after (i, body, rest, ready, meets, is) =
        subst (λ (x : State). ObjectsStay s.store x.store) (sym is) as_they_were
    deed_stays Act after (i, k, running, begins, is) =
        subst (λ (x : State). ObjectsStay s.store x.store) (sym is) (stay_by (step_in c t k th.frame.work s.store))
    deed_stays Leave after (how, over, is) = subst (λ (x : State). ObjectsStay s.store x.store) (sym is) as_they_were

    -- a thread that stands before a section stands over the store
    section_over : (i : ℕ) → StandsBefore i th → IsSectionOver c i s.store th.frame.work
    section_over i (body, rest, text) = record {
      section = record { thread = t; body = body };
      at = its_section c s kept t th at i body rest text;
      pointed = pointed_thread c s kept t th at;
    }

  module _ (ok : IsCompiled c) (fuel : ℕ) where
    events_stay : (trace : List Event) (s : State) → IsRun c fuel trace s → (more : List Event) (now : State)
        → RunsTo c s more now → ObjectsStay s.store now.store
    events_stay trace s run [] now is = subst (λ (x : State). ObjectsStay s.store x.store) is (same_stays c s.store)
    events_stay trace s run (e ∷ more) now (between, (th, at, does), to) =
        let longer = run_on c fuel trace s between e run (th, at, does) in
        let later = events_stay (trace ++ e ∷ []) between longer more now to in
        let first = deed_stays s (runs_are_well_kept c ok fuel trace s run) e.thread th at e.deed between does in
        λ o x there.
        let a = first o x there in
        let b = later o a.0 a.1 in
        (b.0, b.1, b.2 ∙ a.2)

  -- two plans clash exactly where the paths meet
  pub clash_where_paths_meet : IsCompiled c → PlansClashWherePathsMeet c → ClashWherePathsMeet c
  clash_where_paths_meet ok meets fuel trace longer more rest s after now run on other_run other_on t u th other at there i
      j mine theirs pairs together =
      meets i j pairs together s.store after.store now.store th.frame.work other.frame.work
      (section_over s (runs_are_well_kept c ok fuel trace s run) t th at i mine)
      (section_over after (runs_are_well_kept c ok fuel longer after other_run) u other there j theirs)
      (events_stay ok fuel trace s run more now on) (events_stay ok fuel longer after other_run rest now other_on)
