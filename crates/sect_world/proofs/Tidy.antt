-- Well kept states are tidy: rows, counts and held keys are as they are in the store.
use Rattle.std.proofs.{Common.{◌<◌, sym, ◌∙◌, subst, ◌≡◌, List, Some}, lemmas.Option.{slice_get_within}}
use Rattle.sect_emit.specs.{Compiled.{CompiledView}, State.{State, ThreadState, IsThread}, Plan.{key_of, held_mode}}
use Rattle.sect_world.specs.{Kept.{IsWellKept}, declared.event.Event.{Event}, Runs.{IsRun}}
use Rattle.std.specs.Prelude.{ℕ, length}
use Rattle.sect_types.specs.{declared.meaning.store.ObjectName.{ObjectName}, Store.{ObjectView, object_at, count}}
use Rattle.sect_modes.specs.declared.mode.Mode.{Mode}

-- each thread has a row in the store, knows how many objects it has made, and holds keys of such objects alone as are
-- there
pub record IsTidy (s : State) : Type 0 where
  pub rows : (t : ℕ) (th : ThreadState) → IsThread s t th → t < length s.store.made
  pub counts : (t : ℕ) (th : ThreadState) → IsThread s t th → th.frame.work.made ≡ count s.store t
  pub held : (t : ℕ) (th : ThreadState) → IsThread s t th → (o : ObjectName) (m : Mode)
      → held_mode (key_of o) th.held ≡ Some m
      → (x : ObjectView) × (object_at s.store o ≡ Some x)

-- each state of a run is tidy
abbrev pub StatesAreTidy : CompiledView → Type 0
StatesAreTidy c = (fuel : ℕ) (trace : List Event) (s : State) → IsRun c fuel trace s → IsTidy s

-- rows, counts and held keys as they are kept
pub well_kept_is_tidy : (c : CompiledView) (s : State) → IsWellKept c s → IsTidy s
well_kept_is_tidy c s kept = record {
  rows = λ t th is. subst (λ n. t < n) (kept.as_many ∙ sym kept.store.rows) (slice_get_within s.threads t th is);
  counts = λ t th is. (kept.threads t th is).work.made;
  held = λ t th is o m e. ((kept.threads t th is).held o m e).0;
}
