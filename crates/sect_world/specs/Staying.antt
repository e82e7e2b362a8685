-- What stays while a thread is in a section. The laws cite it.
use Rattle.std.specs.Prelude.{◌≡◌, ◌≢◌, ⊤, ℕ, true, List, [], ◌∷◌}
use Rattle.sect_types.specs.{declared.meaning.store.ObjectName.{ObjectName}, Store.{object_at}}
use Rattle.sect_emit.specs.{Compiled.{CompiledView}, State.{State, ThreadState, IsThread}}
use Rattle.sect_world.specs.{declared.event.Event.{Event}, Runs.{RunsTo, IsRun}, Held.{may_read}}
use Rattle.sect_world.specs.Excluding.{IsInSection}

-- none of these events is thread t's
abbrev pub AreOthers : ℕ → List Event → Type 0
AreOthers t [] = ⊤
AreOthers t (e ∷ es) = (e.thread ≢ t) × AreOthers t es

-- while a thread is in a section and makes no event, it stays as it is, and so does all that it may read
abbrev pub HeldObjectsStay : CompiledView → Type 0
HeldObjectsStay c =
    (fuel : ℕ) (trace more : List Event) (s after : State) → IsRun c fuel trace s → RunsTo c s more after
    → (t : ℕ) (th : ThreadState) → IsThread s t th → IsInSection th.position → AreOthers t more
    → IsThread after t th
    × ((o : ObjectName) → may_read c s.store th.held o ≡ true → object_at after.store o ≡ object_at s.store o)
