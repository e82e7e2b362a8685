-- What a thread in a section has secured of the rest of the section.
use Rattle.std.specs.Prelude.{◌≡◌, ℕ, Bool, true, ◌||◌, List}
use Rattle.sect_types.specs.{Statements.{TextView}, declared.meaning.store.ObjectName.{ObjectName}}
use Rattle.sect_types.specs.{declared.meaning.store.Datum.{Datum}, declared.meaning.store.Datum.TheVariants.{Refers}}
use Rattle.sect_types.specs.Store.{StoreView}
use Rattle.sect_names.specs.{declared.lock.Effect.{Effect}, declared.lock.Lock.{Lock}, Needed.{end_of}}
use Rattle.sect_names.specs.Along.{NeededIn}
use Rattle.sect_emit.specs.{declared.plan.Grip.{Grip}, Plan.{class_mode, held_mode, is_met, path_datum}}
use Rattle.sect_emit.specs.{Compiled.{CompiledView}, State.{Running, ThreadState, State, IsThread}}
use Rattle.sect_world.specs.{Held.{holds_all, may_read, may_write}, Kept.{HaveTheirClass, IsWellKept}}
use Rattle.sect_names.specs.declared.lock.Effect.TheVariants as effect
use Rattle.sect_names.specs.declared.lock.Lock.TheVariants as lock
use Rattle.sect_modes.specs.declared.key.Key.TheVariants as key

-- who holds these keys may access the object with this effect
abbrev pub may_by : Effect → CompiledView → StoreView → List Grip → ObjectName → Bool
may_by effect.Read c s held o = may_read c s held o
may_by effect.Write c s held o = may_write c s held o

-- who holds these keys may do now what the lock allows: a path stands for the object that it denotes now
abbrev pub Secured : CompiledView → StoreView → List Datum → List Grip → Lock → Type 0
Secured c s locals held lock.All = holds_all held ≡ true
Secured c s locals held (lock.Class n r) =
    (holds_all held || is_met (held_mode (key.Class n) held) (class_mode r)) ≡ true
Secured c s locals held (lock.Path p e) =
    (o : ObjectName) → path_datum s locals p ≡ Refers o → may_by e c s held o ≡ true

-- all that is needed along what thread t still has to run of section i
abbrev pub AllSecured : CompiledView → StoreView → ℕ → ℕ → List Datum → List Grip → TextView → Type 0
AllSecured c s t i locals held k = (l : Lock) → NeededIn c.scheme t (end_of c.scheme i) k l → Secured c s locals held l

-- well kept, and each thread holds the classes of the objects that it holds and has secured what it still needs
pub record Good (c : CompiledView) (s : State) : Type 0 where
  pub kept : IsWellKept c s
  pub classes : (t : ℕ) (th : ThreadState) → IsThread s t th → HaveTheirClass c s.store th.held
  pub secured : (t : ℕ) (th : ThreadState) (i : ℕ) (k : TextView) → IsThread s t th → th.position ≡ Running i k
      → AllSecured c s.store t i th.frame.work.locals th.held k
