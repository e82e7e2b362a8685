-- What happens in some programs, event by event.
-- Nothing cites this: it tests definitions.
use Rattle.std.proofs.Common.{◌≡◌, ℕ, List, [], ◌∷◌, ◌++◌, Option, Some, None, true, false, refl, arith, Bool}
use Rattle.std.specs.Prelude.{map, slice_get}
use Rattle.sect_types.specs.{declared.declarations.types.ValueType.TheVariants.{Int}, Programs.{ProgramView}}
use Rattle.sect_types.specs.declared.meaning.store.ObjectName.TheVariants.{Global, Made}
use Rattle.sect_types.specs.declared.meaning.store.Datum.TheVariants.{Null, Refers}
use Rattle.sect_types.specs.{declared.meaning.store.End.TheVariants.{Done, Failed}, Store.{StoreView}}
use Rattle.sect_types.specs.Whole.{SerialEndView}
use Rattle.sect_points.specs.Paths.{PathView, var, dot}
use Rattle.sect_names.specs.declared.lock.Lock.{Lock}
use Rattle.sect_emit.specs.{declared.plan.Grip.{Grip}, Plan.{grip, gathered, IsFixedPart}, Compiled.{CompiledView}}
use Rattle.sect_emit.specs.State.{State, ThreadState, IsThread, start}
use Rattle.sect_world.specs.declared.event.Deed.{Deed}
use Rattle.sect_world.specs.declared.event.Deed.TheVariants.{Local, Enter, Take, Begin, Again, Act, Leave}
use Rattle.sect_world.specs.{declared.event.Event.{Event}, Runs.{IsRun, IsComplete, order_of}, Blocked.{IsBlocked}}
use Rattle.sect_world.specs.Held.{may_read, may_write, may_make}
use Rattle.sect_world.proofs.Deciding.{ran, ran_sound, after}
use Rattle.sect_types.proofs.shared.ProgramTexts.{numbered, two_bumps, sum_and_push, null_after_write, one_object_twice}
use Rattle.sect_types.proofs.shared.{ProgramTexts.{read_behind, turned_back, link}, WholeRows.{int, object, ending}}
use Rattle.sect_modes.specs.declared.mode.Mode.TheVariants as mode
use Rattle.sect_modes.specs.declared.key.Key.TheVariants as key
use Rattle.sect_points.specs.declared.holders.Variable.TheVariants as variable
use Rattle.sect_names.specs.declared.lock.Effect.TheVariants as effect
use Rattle.sect_names.specs.declared.lock.Right.TheVariants as right
use Rattle.sect_names.specs.declared.lock.Lock.TheVariants as lock
use Rattle.sect_types.specs.declared.meaning.store.Fault.TheVariants as fault

abbrev compiled : ProgramView → List ℕ → List (Option ℕ) → List (List Lock) → List (List Grip) → CompiledView
compiled p numbers guards sets parts = record {
  scheme = record {
    program = p;
    most = 2;
    classes =
        record { sets = record { sites = 0; slots = []; locals = [] }; numbers = numbers };
    guards = guards;
    graphs =
        record { threads = []; sections = [] };
  };
  sets = sets;
  parts = parts;
}

abbrev does : ℕ → Deed → Event
does t d = record { thread = t; deed = d }

abbrev each : ℕ → List Deed → List Event
each t ds = map (does t) ds

abbrev global : ℕ → PathView
global g = var (variable.Global g)

-- what a list of events leaves, as a complete run: its order and its end
record Comes (c : CompiledView) (fuel : ℕ) (trace : List Event) (order : List ℕ) (e : SerialEndView) : Type 0 where
  state : State
  leads : ran c trace (start c fuel) ≡ Some state
  complete : IsComplete state e
  in_order : order_of trace ≡ order

a_run : (c : CompiledView) (fuel : ℕ) (trace : List Event) (order : List ℕ) (e : SerialEndView)
    → (r : Comes c fuel trace order e) → IsRun c fuel trace r.state
a_run c fuel trace order e r = ran_sound c trace (start c fuel) r.state r.leads

-- the state after one event more
abbrev after_some : CompiledView → Option State → Event → Option State
after_some c None e = None
after_some c (Some s) e = after c s e

-- two threads that add 1 to one balance: the second waits for the object until the first leaves
abbrev bump_part : List Grip
bump_part = grip key.All mode.IntentionExclusive ∷ grip (key.Class 0) mode.IntentionExclusive ∷ []

abbrev bumps : CompiledView
bumps = compiled two_bumps (0 ∷ []) (None ∷ [])
    ((lock.Path (global 0) effect.Write ∷ []) ∷ (lock.Path (global 0) effect.Write ∷ []) ∷ [])
    (bump_part ∷ bump_part ∷ [])

bumps_part : IsFixedPart bumps.scheme (lock.Path (global 0) effect.Write ∷ []) bump_part
bumps_part = (bump_part, (bump_part, [], refl, (0, (0, refl, refl), refl), refl), refl)

abbrev bumps_before : List Event
bumps_before =
    does 0 Enter ∷ does 1 Enter ∷ each 0
    (Take key.All mode.IntentionExclusive ∷ Take (key.Class 0) mode.IntentionExclusive ∷ Take (key.Global 0)
    mode.Exclusive ∷ [])
    ++ each 1 (Take key.All mode.IntentionExclusive ∷ Take (key.Class 0) mode.IntentionExclusive ∷ [])

-- the second thread can't take the object
bumps_wait : after_some bumps (ran bumps bumps_before (start bumps 10000)) (does 1 (Take (key.Global 0) mode.Exclusive))
    ≡ None
bumps_wait = refl

abbrev bumps_rest : List Event
bumps_rest =
    each 0 (Begin ∷ Act ∷ Act ∷ Act ∷ Leave ∷ [])
    ++ does 1 (Take (key.Global 0) mode.Exclusive) ∷ each 1 (Begin ∷ Act ∷ Act ∷ Act ∷ Leave ∷ [])

bumps_end : Comes bumps 10000 (bumps_before ++ bumps_rest) (0 ∷ 1 ∷ [])
    (ending (object 0 (int 2 ∷ []) ∷ []) ([] ∷ [] ∷ []) [] (Done ∷ Done ∷ []))
bumps_end = record {
  state = _;
  leads = refl;
  complete = record { store = refl; output = refl; ends = refl };
  in_order =
      refl;
}

-- with two units of fuel each the store is never done; the faulting act is an event
bumps_fail : Comes bumps 2 (bumps_before ++ bumps_rest) (0 ∷ 1 ∷ [])
    (ending (object 0 (int 0 ∷ []) ∷ []) ([] ∷ [] ∷ []) [] (Failed fault.Fuel ∷ Failed fault.Fuel ∷ []))
bumps_fail = record {
  state = _;
  leads = refl;
  complete =
      record { store = refl; output = refl; ends = refl };
  in_order = refl;
}

-- two paths, one object: S and X give X
abbrev twice : CompiledView
twice = compiled one_object_twice (0 ∷ []) (None ∷ [])
    ((lock.Path (var (variable.Local 0 0)) effect.Read ∷ lock.Path (var (variable.Local 0 1)) effect.Write ∷ []) ∷ [])
    (gathered (grip key.All mode.IntentionShared ∷ grip (key.Class 0) mode.IntentionShared ∷ bump_part) ∷ [])

twice_end : Comes twice 10000
    (each 0 (Local ∷ Local ∷ Enter ∷ Take key.All mode.IntentionExclusive ∷ Take (key.Class 0) mode.IntentionExclusive
    ∷ Take (key.Global 0) mode.Exclusive ∷ Begin ∷ Act ∷ Act ∷ Leave ∷ []))
    (0 ∷ []) (ending (object 0 (int 3 ∷ []) ∷ []) ([] ∷ []) [] (Done ∷ []))
twice_end = record {
  state = _;
  leads = refl;
  complete = record { store = refl; output = refl; ends = refl };
  in_order =
      refl;
}

-- a class to be read, with an object of it to be written
class_join : gathered (grip (key.Class 0) mode.Shared ∷ grip (key.Class 0) mode.IntentionExclusive ∷ []) ≡ grip
    (key.Class 0) mode.SharedIntentionExclusive ∷ []
class_join = refl

-- the plan is stale when all its keys are held
abbrev behind : CompiledView
behind = compiled read_behind (0 ∷ 1 ∷ []) (None ∷ [])
    ((lock.Path (global 0) effect.Read ∷ lock.Path (dot (global 0) link) effect.Read ∷ [])
    ∷ (lock.Path (global 0) effect.Write ∷ lock.Path (global 1) effect.Write ∷ []) ∷ [])
    ((grip key.All mode.IntentionShared ∷ grip (key.Class 0) mode.IntentionShared ∷ grip (key.Class 1)
    mode.IntentionShared ∷ [])
    ∷ (grip key.All mode.IntentionExclusive ∷ grip (key.Class 0) mode.IntentionExclusive ∷ grip (key.Class 1)
    mode.IntentionExclusive ∷ []) ∷ [])

behind_end : Comes behind 10000
    (does 0 Enter ∷ each 1 (Enter ∷ Take key.All mode.IntentionExclusive ∷ Take (key.Class 0) mode.IntentionExclusive
    ∷ Take (key.Class 1) mode.IntentionExclusive ∷ Take (key.Global 0) mode.Exclusive ∷ Take (key.Global 1)
    mode.Exclusive ∷ Begin ∷ Act ∷ Act ∷ Leave ∷ [])
    ++ each 0 (Take key.All mode.IntentionShared ∷ Take (key.Class 0) mode.IntentionShared ∷ Take (key.Class 1)
    mode.IntentionShared ∷ Take (key.Global 0) mode.Shared ∷ Again
    ∷ Enter ∷ Take key.All mode.IntentionShared ∷ Take (key.Class 0) mode.IntentionShared ∷ Take (key.Class 1)
    mode.IntentionShared ∷ Take (key.Global 0) mode.Shared ∷ Take (key.Global 1) mode.Shared
    ∷ Begin ∷ Act ∷ Act ∷ Act ∷ Leave ∷ []))
    (1 ∷ 0 ∷ []) (ending (object 0 (int 0 ∷ Refers (Global 1) ∷ []) ∷ object 1 (int 7 ∷ Null ∷ []) ∷ []) ([] ∷ [] ∷ [])
    (7 ∷ []) (Done ∷ Done ∷ []))
behind_end = record {
  state = _;
  leads = refl;
  complete =
      record { store = refl; output = refl; ends = refl };
  in_order = refl;
}

-- a section that fails after a write delivers what it did, and gives all back
abbrev failing : CompiledView
failing = compiled null_after_write (0 ∷ 1 ∷ []) (None ∷ [])
    ((lock.Path (global 0) effect.Read ∷ lock.Path (global 1) effect.Write ∷ [])
    ∷ (lock.Path (global 1) effect.Read ∷ []) ∷ [])
    ((grip key.All mode.IntentionExclusive ∷ grip (key.Class 0) mode.IntentionShared ∷ grip (key.Class 1)
    mode.IntentionExclusive ∷ [])
    ∷ (grip key.All mode.IntentionShared ∷ grip (key.Class 1) mode.IntentionShared ∷ []) ∷ [])

failing_end : Comes failing 10000
    (each 0 (Enter ∷ Take key.All mode.IntentionExclusive ∷ Take (key.Class 0) mode.IntentionShared ∷ Take (key.Class 1)
    mode.IntentionExclusive ∷ Take (key.Global 0) mode.Shared ∷ Take (key.Global 1) mode.Exclusive ∷ [])
    ++ each 1 (Enter ∷ Take key.All mode.IntentionShared ∷ Take (key.Class 1) mode.IntentionShared ∷ [])
    ++ each 0 (Begin ∷ Act ∷ Act ∷ Act ∷ Leave ∷ [])
    ++ each 1 (Take (key.Global 1) mode.Shared ∷ Begin ∷ Act ∷ Act ∷ Leave ∷ []))
    (0 ∷ 1 ∷ []) (ending (object 0 (int 0 ∷ Null ∷ []) ∷ object 1 (int 4 ∷ Null ∷ []) ∷ []) ([] ∷ [] ∷ []) (4 ∷ [])
    (Failed fault.Null ∷ Done ∷ []))
failing_end = record {
  state = _;
  leads = refl;
  complete =
      record { store = refl; output = refl; ends = refl };
  in_order = refl;
}

-- the class that is read is in the way of who is to make one of its objects
abbrev summing : List Grip
summing = grip key.All mode.IntentionShared ∷ grip (key.Class 0) mode.IntentionShared ∷ grip (key.Class 1) mode.Shared
    ∷ []

abbrev pushing : CompiledView
pushing = compiled sum_and_push (0 ∷ 1 ∷ []) (None ∷ [])
    ((lock.Class 1 right.Read ∷ lock.Path (global 0) effect.Read ∷ [])
    ∷ (lock.Class 1 right.Make ∷ lock.Path (global 0) effect.Write ∷ []) ∷ [])
    (summing ∷ (grip key.All mode.IntentionExclusive ∷ grip (key.Class 0) mode.IntentionExclusive ∷ grip (key.Class 1)
    mode.IntentionExclusive ∷ []) ∷ [])

-- the fixed part of the first section: `all` in the intention, then the classes
pushing_part : IsFixedPart pushing.scheme (lock.Class 1 right.Read ∷ lock.Path (global 0) effect.Read ∷ []) summing
pushing_part = (
  grip key.All mode.IntentionShared ∷ grip (key.Class 1) mode.Shared ∷ grip key.All mode.IntentionShared ∷ grip
      (key.Class 0) mode.IntentionShared ∷ [],
  (
    grip key.All mode.IntentionShared ∷ grip (key.Class 1) mode.Shared ∷ [],
    grip key.All mode.IntentionShared ∷ grip (key.Class 0) mode.IntentionShared ∷ [],
    refl,
    refl,
    (
      grip key.All mode.IntentionShared ∷ grip (key.Class 0) mode.IntentionShared ∷ [],
      [],
      refl,
      (0, (0, refl, refl), refl),
      refl,
    ),
  ),
  refl,
)

abbrev pushing_before : List Event
pushing_before =
    each 0 (Enter ∷ Take key.All mode.IntentionShared ∷ Take (key.Class 0) mode.IntentionShared ∷ Take (key.Class 1)
    mode.Shared ∷ [])
    ++ each 1 (Local ∷ Enter ∷ Take key.All mode.IntentionExclusive ∷ Take (key.Class 0) mode.IntentionExclusive ∷ [])

record Waits (c : CompiledView) (fuel : ℕ) (trace : List Event) (t : ℕ) : Type 0 where
  state : State
  thread : ThreadState
  leads : ran c trace (start c fuel) ≡ Some state
  is : IsThread state t thread
  blocked : IsBlocked state thread

pushing_waits : Waits pushing 10000 pushing_before 1
pushing_waits = record {
  state = _;
  thread = _;
  leads = refl;
  is = refl;
  blocked = record {
    key = key.Class 1;
    mode = mode.IntentionExclusive;
    first = (grip (key.Global 0) mode.Exclusive ∷ [], refl);
    asker = 1;
    asking = _;
    asker_is = refl;
    asked = mode.IntentionExclusive;
    asks = (grip (key.Global 0) mode.Exclusive ∷ [], refl);
    holder = 0;
    holding = _;
    holder_is = refl;
    other = λ e. omega (arith, e);
    held = mode.Shared;
    holds = refl;
    against = refl;
  };
}

-- it can't take the key then
pushing_stays : after_some pushing (ran pushing pushing_before (start pushing 10000))
    (does 1 (Take (key.Class 1) mode.IntentionExclusive)) ≡ None
pushing_stays = refl

abbrev held_in : Option ThreadState → List Grip
held_in None = []
held_in (Some th) = th.held

abbrev held_by : ℕ → Option State → List Grip
held_by t None = []
held_by t (Some s) = held_in (slice_get s.threads t)

abbrev pushing_first : List Deed
pushing_first = Local ∷ Enter ∷ Take key.All mode.IntentionExclusive ∷ Take (key.Class 0) mode.IntentionExclusive ∷ Take
    (key.Class 1) mode.IntentionExclusive ∷ Take (key.Global 0) mode.Exclusive ∷ Begin ∷ Act ∷ []

-- the key of the object that is made comes last, and goes back with the others
pushing_made : held_by 1 (ran pushing (each 1 pushing_first) (start pushing 10000))
    ≡ grip key.All mode.IntentionExclusive ∷ grip (key.Class 0) mode.IntentionExclusive ∷ grip (key.Class 1)
    mode.IntentionExclusive ∷ grip (key.Global 0) mode.Exclusive ∷ grip (key.Made 1 0) mode.Exclusive ∷ []
pushing_made = refl

pushing_end : Comes pushing 10000
    (each 1 (pushing_first ++ Act ∷ Act ∷ Act ∷ Act ∷ Leave ∷ [])
    ++ each 0 (Enter ∷ Take key.All mode.IntentionShared ∷ Take (key.Class 0) mode.IntentionShared ∷ Take (key.Class 1)
    mode.Shared ∷ Take (key.Global 0) mode.Shared ∷ Begin ∷ Act ∷ Act ∷ Act ∷ Act ∷ Act ∷ Act ∷ Act ∷ Leave ∷ []))
    (1 ∷ 0 ∷ []) (ending (object 0 (int 0 ∷ Refers (Made 1 0) ∷ []) ∷ [])
    ([] ∷ (object 1 (int 5 ∷ Null ∷ []) ∷ []) ∷ []) (5 ∷ []) (Done ∷ Done ∷ []))
pushing_end = record {
  state = _;
  leads = refl;
  complete =
      record { store = refl; output = refl; ends = refl };
  in_order = refl;
}

-- records Lock and Cell, Cell protected by the global 0; the globals 1 and 2 are cells
abbrev guarded : CompiledView
guarded = compiled (numbered ((Int ∷ []) ∷ (Int ∷ []) ∷ []) (0 ∷ 1 ∷ 1 ∷ []) [] []) (0 ∷ 1 ∷ 2 ∷ [])
    (None ∷ Some 0 ∷ []) [] []

abbrev cells : StoreView
cells = record { globals = object 0 (int 0 ∷ []) ∷ object 1 (int 0 ∷ []) ∷ object 2 (int 0 ∷ []) ∷ []; made = [] }

abbrev by_guard : List Grip
by_guard = grip key.All mode.IntentionExclusive ∷ grip (key.Class 0) mode.IntentionExclusive ∷ grip (key.Global 0)
    mode.Exclusive ∷ []

-- who holds the guard may read, write and make; who holds the object itself may not
guard_reads : may_read guarded cells by_guard (Global 1) ≡ true
guard_reads = refl

guard_writes : may_write guarded cells by_guard (Global 2) ≡ true
guard_writes = refl

guard_makes : may_make guarded cells by_guard 1 ≡ true
guard_makes = refl

itself_reads : may_read guarded cells (grip (key.Class 1) mode.Exclusive ∷ grip (key.Global 1) mode.Exclusive ∷ [])
    (Global 1) ≡ false
itself_reads = refl

-- an intention isn't enough to read or write; it is enough to make
intention_reads : may_read guarded cells (grip (key.Class 0) mode.IntentionExclusive ∷ []) (Global 0) ≡ false
intention_reads = refl

intention_makes : may_make guarded cells (grip (key.Class 0) mode.IntentionExclusive ∷ []) 0 ≡ true
intention_makes = refl

both_reads : may_read guarded cells (grip (key.Class 0) mode.SharedIntentionExclusive ∷ []) (Global 0) ≡ true
both_reads = refl

both_writes : may_write guarded cells (grip (key.Class 0) mode.SharedIntentionExclusive ∷ []) (Global 0) ≡ false
both_writes = refl

-- who holds all objects in X may read, write and make each, guarded or not; one that isn't there nobody may read
abbrev by_all : List Grip
by_all = grip key.All mode.Exclusive ∷ []

all_reads : may_read guarded cells by_all (Global 0) ≡ true
all_reads = refl

all_writes : may_write guarded cells by_all (Global 1) ≡ true
all_writes = refl

all_makes : may_make guarded cells by_all 0 ≡ true
all_makes = refl

all_makes_guarded : may_make guarded cells by_all 1 ≡ true
all_makes_guarded = refl

none_reads : may_read guarded cells by_all (Global 3) ≡ false
none_reads = refl

-- a weaker mode of `all` is enough for nothing
intention_of_all : may_read guarded cells (grip key.All mode.SharedIntentionExclusive ∷ []) (Global 0) ≡ false
intention_of_all = refl

makes_by_intention : may_make guarded cells (grip key.All mode.SharedIntentionExclusive ∷ []) 0 ≡ false
makes_by_intention = refl

-- a section that locks everything keeps each other section out, from its first key on
abbrev everything : CompiledView
everything = compiled two_bumps (0 ∷ []) (None ∷ []) ((lock.All ∷ []) ∷ (lock.Path (global 0) effect.Write ∷ []) ∷ [])
    (by_all ∷ bump_part ∷ [])

everything_part : IsFixedPart everything.scheme (lock.All ∷ []) by_all
everything_part = (by_all, (by_all, [], refl, refl, refl), refl)

abbrev everything_before : List Event
everything_before = does 0 Enter ∷ does 1 Enter ∷ does 0 (Take key.All mode.Exclusive) ∷ []

everything_waits : after_some everything (ran everything everything_before (start everything 10000))
    (does 1 (Take key.All mode.IntentionExclusive)) ≡ None
everything_waits = refl

everything_end : Comes everything 10000
    (everything_before ++ each 0 (Begin ∷ Act ∷ Act ∷ Act ∷ Leave ∷ [])
    ++ each 1 (Take key.All mode.IntentionExclusive ∷ Take (key.Class 0) mode.IntentionExclusive ∷ Take (key.Global 0)
    mode.Exclusive ∷ Begin ∷ Act ∷ Act ∷ Act ∷ Leave ∷ []))
    (0 ∷ 1 ∷ []) (ending (object 0 (int 2 ∷ []) ∷ []) ([] ∷ [] ∷ []) [] (Done ∷ Done ∷ []))
everything_end = record {
  state = _;
  leads = refl;
  complete =
      record { store = refl; output = refl; ends = refl };
  in_order = refl;
}

-- all keys of the plan are held, and one of them not strongly enough
abbrev turning : CompiledView
turning =
    compiled turned_back (0 ∷ 1 ∷ 1 ∷ []) (None ∷ [])
    ((lock.Path (global 0) effect.Read ∷ lock.Path (dot (global 0) link) effect.Write ∷ lock.Path
    (var (variable.Local 0 0)) effect.Read ∷ []) ∷ (lock.Path (global 0) effect.Write ∷ [])
    ∷ (lock.Path (global 0) effect.Write ∷ []) ∷ [])
    ((grip key.All mode.IntentionExclusive ∷ grip (key.Class 0) mode.IntentionShared ∷ grip (key.Class 1)
    mode.IntentionExclusive ∷ []) ∷ bump_part ∷ bump_part ∷ [])

abbrev turn_head : List Deed
turn_head = Enter ∷ Take key.All mode.IntentionExclusive ∷ Take (key.Class 0) mode.IntentionExclusive ∷ Take
    (key.Global 0) mode.Exclusive ∷ Begin ∷ Act ∷ Leave ∷ []

abbrev turning_before : List Event
turning_before =
    each 1 turn_head ++ each 0 (Local ∷ Enter ∷ []) ++ each 1 turn_head
    ++ each 0 (Take key.All mode.IntentionExclusive ∷ Take (key.Class 0) mode.IntentionShared ∷ Take (key.Class 1)
    mode.IntentionExclusive ∷ Take (key.Global 0) mode.Shared ∷ Take (key.Global 1) mode.Shared ∷ Take (key.Global 2)
    mode.Exclusive ∷ [])

turning_begins : after_some turning (ran turning turning_before (start turning 10000)) (does 0 Begin) ≡ None
turning_begins = refl

abbrev is_enabled : Option State → Bool
is_enabled None = false
is_enabled (Some s) = true

turning_again : is_enabled (after_some turning (ran turning turning_before (start turning 10000)) (does 0 Again)) ≡ true
turning_again = refl
