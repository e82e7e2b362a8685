-- What holds in each state of a run.
use Rattle.std.specs.Prelude.{◌≡◌, ◌≢◌, ◌⊎◌, ⊤, ℕ, Bool, true, false, List, [], ◌∷◌, ◌++◌, length, Some, None}
use Rattle.std.specs.Prelude.{slice_get, slice_index_or}
use Rattle.sect_lemmas.specs.Lists.{Has}
use Rattle.sect_types.specs.declared.expansion.action.Action.{Action}
use Rattle.sect_types.specs.{Statements.{TextView, Stop, Do, Choose, Loop, Section}, Sections.{sections_of}}
use Rattle.sect_types.specs.{Sound.{IsSound}, Programs.{ProgramView, environment_at}}
use Rattle.sect_types.specs.declared.meaning.store.ObjectName.{ObjectName}
use Rattle.sect_types.specs.{Store.{ObjectView, StoreView, object_at, count}, Meaning.{WorkView}}
use Rattle.sect_points.specs.Statements.{thread_action, thread_actions}
use Rattle.sect_modes.specs.{declared.mode.Mode.{Mode}, declared.key.Key.{Key}}
use Rattle.sect_modes.specs.Mode.{are_compatible, is_at_least, intention_of}
use Rattle.sect_emit.specs.{declared.plan.Grip.{Grip}, Plan.{key_of, held_mode, Ascends}}
use Rattle.sect_emit.specs.{Pointed.{IsPointedStore, ArePointed}, Compiled.{CompiledView, program_of}}
use Rattle.sect_emit.specs.ModeTests.{is_reading_object}
use Rattle.sect_emit.specs.State.{Position, Outside, Entered, Running, Faulted, ThreadState, State, IsThread}
use Rattle.sect_names.specs.Records.{SiteOf}
use Rattle.sect_world.specs.Held.{holds_all, mode_of_class}
use Rattle.sect_modes.specs.declared.key.Key.TheVariants as key

-- a thread outside holds and wants nothing; one that has entered wants what lies above all that it holds, in key order;
-- one in a section wants nothing
abbrev pub IsPlaced : Position → ThreadState → Type 0
IsPlaced Outside th = (th.held ≡ []) × (th.wanted ≡ [])
IsPlaced Entered th = (th.frame.ended ≡ None) × Ascends (th.held ++ th.wanted)
IsPlaced (Running i k) th = (th.frame.ended ≡ None) × (th.wanted ≡ [])
IsPlaced (Faulted i why) th = (th.frame.ended ≡ None) × (th.wanted ≡ [])

-- by the place where it is
abbrev pub AsksInOrder : ThreadState → Type 0
AsksInOrder th = IsPlaced th.position th

-- the first holds of each statement without a block, the second of each section's number and body
abbrev pub Each : (Action → Type 0) → (ℕ → TextView → Type 0) → TextView → Type 0
Each A S Stop = ⊤
Each A S (Do a rest) = A a × Each A S rest
Each A S (Choose c p q rest) = Each A S p × Each A S q × Each A S rest
Each A S (Loop c p rest) = Each A S p × Each A S rest
Each A S (Section i p rest) = S i p × Each A S p × Each A S rest

-- statements of thread t of the program, in a section or outside
pub record IsTextOf (p : ProgramView) (t : ℕ) (inside : Bool) (k : TextView) : Type 0 where
  pub sound : IsSound (environment_at p t) inside k
  pub listed : Each (λ a. Has (thread_actions p) (thread_action t a))
      (λ i b. slice_get (sections_of p.texts) i ≡ Some (record { thread = t; body = b })) k

-- the object is there
abbrev pub IsObject : StoreView → ObjectName → Type 0
IsObject s o = (x : ObjectView) × (object_at s o ≡ Some x)

-- each reference leads to an object of its points-to set, and each object is of its site's record
pub record IsStoreKept (c : CompiledView) (s : StoreView) : Type 0 where
  pub rows : length s.made ≡ length (program_of c).texts
  pub pointed : IsPointedStore c.scheme s
  pub sited : (o : ObjectName) (x : ObjectView) → object_at s o ≡ Some x
      → (r : ℕ) × SiteOf (program_of c) x.site r
      × (length x.fields ≡ length (slice_index_or (program_of c).records r []))

-- so do the locals, and the objects that the thread has made are counted
pub record IsWorkKept (c : CompiledView) (s : StoreView) (t : ℕ) (w : WorkView) : Type 0 where
  pub made : w.made ≡ count s t
  pub locals : ArePointed c.scheme s t w.locals

-- each object key is that of an object that is there, in S or X
abbrev pub AreGripsKept : StoreView → List Grip → Type 0
AreGripsKept s gs =
    (o : ObjectName) (m : Mode) → held_mode (key_of o) gs ≡ Some m → IsObject s o × (is_reading_object m ≡ true)

-- no key stands in the list twice
abbrev pub AreApart : List Grip → Type 0
AreApart [] = ⊤
AreApart (g ∷ gs) = (held_mode g.key gs ≡ None) × AreApart gs

-- `all` is held in X, or the class of the site in at least the intention of the mode
abbrev pub HoldsClassOf : CompiledView → List Grip → ℕ → Mode → Type 0
HoldsClassOf c gs site m =
    (holds_all gs ≡ true) ⊎ ((b : Mode) × (mode_of_class c gs site ≡ Some b) × (is_at_least b (intention_of m) ≡ true))

-- with each object key of the list stands `all` in X or its class in at least the intention, and with each class `all`
-- in at least the intention
pub record HaveTheirClass (c : CompiledView) (s : StoreView) (gs : List Grip) : Type 0 where
  pub objects : (o : ObjectName) (x : ObjectView) (m : Mode) → held_mode (key_of o) gs ≡ Some m
      → object_at s o ≡ Some x → HoldsClassOf c gs x.site m
  pub classes : (n : ℕ) (m : Mode) → held_mode (key.Class n) gs ≡ Some m
      → (b : Mode) × (held_mode key.All gs ≡ Some b) × (is_at_least b (intention_of m) ≡ true)

-- what holds of a thread by its place
abbrev pub IsAt : CompiledView → StoreView → ℕ → Position → ThreadState → Type 0
IsAt c s t Outside th = (th.frame.work.printed ≡ []) × ((th.frame.ended ≡ None) → th.frame.text ≢ Stop)
IsAt c s t Entered th =
    (th.frame.work.printed ≡ []) × HaveTheirClass c s (th.held ++ th.wanted)
    × ((i : ℕ) × (body : TextView) × (rest : TextView) × (th.frame.text ≡ Section i body rest))
IsAt c s t (Running i k) th = IsTextOf (program_of c) t true k
IsAt c s t (Faulted i why) th = ⊤

-- what holds of thread t
pub record IsThreadKept (c : CompiledView) (s : StoreView) (t : ℕ) (th : ThreadState) : Type 0 where
  pub asks : AsksInOrder th
  pub at : IsAt c s t th.position th
  pub work : IsWorkKept c s t th.frame.work
  pub text : IsTextOf (program_of c) t false th.frame.text
  pub held : AreGripsKept s th.held
  pub apart : AreApart th.held
  pub wanted : AreGripsKept s th.wanted

-- no two threads hold a key in modes that aren't compatible
abbrev pub AreCompatible : State → Type 0
AreCompatible s =
    (t u : ℕ) (th other : ThreadState) (k : Key) (m n : Mode) → t ≢ u → IsThread s t th → IsThread s u other
    → held_mode k th.held ≡ Some m → held_mode k other.held ≡ Some n → are_compatible m n ≡ true

-- what holds of the whole state
pub record IsWellKept (c : CompiledView) (s : State) : Type 0 where
  pub as_many : length s.threads ≡ length (program_of c).texts
  pub store : IsStoreKept c s.store
  pub threads : (t : ℕ) (th : ThreadState) → IsThread s t th → IsThreadKept c s.store t th
  pub compatible : AreCompatible s
