-- States that are kept while outcomes are sought. The private functions of `exploring` and `states` cite it.
use Rattle.std.specs.Prelude.{◌≡◌, ◌≤◌, ◌<◌, ◌+◌, ◌++◌, ◌∷◌, [], ◌⊎◌, ℕ, Bool, true, false, List, Some, length, map}
use Rattle.std.specs.{Prelude.{slice_get, is_some}, Map.{lookup}}
use Rattle.sect_lemmas.specs.{Lists.{Has}, Distinct.{AreDistinct}}
use Rattle.sect_types.specs.Programs.{ProgramView}
use Rattle.sect_types.specs.Whole.{RunView, SerialEndView, begun, in_order, run_section, RunsWhole, EndsAs}
use Rattle.sect_serial.specs.{Comparing.{run_eq, end_eq}, Trimming.{trimmed}}
use Rattle.sect_serial.specs.Exploring.{Found, ends_in, IsBefore, AreRising}
use Rattle.sect_serial.specs.steps.Frames.{AreReady}

-- states, each with an order of whole sections that leads to it
abbrev pub States : Type 0
States = List (RunView × List ℕ)

-- what tells the states apart
abbrev pub states_in : States → List RunView
states_in es = map (λ (e : RunView × List ℕ). trimmed e.0) es

abbrev pub has_state : States → RunView → Bool
has_state es r = is_some (lookup (run_eq r) es)

abbrev pub has_end : Found → SerialEndView → Bool
has_end all e = is_some (lookup (end_eq e) all)

-- the order leads to this state, the threads of which are ready
pub record Leads (p : ProgramView) (fuel : ℕ) (order : List ℕ) (r : RunView) : Type 0 where
  pub there : in_order p order (begun p fuel) ≡ Some r
  pub ready : AreReady p 0 r.frames
  pub many : length r.frames ≡ length p.texts

-- at most so many states, each with an order that leads to it, as these orders come, no two of them the same but for
-- locals that aren't used
pub record AreStates (p : ProgramView) (fuel : ℕ) (most : ℕ) (es : States) : Type 0 where
  pub led : (e : RunView × List ℕ) → Has es e → Leads p fuel e.1 e.0
  pub distinct : AreDistinct (states_in es)
  pub few : length es ≤ most
  pub rising : AreRising es

-- more states at the end
abbrev pub Grows : States → States → Type 0
Grows es fs = (more : States) × (fs ≡ es ++ more)

-- the first order is the other, or comes before it
abbrev pub IsAtMost : List ℕ → List ℕ → Type 0
IsAtMost v w = IsBefore v w ⊎ (v ≡ w)

-- the state is there, with this order or one that comes before it
abbrev pub IsKeptBy : States → RunView → List ℕ → Type 0
IsKeptBy es r order = (x : RunView × List ℕ) × Has es x × (trimmed x.0 ≡ trimmed r) × IsAtMost x.1 order

-- what a section of thread t leads to from the state at place n is there
abbrev pub GoesOn : ProgramView → States → ℕ → ℕ → Type 0
GoesOn p es n t =
    (e : RunView × List ℕ) (r : RunView) → slice_get es n ≡ Some e → run_section p t e.0 ≡ Some r
    → IsKeptBy es r (e.1 ++ t ∷ [])

-- each order comes before that of one section of thread t more than the state at place n has
abbrev pub IsAhead : States → ℕ → ℕ → Type 0
IsAhead es n t =
    (e x : RunView × List ℕ) → slice_get es n ≡ Some e → Has es x → IsBefore x.1 (e.1 ++ t ∷ [])

-- so it is for the states from place n on
abbrev pub AreAhead : States → ℕ → Type 0
AreAhead es n = (k : ℕ) → n ≤ k → IsAhead es k 0

-- the state is there, or is added at the end
abbrev pub Keeps : ℕ → RunView → List ℕ → States → States → Type 0
Keeps most r order es fs =
    ((has_state es r ≡ true) × (fs ≡ es))
    ⊎ ((has_state es r ≡ false) × (length es < most) × (fs ≡ es ++ (r, order) ∷ []))

-- the end is there, or is added with its order
abbrev pub KeepsEnd : SerialEndView → List ℕ → Found → Found → Type 0
KeepsEnd e order all more =
    ((has_end all e ≡ true) × (more ≡ all)) ⊎ ((has_end all e ≡ false) × (more ≡ all ++ (e, order) ∷ []))

-- all threads have been followed from this place
pub record IsFollowed (p : ProgramView) (fuel : ℕ) (most : ℕ) (es : States) (n : ℕ) (fs : States) : Type 0 where
  pub states : AreStates p fuel most fs
  pub grown : Grows es fs
  pub followed : (t : ℕ) → GoesOn p fs n t
  pub ahead : AreAhead fs (n + 1)

-- these are all states
pub record AreAll (p : ProgramView) (fuel : ℕ) (most : ℕ) (es : States) : Type 0 where
  pub states : AreStates p fuel most es
  pub first : IsKeptBy es (begun p fuel) []
  pub closed : (n t : ℕ) → GoesOn p es n t

-- the end is there, with this order or one that comes before it
abbrev pub IsFoundBy : Found → SerialEndView → List ℕ → Type 0
IsFoundBy all e order = (x : SerialEndView × List ℕ) × Has all x × (x.0 ≡ e) × IsAtMost x.1 order

-- the ends of the first n states, each once
pub record AreEnds (p : ProgramView) (fuel : ℕ) (es : States) (n : ℕ) (all : Found) : Type 0 where
  pub right : (x : SerialEndView × List ℕ) → Has all x → RunsWhole p fuel x.1 x.0
  pub once : AreDistinct (ends_in all)
  pub found : (i : ℕ) (e : RunView × List ℕ) (x : SerialEndView) → i < n → slice_get es i ≡ Some e
      → EndsAs p e.0 x → IsFoundBy all x e.1
  pub ahead : (x : SerialEndView × List ℕ) (i : ℕ) (e : RunView × List ℕ) → Has all x → n ≤ i
      → slice_get es i ≡ Some e → IsBefore x.1 e.1
  pub rising : AreRising all
