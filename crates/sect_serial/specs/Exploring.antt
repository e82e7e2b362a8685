-- All outcomes of a program. `outcomes` cites it.
use Rattle.std.specs.Prelude.{◌≡◌, ◌≤◌, ◌<◌, ◌+◌, ◌↔◌, ◌⊎◌, ⊤, ℕ, List, [], ◌∷◌, Some, length, map}
use Rattle.sect_lemmas.specs.{Lists.{Has}, Distinct.{AreDistinct}}
use Rattle.sect_types.specs.{Programs.{ProgramView}, Whole.{RunView, SerialEndView, begun, in_order, RunsWhole}}
use Rattle.sect_serial.specs.{Trimming.{trimmed}, declared.exploring.OutcomesFault.{OutcomesFault}}
use Rattle.sect_serial.specs.declared.exploring.OutcomesFault.TheVariants.{Memory, TooManyStates}

-- ends, each with an order of sections that gives it
abbrev pub Found : Type 0
Found = List (SerialEndView × List ℕ)

-- the ends alone
abbrev pub ends_in : Found → List SerialEndView
ends_in found = map (λ (x : SerialEndView × List ℕ). x.0) found

-- the number of states that were gone through, and the ends that were found
pub record OutcomesView : Type 0 where
  pub states : ℕ
  pub found : Found

-- where the first of two orders has another thread than the second for the first time, it has the smaller one
abbrev pub IsLess : List ℕ → List ℕ → Type 0
IsLess [] ws = ⊥
IsLess (v ∷ vs) [] = ⊥
IsLess (v ∷ vs) (w ∷ ws) = (v < w) ⊎ ((v ≡ w) × IsLess vs ws)

-- a shorter order comes before a longer one, and orders of one length come as their threads do (known as shortlex)
abbrev pub IsBefore : List ℕ → List ℕ → Type 0
IsBefore v w = (length v < length w) ⊎ ((length v ≡ length w) × IsLess v w)

-- the order of each comes before those of all that stand behind it
abbrev pub AreRising : {X : Type 0} → List (X × List ℕ) → Type 0
AreRising [] = ⊤
AreRising {X} (x ∷ xs) = ((y : X × List ℕ) → Has xs y → IsBefore x.1 y.1) × AreRising xs

-- these are all outcomes of the program with this fuel, each once
pub record AreOutcomes (p : ProgramView) (fuel : ℕ) (found : Found) : Type 0 where
  -- in its order the program comes to its end
  pub right : (x : SerialEndView × List ℕ) → Has found x → RunsWhole p fuel x.1 x.0
  -- whatever the program comes to, in any order, is there
  pub complete : (order : List ℕ) (e : SerialEndView) → RunsWhole p fuel order e → Has (ends_in found) e
  pub once : AreDistinct (ends_in found)
  -- no order that gives an outcome comes before the one that it stands with
  pub first : (x : SerialEndView × List ℕ) → Has found x → (order : List ℕ) → RunsWhole p fuel order x.0
      → IsBefore order x.1 → ⊥
  -- and they stand as these orders come
  pub rising : AreRising found

-- whole sections of some threads, one after another, lead to this state, told apart without the locals of threads that
-- have ended
abbrev pub IsReached : ProgramView → ℕ → RunView → Type 0
IsReached p fuel s =
    (order : List ℕ) × (r : RunView) × (in_order p order (begun p fuel) ≡ Some r) × (trimmed r ≡ s)

-- whole sections lead to exactly n states, the first included
abbrev pub HasStates : ProgramView → ℕ → ℕ → Type 0
HasStates p fuel n =
    (states : List RunView) × (length states ≡ n) × AreDistinct states
    × ((s : RunView) → Has states s ↔ IsReached p fuel s)

-- whole sections lead to more than n states
abbrev pub HasMoreThan : ProgramView → ℕ → ℕ → Type 0
HasMoreThan p fuel n =
    (states : List RunView) × (length states ≡ n + 1) × AreDistinct states
    × ((s : RunView) → Has states s → IsReached p fuel s)

-- all outcomes, and how many states lead to them, which are at most so many
pub record Explores (p : ProgramView) (fuel : ℕ) (most : ℕ) (o : OutcomesView) : Type 0 where
  pub outcomes : AreOutcomes p fuel o.found
  pub states : HasStates p fuel o.states
  pub few : o.states ≤ most

-- a program has one list of outcomes, with one number of states
abbrev pub OutcomesAreOne : Type 0
OutcomesAreOne =
    (p : ProgramView) (fuel most : ℕ) (o q : OutcomesView) → Explores p fuel most o → Explores p fuel most q → o ≡ q

-- why none are listed: more states than that, or want of memory
abbrev pub IsUnlisted : ProgramView → ℕ → ℕ → OutcomesFault → Type 0
IsUnlisted p fuel most TooManyStates = HasMoreThan p fuel most
IsUnlisted p fuel most Memory = ⊤
