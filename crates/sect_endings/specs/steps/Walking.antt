-- Runs that are led through a set of states.
use Rattle.std.specs.Prelude.{◌≡◌, ◌≢◌, ◌<◌, ◌-◌, ℕ, Bool, List, [], ◌++◌, length, take, drop, get_or}
use Rattle.sect_endings.specs.{Graphs.{GraphView, IsWalk}, Runs.{Meets, IsRound}}
use Rattle.sect_endings.specs.steps.Sets.{In, IsWay}

-- a run has gone on from a state to another within a set, by these threads
pub record Goes (g : GraphView) (within : List Bool) (s : ℕ) (order : List ℕ) (q : ℕ) (new part : List ℕ) : Type 0 where
  pub added : new ≡ order ++ part
  pub way : IsWay g within s part q

-- by some threads
abbrev pub Comes : GraphView → List Bool → ℕ → List ℕ → ℕ → List ℕ → Type 0
Comes g within s order q new = (part : List ℕ) × Goes g within s order q new part

-- along whose way a thread is met
abbrev pub Passes : GraphView → List Bool → ℕ → ℕ → List ℕ → ℕ → List ℕ → Type 0
Passes g within t s order q new = (part : List ℕ) × Goes g within s order q new part × Meets g s part t

-- along whose way each of the first threads is
abbrev pub PassesAll : GraphView → List Bool → ℕ → ℕ → List ℕ → ℕ → List ℕ → Type 0
PassesAll g within n s order q new =
    (part : List ℕ) × Goes g within s order q new part × ((t : ℕ) → t < n → Meets g s part t)

-- and which isn't empty
abbrev pub Circles : GraphView → List Bool → ℕ → ℕ → List ℕ → ℕ → List ℕ → Type 0
Circles g within n s order q new =
    (part : List ℕ) × Goes g within s order q new part × ((t : ℕ) → t < n → Meets g s part t) × (part ≢ [])

-- the run came through a state, from which it goes round by what follows this place of its order
pub record IsSeen (g : GraphView) (n first : ℕ) (order : List ℕ) (q at : ℕ) (s : ℕ) : Type 0 where
  pub inside : at < length order
  pub before : IsWalk g 0 (take at order) s
  pub came : (part : List ℕ) × IsWalk g first part s
  pub back : IsWalk g s (drop at order) q
  pub meets : (t : ℕ) → t < n → Meets g s (drop at order) t

-- where a run has come to, and what was seen on its way: each place one more
pub record IsRunning (g : GraphView) (within : List Bool) (n first : ℕ) (order seen : List ℕ) (q : ℕ) : Type 0 where
  pub size : length seen ≡ g.states
  pub inside : In within q
  pub there : IsWalk g 0 order q
  pub came : (part : List ℕ) × IsWalk g first part q
  pub seen_at : (s : ℕ) → 0 < get_or seen s 0 → IsSeen g n first order q (get_or seen s 0 - 1) s

-- a round that a run comes to from a state, along which each of the first threads is met
pub record IsRoundFrom (g : GraphView) (n first : ℕ) (before round : List ℕ) (s : ℕ) : Type 0 where
  pub there : IsWalk g 0 before s
  pub came : (part : List ℕ) × IsWalk g first part s
  pub returns : IsRound g s round
  pub meets : (t : ℕ) → t < n → Meets g s round t
