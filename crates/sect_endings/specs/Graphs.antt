-- A finite graph of states, and the walks through it.
use Rattle.std.specs.Prelude.{◌≡◌, ◌+◌, ◌*◌, ℕ, List, [], ◌∷◌, Option, Some, None, nat_lt, cond, slice_get}

-- so many states, from 0 on, so many threads, and for each state and thread, row by row, the state that the thread
-- leads to from there
pub record GraphView : Type 0 where
  pub states : ℕ
  pub threads : ℕ
  pub next : List ℕ

-- the number, where it is one of a state
abbrev pub if_state : ℕ → Option ℕ → Option ℕ
if_state n None = None
if_state n (Some q) = cond (nat_lt q n) (Some q) None

-- where a thread leads to from a state; none where it may not go there, which a number says that is none of a state
abbrev pub go : GraphView → ℕ → ℕ → Option ℕ
go g s t = cond (nat_lt t g.threads) (if_state g.states (slice_get g.next (s * g.threads + t))) None

-- these threads, one after another, lead from a state to another
abbrev pub IsWalk : GraphView → ℕ → List ℕ → ℕ → Type 0
IsWalk g s [] q = s ≡ q
IsWalk g s (t ∷ order) q = (x : ℕ) × (go g s t ≡ Some x) × IsWalk g x order q

-- no thread may go: a run that comes here has ended
abbrev pub IsEnd : GraphView → ℕ → Type 0
IsEnd g s = (t : ℕ) → go g s t ≡ None
