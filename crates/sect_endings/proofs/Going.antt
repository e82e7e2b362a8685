-- Where threads lead to.
use Rattle.std.proofs.Common.{◌≡◌, ◌<◌, ◌≤◌, ◌+◌, ◌*◌, ℕ, Bool, true, false, Option, Some, None, refl, inl, inr}
use Rattle.std.proofs.{Common.{arith, slice_get}, lemmas.Bool.{ltb-true, cases_lt}}
use Rattle.std.specs.Prelude.{cond, nat_lt}
use Rattle.sect_endings.specs.Graphs.{GraphView, go, if_state}

none_past : (t n : ℕ) (o : Option ℕ) (b : Bool) → nat_lt t n ≡ b → n ≤ t → cond b o None ≡ None
none_past t n o true e le = absurd (let lt = ltb-true t n e in omega arith)
none_past t n o false e le = refl

-- there are no other threads
pub go_past : (g : GraphView) (s t : ℕ) → g.threads ≤ t → go g s t ≡ None
go_past g s t le =
    none_past t g.threads (if_state g.states (slice_get g.next (s * g.threads + t))) (nat_lt t g.threads) refl le

-- a thread that leads somewhere is one of them
pub go_thread : (g : GraphView) (s t q : ℕ) → go g s t ≡ Some q → t < g.threads
go_thread g s t q e = elim (cases_lt t g.threads) [
  | inl lt ↦ lt
  | inr past ↦ absurd (let none = go_past g s t past in cc)
]

state_kept : (n q : ℕ) (o : Option ℕ) → if_state n o ≡ Some q → q < n
state_kept n q None e = absurd (cc)
state_kept n q (Some x) e = kept (nat_lt x n) refl e
  where
    kept : (b : Bool) → nat_lt x n ≡ b → cond b (Some x) None ≡ Some q → q < n
    kept true is f = let lt = ltb-true x n is in let same : x ≡ q = cc in omega arith
    kept false is f = absurd (cc)

-- where it leads to is a state
pub go_state : (g : GraphView) (s t q : ℕ) → go g s t ≡ Some q → q < g.states
go_state g s t q e = chosen (nat_lt t g.threads) e
  where
    place : ℕ
    place = s * g.threads + t

    chosen : (b : Bool) → cond b (if_state g.states (slice_get g.next place)) None ≡ Some q → q < g.states
    chosen true f = state_kept g.states q (slice_get g.next place) f
    chosen false f = absurd (cc)
