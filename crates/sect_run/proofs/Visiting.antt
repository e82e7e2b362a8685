-- What a worker's visit to a world comes to.
use Rattle.std.proofs.Common.{◌≡◌, ◌<◌, ℕ, zero, Bool, true, false, List, [], length, inl, inr, refl, sym, ap}
use Rattle.std.proofs.Common.{subst, arith}
use Rattle.std.proofs.Common.{Option, Some, None, Result, Ok, Err, OnErr}
use Rattle.std.specs.Prelude.{IfSome, MatchBool}
use Rattle.sect_lemmas.proofs.Options.{some_injective, none_or_some}
use Rattle.std.specs.Prelude.{slice_get}
use Rattle.sect_emit.specs.{declared.plan.Grip.{Grip}, Compiled.{CompiledView}}
use Rattle.sect_emit.specs.State.{Position, Outside, Entered, Running, Faulted, ThreadState, State, IsThread}
use Rattle.sect_world.specs.{Kept.{IsPlaced, IsWellKept}, Sights.{wish_in, first_wish}}
use Rattle.sect_world.specs.{declared.stretch.Stretch.{Stretch}, declared.event.Event.{Event}}
use Rattle.sect_world.specs.Stretches.{AreAdded, events_in}
use Rattle.sect_world.specs.{declared.turned.Turned.{Turned}, Laws.{StatesAreWellKept}, Runs.{IsRun}}
use Rattle.sect_world.specs.Worlds.{WorldView}
use Rattle.sect_run.specs.steps.Shares.{IsSameRun, threads_in}
use Rattle.sect_run.specs.steps.Turns.{AreTurns, AreBrokenOff, MayBeAdded, IsVisitBrokenOff, IsVisitBrokenOffAside}

-- a thread of the program is there in each state of a run
pub thread_there : (c : CompiledView) → StatesAreWellKept c → (fuel : ℕ) (trace : List Event) (s : State)
    → IsRun c fuel trace s → (t : ℕ) → t < threads_in c → t < length s.threads
thread_there c kept fuel trace s run t below = subst (λ n. t < n) (sym (kept fuel trace s run).as_many) below

-- a stretch is added or it isn't
pub may_be_added : (t : ℕ) (a : Stretch) (fits : Bool) (old new : WorldView)
    → MatchBool fits (AreAdded (events_in t a) old new) (new ≡ old) → MayBeAdded t old new
may_be_added t a true old new is = inr (a, is)
may_be_added t a false old new same = inl same

-- in either case the run stays the same
pub added_same : (t : ℕ) (old new : WorldView) → MayBeAdded t old new → IsSameRun old new
added_same t old new (inl same) = (ap (λ (w : WorldView). w.compiled) same, ap (λ (w : WorldView). w.fuel) same)
added_same t old new (inr added) = (added.1.compiled, added.1.fuel)

-- turns are broken off before the first, or behind the last
pub none_broken_off : (t most : ℕ) (w : WorldView) → AreBrokenOff t most w w
none_broken_off t most w = (w, zero, [], (refl, refl), omega arith, inl refl)

pub all_broken_off : (t most : ℕ) (turned : Turned) (ts : List ℕ) (old new : WorldView)
    → AreTurns t most turned ts old new → AreBrokenOff t most old new
all_broken_off t most turned ts old new turns =
    (turns.before, turns.made, turns.earlier, turns.goes, turns.few, inr (turned, turns.last))

-- who wants a key first has entered a section
wants_entered : (p : Position) (th : ThreadState) (g : Grip) → IsPlaced p th → slice_get th.wanted 0 ≡ Some g
    → p ≡ Entered
wants_entered Outside th g placed wants = let none = placed.1 in absurd (none_or_some g (rw none at wants))
wants_entered Entered th g placed wants = refl
wants_entered (Running i k) th g placed wants = let none = placed.1 in absurd (none_or_some g (rw none at wants))
wants_entered (Faulted i why) th g placed wants = let none = placed.1 in absurd (none_or_some g (rw none at wants))

wanting_entered : (c : CompiledView) (s : State) → IsWellKept c s → (t : ℕ) (g : Grip) (o : Option ThreadState)
    → slice_get s.threads t ≡ o → wish_in o ≡ Some g → (th : ThreadState) × IsThread s t th × (th.position ≡ Entered)
wanting_entered c s kept t g None is wants = absurd (none_or_some g wants)
wanting_entered c s kept t g (Some th) is wants =
    (th, is, wants_entered th.position th g (kept.threads t th is).asks wants)

pub awaiting_entered : (c : CompiledView) (s : State) → IsWellKept c s → (t : ℕ) (g : Grip) → first_wish s t ≡ Some g
    → (th : ThreadState) × IsThread s t th × (th.position ≡ Entered)
awaiting_entered c s kept t g wants = wanting_entered c s kept t g (slice_get s.threads t) refl wants

-- what holds if there is something, holds of it
pub some_of : {A : Type 0} (P : A → Type 0) (o : Option A) (x : A) → o ≡ Some x → IfSome o P → P x
some_of P None x e h = absurd (none_or_some x e)
some_of P (Some y) x e h = subst P (some_injective y x e) h

-- a visit that was broken off, between worlds that are put aside
pub broken_off_aside : {T E : Type 0} (r : Result T E) (t most : ℕ) (old new : WorldView) (was now : Option WorldView)
    → was ≡ Some old → now ≡ Some new → OnErr r (IsVisitBrokenOff t most old new)
    → OnErr r (IsVisitBrokenOffAside t most was now)
broken_off_aside (Ok v) t most old new was now was_is now_is broken = tt
broken_off_aside (Err e) t most old new was now was_is now_is broken = rw (was_is, now_is) broken
