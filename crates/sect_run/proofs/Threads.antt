-- Whose events the turns of a run are.
use Rattle.std.proofs.Common.{◌<◌, ℕ, zero, suc, List, [], ◌∷◌, ◌++◌, length, sym, subst, arith}
use Rattle.std.proofs.lemmas.Option.{slice_get_within}
use Rattle.std.specs.Prelude.{drop, slice_index_or}
use Rattle.sect_emit.specs.{Compiled.{CompiledView}, State.{State, start}}
use Rattle.sect_world.specs.{declared.event.Event.{Event}, declared.turned.Turned.{Turned}}
use Rattle.sect_world.specs.{declared.turned.Turned.TheVariants.{Moved, Waits, Ended}, Runs.{RunsTo, IsRun}}
use Rattle.sect_world.specs.{Worlds.{Does, threads_of}, Laws.{StatesAreWellKept}}
use Rattle.sect_world.proofs.shared.LongerRuns.{leads_more}
use Rattle.sect_run.specs.steps.Shares.{AreBelow, threads_in}

-- the events by which a run goes on are of threads of the program
events_there : (c : CompiledView) → StatesAreWellKept c → (fuel : ℕ) (before : List Event) (s : State)
    → IsRun c fuel before s → (es : List Event) (after : State) → RunsTo c s es after
    → (k d : ℕ) → k < length (threads_of es) → slice_index_or (threads_of es) k d < threads_in c
events_there c kept fuel before s run [] after leads k d lt = absurd (omega (arith, lt))
events_there c kept fuel before s run (e ∷ es) after leads zero d lt =
    let happens = leads.1 in
    let within = slice_get_within s.threads e.thread happens.0 happens.1 in
    subst (λ n. e.thread < n) (kept fuel before s run).as_many within
events_there c kept fuel before s run (e ∷ es) after leads (suc k) d lt =
    let on = leads_more c (start c fuel) s leads.0 before e run leads.1 in
    events_there c kept fuel (before ++ e ∷ []) leads.0 on es after leads.2 k d (omega (arith, lt))

none_there : (n : ℕ) → AreBelow n (threads_of (drop 1 []))
none_there n k d lt = absurd (omega (arith, lt))

-- so are those whom a turn lets in
pub let_in_there : (c : CompiledView) → StatesAreWellKept c → (fuel : ℕ) (before : List Event) (s : State)
    → IsRun c fuel before s → (t : ℕ) (turned : Turned) (es : List Event) (after : State) → Does c s t turned es after
    → AreBelow (threads_in c) (threads_of (drop 1 es))
let_in_there c kept fuel before s run t (Moved kind) [] after does = absurd does
let_in_there c kept fuel before s run t (Moved kind) (e ∷ es) after does =
    λ k d lt. events_there c kept fuel before s run (e ∷ es) after does.3 (suc k) d (omega (arith, lt))
let_in_there c kept fuel before s run t Waits es after does =
    subst (λ z. AreBelow (threads_in c) (threads_of (drop 1 z))) (sym does.0) (none_there (threads_in c))
let_in_there c kept fuel before s run t Ended es after does =
    subst (λ z. AreBelow (threads_in c) (threads_of (drop 1 z))) (sym does.0) (none_there (threads_in c))
