-- Where threads stand, by the nodes of graphs. `World::standing` cites it.
use Rattle.std.specs.Prelude.{◌≡◌, ◌⊎◌, ⊤, ℕ}
use Rattle.sect_graph.specs.Rests.{rest_at}
use Rattle.sect_emit.specs.{Compiled.{CompiledView}, Graphed.{IsThere, graphed_text, text_at}}
use Rattle.sect_emit.specs.State.{Position, Outside, Entered, Running, Faulted, ThreadState, State, IsThread}
use Rattle.sect_emit.specs.declared.graphs.GraphOf.{GraphOf}
use Rattle.sect_world.specs.{declared.runner.Phase.{Phase}, declared.standing.Standing.{Standing}}
use Rattle.sect_emit.specs.declared.graphs.GraphOf.TheVariants as graphed
use Rattle.sect_world.specs.declared.standing.Standing.TheVariants.{At, Broken}
use Rattle.sect_world.specs.declared.runner.Phase.TheVariants as phase

-- it runs no section: it is outside, or asks for the keys of one
abbrev pub IsBetween : Position → Type 0
IsBetween p = (p ≡ Outside) ⊎ (p ≡ Entered)

-- the node of the graph is where thread t stands: what is still to run there is what the thread is to run next
abbrev pub IsAtNode : CompiledView → ℕ → ThreadState → GraphOf → ℕ → Type 0
IsAtNode c t th (graphed.Thread u) n = (u ≡ t) × IsBetween th.position × (th.frame.text ≡ rest_at (text_at c u) n)
IsAtNode c t th (graphed.Section i) n = th.position ≡ Running i (rest_at (graphed_text c (graphed.Section i)) n)

-- thread t stands there
abbrev pub StandsAt : CompiledView → ℕ → ThreadState → Standing → Type 0
StandsAt c t th (At of n) = IsAtNode c t th of n
StandsAt c t th (Broken why) = (i : ℕ) × (th.position ≡ Faulted i why)

-- the graph, if there is one, is of the program
abbrev pub IsStandingThere : CompiledView → Standing → Type 0
IsStandingThere c (At of n) = IsThere c of
IsStandingThere c (Broken why) = ⊤

-- where thread t of the state stands
pub record IsStanding (c : CompiledView) (s : State) (t : ℕ) (standing : Standing) : Type 0 where
  pub thread : ThreadState
  pub is : IsThread s t thread
  pub stands : StandsAt c t thread standing
  pub there : IsStandingThere c standing

-- what a thread's phase and its node tell of it
abbrev pub standing_by : ℕ → Phase → ℕ → Standing
standing_by t phase.Outside n = At (graphed.Thread t) n
standing_by t phase.Entered n = At (graphed.Thread t) n
standing_by t (phase.Running i j) n = At (graphed.Section i) j
standing_by t (phase.Faulted i why) n = Broken why
