-- What the workers of a run share. The private functions of the crate cite it.
use Rattle.std.specs.Prelude.{◌≡◌, ◌<◌, ℕ, List, Option, Some, None, All, length}
use Rattle.sect_emit.specs.Compiled.{CompiledView, program_of}
use Rattle.sect_world.specs.{declared.world.Moment.{Moment}, Moments.{IsMoment}, Worlds.{WorldView}}

-- both are of one compiled program, with the same fuel
abbrev pub IsSameRun : WorldView → WorldView → Type 0
IsSameRun old new = (new.compiled ≡ old.compiled) × (new.fuel ≡ old.fuel)

-- how many threads a compiled program has
abbrev pub threads_in : CompiledView → ℕ
threads_in c = length (program_of c).texts

-- each of these numbers is less than this
abbrev pub AreBelow : ℕ → List ℕ → Type 0
AreBelow n ts = All (λ t. t < n) ts

-- a moment of a run of the compiled program that is named, with that fuel, is there
abbrev pub IsKept : Option Moment → Option CompiledView → ℕ → Type 0
IsKept None named fuel = ⊥
IsKept (Some m) named fuel = (c : CompiledView) × (named ≡ Some c) × IsMoment c m × (m.fuel ≡ fuel)
