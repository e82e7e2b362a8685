-- Whether a program has a scheme for paths of at most k fields.
use Rattle.std.specs.Prelude.{◌≡◌, ◌≤◌, ◌<◌, ℕ, Result, Ok, Err}
use Rattle.sect_types.specs.Programs.{ProgramView}
use Rattle.sect_hints.specs.{declared.fault.HintFault.{HintFault}, Hints.{ObeysHints, IsFirstFault}}
use Rattle.sect_names.specs.declared.fault.SchemeFault.{SchemeFault}
use Rattle.sect_names.specs.declared.fault.SchemeFault.TheVariants.{Memory, BadK, NoSuchGlobal, GuardIsGuarded}
use Rattle.sect_names.specs.{declared.fault.SchemeFault.TheVariants.{HintTwice}, Schemes.{SchemeView}}
use Rattle.sect_hints.specs.declared.fault.Rule.TheVariants as rule
use Rattle.sect_hints.specs.declared.fault.HintFault.TheVariants as hint

-- a fault of the hints is a fault of the scheme
abbrev pub fault_of : HintFault → SchemeFault
fault_of hint.Memory = Memory
fault_of (hint.NoSuchGlobal r) = NoSuchGlobal r
fault_of (hint.GuardIsGuarded r) = GuardIsGuarded r
fault_of (hint.HintTwice r) = HintTwice r

-- the scheme is that of the program and k, where k is at most 3 and the hints obey the rules; else k is refused first,
-- and then the first fault of the hints
abbrev pub Judges : ProgramView → ℕ → Result SchemeView SchemeFault → Type 0
Judges p k (Ok s) = (k ≤ 3) × ObeysHints p × (s.program ≡ p) × (s.most ≡ k)
Judges p k (Err Memory) = k ≤ 3
Judges p k (Err BadK) = 3 < k
Judges p k (Err (NoSuchGlobal r)) = (k ≤ 3) × IsFirstFault p r rule.NoSuchGlobal
Judges p k (Err (GuardIsGuarded r)) = (k ≤ 3) × IsFirstFault p r rule.GuardIsGuarded
Judges p k (Err (HintTwice r)) = (k ≤ 3) × IsFirstFault p r rule.HintTwice
