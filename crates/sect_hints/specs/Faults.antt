-- The refusals.
use Rattle.std.specs.Prelude.{◌≡◌, ◌⊎◌, ℕ, Result, Ok, Err, ⊤}
use Rattle.sect_types.specs.Programs.{ProgramView}
use Rattle.sect_hints.specs.{declared.fault.Rule.{Rule}, declared.fault.HintFault.{HintFault}}
use Rattle.sect_hints.specs.declared.fault.HintFault.TheVariants.{Memory, NoSuchGlobal, GuardIsGuarded, HintTwice}
use Rattle.sect_hints.specs.Hints.{ObeysHints, IsFirstFault}
use Rattle.sect_hints.specs.declared.fault.Rule.TheVariants as rule

-- the refusal of a record that breaks the rule
abbrev pub hint_fault : Rule → ℕ → HintFault
hint_fault rule.HintTwice r = HintTwice r
hint_fault rule.NoSuchGlobal r = NoSuchGlobal r
hint_fault rule.GuardIsGuarded r = GuardIsGuarded r

-- an answer is given where no rule is broken, and a refusal names the first record at fault and its first rule
abbrev pub Judges : {A : Type 0} → ProgramView → Result A HintFault → Type 0
Judges p (Ok a) = ObeysHints p
Judges p (Err Memory) = ⊤
Judges p (Err (NoSuchGlobal r)) = IsFirstFault p r rule.NoSuchGlobal
Judges p (Err (GuardIsGuarded r)) = IsFirstFault p r rule.GuardIsGuarded
Judges p (Err (HintTwice r)) = IsFirstFault p r rule.HintTwice

-- the answer is this refusal, or want of memory
abbrev pub Refuses : {A : Type 0} → HintFault → Result A HintFault → Type 0
Refuses fault (Ok a) = ⊥
Refuses fault (Err e) = (e ≡ fault) ⊎ (e ≡ Memory)
