-- The refusals.
use Rattle.sect_types.specs.{declared.rules.rule.WalkFault.{WalkFault}, declared.rules.rule.TypeFault.{TypeFault}}
use Rattle.sect_types.specs.declared.rules.rule.TypeFault.TheVariants.{Memory, Unknown, Twice, WrongType, SharedOutside}
use Rattle.sect_types.specs.declared.rules.rule.TypeFault.TheVariants.{Nested, TooMany, Recursion, Arguments}
use Rattle.sect_types.specs.declared.rules.rule.Rule.TheVariants as rule
use Rattle.sect_types.specs.declared.rules.rule.WalkFault.TheVariants as fault

-- the refusal that a walk's fault becomes
abbrev pub type_fault : WalkFault → TypeFault
type_fault fault.Memory = Memory
type_fault (fault.Broken i rule.Unknown) = Unknown i
type_fault (fault.Broken i rule.Twice) = Twice i
type_fault (fault.Broken i rule.WrongType) = WrongType i
type_fault (fault.Broken i rule.SharedOutside) = SharedOutside i
type_fault (fault.Broken i rule.Nested) = Nested i
type_fault (fault.Broken i rule.TooMany) = TooMany i
type_fault (fault.Broken i rule.Recursion) = Recursion i
type_fault (fault.Broken i rule.Arguments) = Arguments i
