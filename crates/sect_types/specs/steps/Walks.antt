-- What a walk says of the items that it has passed.
use Rattle.std.specs.Prelude.{◌≡◌, Bool, true, false, if◌then◌else◌, List, Result, Ok, Err, ⊤, Option, Some, None}
use Rattle.sect_types.specs.declared.rules.rule.Rule.{Rule}
use Rattle.sect_types.specs.declared.rules.rule.Rule.TheVariants.{Unknown, Twice, WrongType, SharedOutside, TooMany}
use Rattle.sect_types.specs.{declared.rules.rule.WalkFault.{WalkFault}, Items.{Item}, Rules.{Declared, Counts}}
use Rattle.sect_types.specs.steps.Judging.{judge, Faulty}
use Rattle.sect_types.specs.declared.rules.rule.WalkFault.TheVariants as fault

-- these items, given before those of what follows, lead from the old counts to the new ones, or to the fault
abbrev pub Walks : {A : Type 0} → Declared → (List Item → List Item) → Counts → Counts → Result A WalkFault → Type 0
Walks d items old new (Ok a) = (w : List Item) → judge d old (items w) ≡ judge d new w
Walks d items old new (Err fault.Memory) = ⊤
Walks d items old new (Err (fault.Broken i r)) = (w : List Item) → judge d old (items w) ≡ Faulty i r

-- the rule that was answered
abbrev pub rule_in : {A : Type 0} → Result A Rule → Option Rule
rule_in (Ok a) = None
rule_in (Err r) = Some r

-- 10, else 12, else none: whether all names are known, and whether the sides agree in type
abbrev pub of_types : Bool → Bool → Option Rule
of_types false agrees = Some Unknown
of_types true true = None
of_types true false = Some WrongType

-- what is tried after the types
abbrev pub then_rest : Option Rule → Bool → Bool → Option Rule
then_rest (Some r) o m = Some r
then_rest None o m = if o then Some SharedOutside else (if m then Some TooMany else None)

-- the rule that a declaration breaks
abbrev pub declared_rule : Bool → Bool → Bool → Option Rule
declared_rule u t m = if u then Some Unknown else (if t then Some Twice else (if m then Some TooMany else None))
