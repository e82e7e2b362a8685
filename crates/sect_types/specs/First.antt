-- Typed trees, and the first item at fault.
use Rattle.std.specs.Prelude.{ℕ, zero, suc, ◌≤◌, List, [], ◌∷◌, Result, Ok, Err, ⊤}
use Rattle.sect_front.specs.TreeView.{TreeView}
use Rattle.sect_types.specs.declared.rules.rule.Rule.{Rule}
use Rattle.sect_types.specs.declared.rules.rule.Rule.TheVariants.{Unknown, Twice, WrongType, SharedOutside, Nested}
use Rattle.sect_types.specs.declared.rules.rule.Rule.TheVariants.{TooMany, Recursion, Arguments}
use Rattle.sect_types.specs.{declared.rules.rule.TypeFault.{TypeFault}, Items.{Item, items}}
use Rattle.sect_types.specs.Rules.{Declared, declared_in, Counts, BreaksRule, after}
use Rattle.sect_types.specs.declared.rules.rule.TypeFault.TheVariants as fault

-- the rule r is broken at item i of the list, before which the counts are c
abbrev pub BreaksFrom : Declared → Counts → List Item → ℕ → Rule → Type 0
BreaksFrom d c [] i r = ⊥
BreaksFrom d c (item ∷ more) zero r = BreaksRule d c item r
BreaksFrom d c (item ∷ more) (suc i) r = BreaksFrom d (after d c item) more i r

abbrev pub none_yet : Counts
none_yet = record { items = 0; statements = 0; sites = 0; sections = 0; calls = 0 }

-- the rule is broken at the item of that number
abbrev pub Breaks : TreeView → ℕ → Rule → Type 0
Breaks t i r = BreaksFrom (declared_in t) none_yet (items t) i r

-- no rule is broken at any item
abbrev pub IsTyped : TreeView → Type 0
IsTyped t = (i : ℕ) (r : Rule) → Breaks t i r → ⊥

-- the number of a rule
abbrev pub number_of_rule : Rule → ℕ
number_of_rule Unknown = 10
number_of_rule Twice = 11
number_of_rule WrongType = 12
number_of_rule SharedOutside = 13
number_of_rule Nested = 14
number_of_rule TooMany = 15
number_of_rule Recursion = 16
number_of_rule Arguments = 17

-- the item is the first at which a rule is broken, and the rule the least that is broken there
pub record IsFirstFrom (d : Declared) (c : Counts) (list : List Item) (i : ℕ) (r : Rule) : Type 0 where
  pub broken : BreaksFrom d c list i r
  pub first : (j : ℕ) (q : Rule) → BreaksFrom d c list j q → i ≤ j
  pub least : (q : Rule) → BreaksFrom d c list i q → number_of_rule r ≤ number_of_rule q

abbrev pub IsFirstFault : TreeView → ℕ → Rule → Type 0
IsFirstFault t i r = IsFirstFrom (declared_in t) none_yet (items t) i r

-- a program is given for a typed tree alone, and a refusal names the first item at fault and its least rule
abbrev pub Judges : {A : Type 0} → TreeView → Result A TypeFault → Type 0
Judges t (Ok a) = IsTyped t
Judges t (Err fault.Memory) = ⊤
Judges t (Err (fault.Unknown i)) = IsFirstFault t i Unknown
Judges t (Err (fault.Twice i)) = IsFirstFault t i Twice
Judges t (Err (fault.WrongType i)) = IsFirstFault t i WrongType
Judges t (Err (fault.SharedOutside i)) = IsFirstFault t i SharedOutside
Judges t (Err (fault.Nested i)) = IsFirstFault t i Nested
Judges t (Err (fault.TooMany i)) = IsFirstFault t i TooMany
Judges t (Err (fault.Recursion i)) = IsFirstFault t i Recursion
Judges t (Err (fault.Arguments i)) = IsFirstFault t i Arguments
