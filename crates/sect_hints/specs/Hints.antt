-- The rules on hints, and the guards of a program that breaks none.
use Rattle.std.specs.Prelude.{◌≡◌, ◌<◌, ◌≤◌, ◌↔◌, ℕ, List, [], ◌∷◌, Option, Some, None, map, length, slice_get}
use Rattle.std.specs.Prelude.{slice_index_or}
use Rattle.sect_front.specs.declared.tree.Record.{Record}
use Rattle.sect_types.specs.{Sight.{place, names_of_globals}, Programs.{ProgramView}}
use Rattle.sect_lemmas.specs.Lists.{Has}
use Rattle.sect_hints.specs.declared.fault.Rule.{Rule}
use Rattle.sect_hints.specs.declared.fault.Rule.TheVariants.{HintTwice, NoSuchGlobal, GuardIsGuarded}

-- the names in `protected_by` of a record, in text order. A record that isn't there has none
abbrev pub hints_of : ProgramView → ℕ → List (List ℕ)
hints_of p r = slice_index_or (map (λ (x : Record). x.hints) p.source.records) r []

-- a record carries a hint, right or wrong
abbrev pub IsHinted : ProgramView → ℕ → Type 0
IsHinted p r = 0 < length (hints_of p r)

-- the number of the global of that name
abbrev pub global_of : ProgramView → List ℕ → Option ℕ
global_of p name = place name (names_of_globals p.source.globals)

-- the name is that of a global, an object of this record
abbrev pub NamesObjectOf : ProgramView → List ℕ → ℕ → Type 0
NamesObjectOf p name own = (g : ℕ) × (global_of p name ≡ Some g) × (slice_get p.globals g ≡ Some own)

-- a record with these hints breaks the rule
abbrev pub IsBrokenBy : ProgramView → List (List ℕ) → Rule → Type 0
IsBrokenBy p hints HintTwice = 1 < length hints
IsBrokenBy p hints NoSuchGlobal = (name : List ℕ) × Has hints name × (global_of p name ≡ None)
IsBrokenBy p hints GuardIsGuarded = (name : List ℕ) × (own : ℕ) × Has hints name × NamesObjectOf p name own
    × IsHinted p own

-- the rule is broken at the record of that number
abbrev pub IsBroken : ProgramView → ℕ → Rule → Type 0
IsBroken p r rule = IsBrokenBy p (hints_of p r) rule

-- no rule is broken at any record
abbrev pub ObeysHints : ProgramView → Type 0
ObeysHints p = (r : ℕ) (rule : Rule) → IsBroken p r rule → ⊥

-- the order of the rules in one record
abbrev pub rank : Rule → ℕ
rank HintTwice = 0
rank NoSuchGlobal = 1
rank GuardIsGuarded = 2

-- the record is the first at which a rule is broken, and the rule comes first among those that are broken there
pub record IsFirstFault (p : ProgramView) (r : ℕ) (rule : Rule) : Type 0 where
  pub broken : IsBroken p r rule
  pub first : (s : ℕ) (q : Rule) → IsBroken p s q → r ≤ s
  pub least : (q : Rule) → IsBroken p r q → rank rule ≤ rank q

-- global g guards record r: its name is the record's one hint
abbrev pub IsGuardOf : ProgramView → ℕ → ℕ → Type 0
IsGuardOf p r g = (name : List ℕ) × (hints_of p r ≡ name ∷ []) × (global_of p name ≡ Some g)

-- the list has the guard of each record, and none where the record carries no hint
pub record AreGuards (p : ProgramView) (list : List (Option ℕ)) : Type 0 where
  pub as_many : length list ≡ length p.records
  pub guarded : (r g : ℕ) → (slice_index_or list r None ≡ Some g) ↔ IsGuardOf p r g
  pub unguarded : (r : ℕ) → (slice_index_or list r None ≡ None) ↔ (hints_of p r ≡ [])

-- the number is that of a global, an object of a record that has no guard in the list
pub record IsUnguarded (p : ProgramView) (list : List (Option ℕ)) (g : ℕ) : Type 0 where
  pub declared : g < length p.globals
  pub own : ℕ
  pub of_own : slice_get p.globals g ≡ Some own
  pub none : slice_index_or list own None ≡ None

-- no guard is guarded itself
abbrev pub AreUnguarded : ProgramView → List (Option ℕ) → Type 0
AreUnguarded p list = (r g : ℕ) → slice_index_or list r None ≡ Some g → IsUnguarded p list g
