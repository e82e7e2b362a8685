-- What a look at the hints of one record finds.
use Rattle.std.specs.Prelude.{◌≡◌, ◌≤◌, ℕ, List, [], ◌∷◌, Option, Some, None, Result, Ok, Err, slice_get}
use Rattle.sect_types.specs.Programs.{ProgramView}
use Rattle.sect_hints.specs.{declared.fault.Rule.{Rule}, Hints.{hints_of, global_of, IsBrokenBy, rank}}

-- global g has this name, and its record carries no hint
pub record IsFree (p : ProgramView) (name : List ℕ) (g : ℕ) : Type 0 where
  pub named : global_of p name ≡ Some g
  pub own : ℕ
  pub of_own : slice_get p.globals g ≡ Some own
  pub unhinted : hints_of p own ≡ []

-- the rule is broken by these hints, and no rule that comes before it
pub record IsFirstBroken (p : ProgramView) (hints : List (List ℕ)) (rule : Rule) : Type 0 where
  pub broken : IsBrokenBy p hints rule
  pub least : (q : Rule) → IsBrokenBy p hints q → rank rule ≤ rank q

-- a lone hint gives its guard, or breaks a rule
abbrev pub FindsNamed : ProgramView → List ℕ → Result ℕ Rule → Type 0
FindsNamed p name (Ok g) = IsFree p name g
FindsNamed p name (Err rule) = IsFirstBroken p (name ∷ []) rule

-- hints give no guard where there are none, a guard where there is one, or break a rule
abbrev pub Finds : ProgramView → List (List ℕ) → Result (Option ℕ) Rule → Type 0
Finds p hints (Ok None) = hints ≡ []
Finds p hints (Ok (Some g)) = (name : List ℕ) × (hints ≡ name ∷ []) × IsFree p name g
Finds p hints (Err rule) = IsFirstBroken p hints rule
