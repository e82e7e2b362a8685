-- A search for ways of calls that ends: no shortest way is longer than there are procedures.
use Rattle.std.specs.Prelude.{ℕ, zero, suc, Bool, false, ◌||◌, List, length, nat_eq, Option, Some, slice_get}
use Rattle.std.specs.List.{list_any}
use Rattle.sect_front.specs.declared.tree.Procedure.{Procedure}
use Rattle.sect_types.specs.{declared.rules.place.Place.{Place}, declared.rules.place.Place.TheVariants.{InProcedure}}
use Rattle.sect_types.specs.{Items.{Item, CallHead, AStatement}, Sums.{calls_in, number_of}, Rules.{Declared}}

-- procedure q reaches p by at least one call and at most n
abbrev pub reaches : ℕ → List Procedure → ℕ → ℕ → Bool
reaches zero ps q p = false
reaches (suc n) ps q p = list_any (λ r. nat_eq r p || reaches n ps r p) (calls_in ps (slice_get ps q))

-- q is p or reaches it
abbrev pub returns : List Procedure → ℕ → ℕ → Bool
returns ps p q = nat_eq q p || reaches (length ps) ps q p

-- a call there is of a procedure that is it or reaches it
abbrev pub returns_to : List Procedure → Place → Option ℕ → Bool
returns_to ps (InProcedure p) (Some q) = returns ps p q
returns_to ps _ _ = false

abbrev pub recursive : Declared → Item → Bool
recursive d (AStatement (CallHead f vs) ls at) = returns_to d.procedures at (number_of d.procedures f)
recursive d _ = false
