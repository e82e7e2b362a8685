-- What a call does to what a thread works with. `Work::test`, `Work::deliver`, `act` and `Outcome` cite it.
use Rattle.std.specs.Prelude.{◌≡◌, ℕ, suc, [], Bool, Option, Some, None}
use Rattle.sect_types.specs.{declared.expansion.action.Condition.{Condition}, declared.meaning.store.Fault.{Fault}}
use Rattle.sect_types.specs.{Store.{StoreView}, Meaning.{WorkView, is_true}, Whole.{Left, Through, Broken}}

-- a unit of fuel is paid and the condition is tested, where one is left
abbrev pub Tests : Condition → WorkView → WorkView → Option Bool → Type 0
Tests c w v (Some b) = (n : ℕ) × (w.fuel ≡ suc n) × (v ≡ record w { fuel = n }) × (b ≡ is_true w.locals c)
Tests c w v None = (w.fuel ≡ 0) × (v ≡ w)

-- what was printed has been delivered
abbrev pub delivered : WorkView → WorkView
delivered w = record w { printed = [] }

-- a statement is through, or broken off by the fault
abbrev pub left_with : Option Fault → WorkView → StoreView → Left
left_with None w s = Through w s
left_with (Some why) w s = Broken why w s
