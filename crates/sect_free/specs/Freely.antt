-- Runs by whole sections in which no thread wants for fuel. `fuel_only_helps` and the other laws cite it.
use Rattle.std.specs.Prelude.{◌≡◌, ◌≤◌, ℕ, List}
use Rattle.sect_lemmas.specs.Lists.{Has}
use Rattle.sect_types.specs.{Programs.{ProgramView}, Whole.{SerialEndView, RunsWhole}}
use Rattle.sect_types.specs.{declared.meaning.store.End.{End}, declared.meaning.store.End.TheVariants.{Failed}}
use Rattle.sect_serial.specs.Exploring.{Found, AreOutcomes, ends_in}
use Rattle.sect_types.specs.declared.meaning.store.Fault.TheVariants as fault

-- no thread has ended for want of fuel
abbrev pub LacksNone : List End → Type 0
LacksNone ends = Has ends (Failed fault.Fuel) → ⊥

-- in this order of sections the program comes to this end, with some fuel, and no thread wants for more
abbrev pub RunsFreely : ProgramView → List ℕ → SerialEndView → Type 0
RunsFreely p order e = (fuel : ℕ) × RunsWhole p fuel order e × LacksNone e.ends

-- what a program comes to with no want of fuel, it comes to with more fuel
abbrev pub FuelOnlyHelps : Type 0
FuelOnlyHelps =
    (p : ProgramView) (n m : ℕ) (order : List ℕ) (e : SerialEndView) → n ≤ m → RunsWhole p n order e
    → LacksNone e.ends → RunsWhole p m order e

-- an order comes freely to one end at most
abbrev pub FreeEndsAreOne : Type 0
FreeEndsAreOne =
    (p : ProgramView) (order : List ℕ) (e f : SerialEndView) → RunsFreely p order e → RunsFreely p order f → e ≡ f

-- some order comes freely to each of all outcomes with some fuel in which no thread wants for it
abbrev pub FoundAreFree : Type 0
FoundAreFree =
    (p : ProgramView) (fuel : ℕ) (found : Found) → AreOutcomes p fuel found → (e : SerialEndView)
    → Has (ends_in found) e → LacksNone e.ends → (order : List ℕ) × RunsFreely p order e

-- what an order comes to freely is among all outcomes with enough fuel
abbrev pub FreeAreFound : Type 0
FreeAreFound =
    (p : ProgramView) (order : List ℕ) (e : SerialEndView) → RunsFreely p order e
    → (enough : ℕ) × ((fuel : ℕ) (found : Found) → enough ≤ fuel → AreOutcomes p fuel found → Has (ends_in found) e)
