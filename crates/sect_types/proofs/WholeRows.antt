-- What some programs come to, run by whole sections. Nothing cites these rows: they try the definitions.
use Rattle.std.proofs.Common.{◌≡◌, List, [], ◌∷◌, Option, Some, None, refl}
use Rattle.std.specs.Prelude.{map}
use Rattle.sect_types.specs.declared.meaning.store.ObjectName.TheVariants.{Made}
use Rattle.sect_types.specs.{declared.meaning.store.Datum.TheVariants.{Null, Refers}, declared.meaning.store.End.{End}}
use Rattle.sect_types.specs.{declared.meaning.store.End.TheVariants.{Done, Failed}, Store.{ObjectView}}
use Rattle.sect_types.specs.Whole.{RunView, FrameView, RunsWhole, in_order, begun, all_ahead}
use Rattle.sect_types.proofs.shared.ProgramTexts.{two_bumps, sum_and_push, null_after_write}
use Rattle.sect_types.proofs.shared.WholeRows.{int, object, ending}
use Rattle.sect_types.proofs.ProgramTexts.{two_assignments, too_much}
use Rattle.sect_types.specs.declared.meaning.store.Fault.TheVariants as fault

-- with three units of fuel both are through; with two both fail, and nothing is written
fuel_three : RunsWhole two_bumps 3 (0 ∷ 1 ∷ [])
    (ending (object 0 (int 2 ∷ []) ∷ []) ([] ∷ [] ∷ []) [] (Done ∷ Done ∷ []))
fuel_three = (_, refl, record { store = refl; output = refl; ends = refl })

-- with two units neither is through
fuel_two : RunsWhole two_bumps 2 (0 ∷ 1 ∷ [])
    (ending (object 0 (int 0 ∷ []) ∷ []) ([] ∷ [] ∷ []) [] (Failed fault.Fuel ∷ Failed fault.Fuel ∷ []))
fuel_two = (_, refl, record { store = refl; output = refl; ends = refl })

-- a text that takes two units
local_two : RunsWhole two_assignments 2 [] (ending [] ([] ∷ []) [] (Done ∷ []))
local_two = (_, refl, record { store = refl; output = refl; ends = refl })

-- with one unit it fails
local_one : RunsWhole two_assignments 1 [] (ending [] ([] ∷ []) [] (Failed fault.Fuel ∷ []))
local_one = (_, refl, record { store = refl; output = refl; ends = refl })

-- a sum that is too much
overflow : RunsWhole too_much 10000 [] (ending [] ([] ∷ []) [] (Failed fault.Overflow ∷ []))
overflow = (_, refl, record { store = refl; output = refl; ends = refl })

-- where no unit is left the fault is `fuel`, also of a sum that would be too much
overflow_unpaid : RunsWhole too_much 0 [] (ending [] ([] ∷ []) [] (Failed fault.Fuel ∷ []))
overflow_unpaid = (_, refl, record { store = refl; output = refl; ends = refl })

-- the list with one node pushed to it
pushed : List ObjectView
pushed = object 0 (int 0 ∷ Refers (Made 1 0) ∷ []) ∷ []

-- the node, which the second thread made
fresh_row : List (List ObjectView)
fresh_row = [] ∷ (object 1 (int 5 ∷ Null ∷ []) ∷ []) ∷ []

-- the sum first, then the push; and the other way round
sum_first : RunsWhole sum_and_push 10000 (0 ∷ 1 ∷ []) (ending pushed fresh_row (0 ∷ []) (Done ∷ Done ∷ []))
unfolding pushed fresh_row
sum_first = (_, refl, record { store = refl; output = refl; ends = refl })

-- the other way round
push_first : RunsWhole sum_and_push 10000 (1 ∷ 0 ∷ []) (ending pushed fresh_row (5 ∷ []) (Done ∷ Done ∷ []))
unfolding pushed fresh_row
push_first = (_, refl, record { store = refl; output = refl; ends = refl })

-- a thread that has no section left, and one that has
no_section : in_order sum_and_push (0 ∷ 0 ∷ []) (begun sum_and_push 10000) ≡ None
no_section = refl

-- how the threads end after a run
ends_after : Option RunView → List (Option End)
ends_after None = []
ends_after (Some s) = map (λ (f : FrameView). f.ended) (all_ahead sum_and_push 0 s.frames)

-- after one thread of two the other has a section left
section_left : ends_after (in_order sum_and_push (0 ∷ []) (begun sum_and_push 10000)) ≡ Some Done ∷ None ∷ []
unfolding ends_after
section_left = refl

-- what was done before a fault stays
null_fault : RunsWhole null_after_write 10000 (0 ∷ 1 ∷ [])
    (ending (object 0 (int 0 ∷ Null ∷ []) ∷ object 1 (int 4 ∷ Null ∷ []) ∷ []) ([] ∷ [] ∷ []) (4 ∷ [])
    (Failed fault.Null ∷ Done ∷ []))
null_fault = (_, refl, record { store = refl; output = refl; ends = refl })
