-- The words for how a thread has ended. `Display` of `End` cites them.
use Rattle.std.specs.Prelude.{ℕ, List, codes}
use Rattle.sect_types.specs.{declared.meaning.store.Fault.{Fault}, declared.meaning.store.End.{End}}
use Rattle.sect_types.specs.declared.meaning.store.End.TheVariants.{Done, Failed}
use Rattle.sect_types.specs.declared.meaning.store.Fault.TheVariants as fault

abbrev pub fault_text : Fault → List ℕ
fault_text fault.Overflow = codes "overflow"
fault_text fault.Null = codes "null"
fault_text fault.Fuel = codes "fuel"

abbrev pub end_text : End → List ℕ
end_text Done = codes "done"
end_text (Failed why) = fault_text why
