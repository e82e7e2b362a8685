-- What a reader of words answers.
use Rattle.std.specs.Prelude.{◌≡◌, Option, Some, None, Result, Ok, Err, ⊤}
use Rattle.sect_cert.specs.declared.fault.LineFault.{LineFault}
use Rattle.sect_cert.specs.declared.fault.LineFault.TheVariants as fault

-- why nothing is read
abbrev pub Refuses : {A : Type 0} → LineFault → Option A → Type 0
Refuses fault.Memory read = ⊤
Refuses fault.Bad read = read ≡ None
Refuses fault.Odd read = ⊥

abbrev pub ReadsAs : {A : Type 0} → Result A LineFault → Option A → Type 0
ReadsAs (Ok x) read = read ≡ Some x
ReadsAs (Err fault.Memory) read = ⊤
ReadsAs (Err fault.Bad) read = read ≡ None
ReadsAs (Err fault.Odd) read = ⊥
