-- Which refusal is due of a text that is compiled by several workers. `compile_with` cites it.
use Rattle.std.specs.Prelude.{◌≡◌, ◌≢◌, ℕ, List}
use Rattle.sect_names.specs.{Sources.{IsDue}, declared.refusal.SourceRefusal.{SourceRefusal}}
use Rattle.sect_infer.specs.{Workers.{AreOffered, AreRefused}, declared.workers.InferFault.{InferFault}}
use Rattle.sect_emit.specs.declared.fault.CompileFault.{CompileFault}
use Rattle.sect_names.specs.declared.refusal.SourceRefusal.TheVariants as refusal
use Rattle.sect_infer.specs.declared.workers.InferFault.TheVariants as infer
use Rattle.sect_emit.specs.declared.fault.CompileFault.TheVariants as fault

-- a fault of the workers, and a refusal of the source; want of memory is never inside another
abbrev pub of_workers : InferFault → CompileFault
of_workers infer.Memory = fault.Memory
of_workers why = fault.Workers why

abbrev pub of_source : SourceRefusal → CompileFault
of_source refusal.Memory = fault.Memory
of_source why = fault.Source why

-- the refusal is due: the number of workers is judged first, and then all else as without workers
abbrev pub IsDueBy : ℕ → List ℕ → ℕ → CompileFault → Type 0
IsDueBy workers bytes k (fault.Workers why) = (why ≡ infer.BadWorkers) × AreRefused workers
IsDueBy workers bytes k (fault.Source why) = AreOffered workers × (why ≢ refusal.Memory) × IsDue bytes k why
IsDueBy workers bytes k fault.Memory = AreOffered workers × IsDue bytes k refusal.Memory
